-- A run over a trace in the grammar goes through.
use Rattle.std.proofs.Common.{◌≡◌, ◌≢◌, ◌∙◌, ℕ, List, ◌++◌, length, sym, ap, subst, arith, inl, inr, length-append, Bool}
use Rattle.std.specs.Prelude.{◌⊎◌, All, IsOk, is_ok, Option, None, Some, IfSome}
use Rattle.std.proofs.lemmas.Bool.{true≢false}
use Rattle.pmem_base.proofs.ListLaws.{All-middle}
use Rattle.suite.specs.Setup.{Setup}
use Rattle.plain_model.specs.declared.Stop.{Stop}
use Rattle.plain_model.specs.declared.Stop.TheVariants.{Finished, Words, Memory, ReadFault, WriteFault, Refused, Shown, TooManyLines}
use Rattle.plain_model.specs.Lines.{lines_of}
use Rattle.plain_model.specs.Grammar.{reading_of}
use Rattle.plain_model.specs.Run.{Step, Ends, status_of}
use Rattle.pmem_base.specs.declared.commands.Kind.{Kind}
use Rattle.trace_text.specs.Talks.{Sort, skipped, asked, faulty}
use Rattle.trace_text.specs.Conversations.{Protocol, line_sort, TalkEnds}
use Rattle.pmem_cli.specs.declared.options.Task.{Task}
use Rattle.pmem_cli.specs.HasRun.{HasRun, TaskOutcome, IsInGrammar, IsComplete}
use Rattle.pmem_cli.specs.Logged.{LoggedEnds, HasLoggedRun, steps_logged}
use Rattle.pmem_cli.specs.Sessions.{Language, spoken, HasSession}
use Rattle.pmem_cli.specs.Talked.{HasTalked, IsNoFault, IsInLanguage, IsRunThrough, IsTalkComplete}
use Rattle.pmem_cli.specs.Tree.{tree_language}
use Rattle.pmem_cli.specs.Txn.{txn_language}
use Rattle.pmem_cli.specs.Wear.{wear_language}

through_by : (stop : Stop) (setup : Setup) (status : ℕ) (trace : List ℕ) (left : Option (List ℕ)) (steps : List Step) → Ends setup stop trace left steps
    → status ≡ status_of stop → status ≢ 3 → status ≢ 4 → IsInGrammar trace → IsRunThrough status
through_by Finished setup status trace left steps ends is read write grammar = inl is
through_by Memory setup status trace left steps ends is read write grammar = inr (inr is)
through_by Words setup status trace left steps ends is read write grammar = absurd ends
through_by ReadFault setup status trace left steps ends is read write grammar = absurd (read is)
through_by WriteFault setup status trace left steps ends is read write grammar = absurd (write is)
through_by (Refused number kind) setup status trace left steps ends is read write grammar =
    let ok : IsOk (reading_of ends.line) =
    All-middle (λ line. IsOk (reading_of line)) ends.before ends.line ends.behind (subst (All (λ line. IsOk (reading_of line))) ends.cut grammar.0) in
    absurd (true≢false (sym ok ∙ ap is_ok ends.refused))
through_by Shown setup status trace left steps ends is read write grammar = inr (inl is)
through_by TooManyLines setup status trace left steps ends is read write grammar =
    let all : length (lines_of trace) ≡ length (ends.front.before ++ ends.front.behind) = ap length ends.front.cut in
    absurd (omega (arith, all, length-append ends.front.before ends.front.behind, ends.counted, ends.more, grammar.1))

run_complete : (setup : Setup) (status : ℕ) (trace left before after : Option (List ℕ)) (reads writes : Type 0) → HasRun setup status reads trace left before after
    → (status ≡ 3 → reads) → (status ≡ 4 → writes) → IfSome trace (λ bytes. IsInGrammar bytes → ¬ (reads ⊎ writes) → IsRunThrough status)
run_complete setup status None left before after reads writes run read write = tt
run_complete setup status (Some bytes) left before after reads writes run read write = λ grammar no_fault.
    through_by run.stop setup status bytes left run.steps run.ends (run.its_status (λ four. no_fault (inr (write four))))
    (λ three. no_fault (inl (read three))) (λ four. no_fault (inr (write four))) grammar

-- so it is with a log, for which memory may be wanted
through_logged : (stop : Stop) (setup : Setup) (status : ℕ) (trace : List ℕ) (left : Option (List ℕ)) (steps : List Step) → LoggedEnds setup stop trace left steps
    → status ≡ status_of stop → status ≢ 3 → status ≢ 4 → IsInGrammar trace → IsRunThrough status
through_logged Memory setup status trace left steps ends is read write grammar = inr (inr is)
through_logged Finished setup status trace left steps ends is read write grammar = through_by Finished setup status trace left steps ends is read write grammar
through_logged Words setup status trace left steps ends is read write grammar = through_by Words setup status trace left steps ends is read write grammar
through_logged ReadFault setup status trace left steps ends is read write grammar = through_by ReadFault setup status trace left steps ends is read write grammar
through_logged WriteFault setup status trace left steps ends is read write grammar = through_by WriteFault setup status trace left steps ends is read write grammar
through_logged (Refused number kind) setup status trace left steps ends is read write grammar =
    through_by (Refused number kind) setup status trace left steps ends is read write grammar
through_logged Shown setup status trace left steps ends is read write grammar = through_by Shown setup status trace left steps ends is read write grammar
through_logged TooManyLines setup status trace left steps ends is read write grammar = through_by TooManyLines setup status trace left steps ends is read write grammar

logged_complete : (setup : Setup) (status : ℕ) (trace left before after : Option (List ℕ)) (reads writes : Type 0) → HasLoggedRun setup status reads trace left before after
    → (status ≡ 3 → reads) → (status ≡ 4 → writes) → IfSome trace (λ bytes. IsInGrammar bytes → ¬ (reads ⊎ writes) → IsRunThrough status)
logged_complete setup status None left before after reads writes run read write = tt
logged_complete setup status (Some bytes) left before after reads writes run read write = λ grammar no_fault.
    through_logged run.stop setup status bytes left (steps_logged run.all) run.ends (run.its_status (λ four. no_fault (inr (write four))))
    (λ three. no_fault (inl (read three))) (λ four. no_fault (inr (write four))) grammar

-- ---- a session's trace

no_fault : (sort : Sort) (kind : Kind) → IsNoFault sort → sort ≡ faulty kind → ⊥
no_fault (faulty other) kind none is = none
no_fault skipped kind none is = absurd cc
no_fault asked kind none is = absurd cc

talk_through : {S X : Type 0} (p : Protocol S X) (first : S) (stop : Stop) (status : ℕ) (trace : List ℕ) (left : Option (List ℕ)) (xs : List X)
    → TalkEnds p first 0 stop trace left xs → status ≡ status_of stop → status ≢ 3 → status ≢ 4 → IsInLanguage p trace → IsRunThrough status
talk_through p first Finished status trace left xs ends is read write within = inl is
talk_through p first Memory status trace left xs ends is read write within = inr (inr is)
talk_through p first Words status trace left xs ends is read write within = absurd ends
talk_through p first ReadFault status trace left xs ends is read write within = absurd (read is)
talk_through p first WriteFault status trace left xs ends is read write within = absurd (write is)
talk_through p first (Refused number kind) status trace left xs ends is read write within =
    let none : IsNoFault (line_sort p ends.line) =
    All-middle (λ line. IsNoFault (line_sort p line)) ends.before ends.line ends.behind (subst (All (λ line. IsNoFault (line_sort p line))) ends.cut within.0) in
    absurd (no_fault (line_sort p ends.line) kind none ends.refused)
talk_through p first Shown status trace left xs ends is read write within = inr (inl is)
talk_through p first TooManyLines status trace left xs ends is read write within =
    let all : length (lines_of trace) ≡ length (ends.front.before ++ ends.front.behind) = ap length ends.front.cut in
    absurd (omega (arith, all, length-append ends.front.before ends.front.behind, ends.counted, ends.more, within.1))

pub talk_complete : {S X : Type 0} (p : Protocol S X) (first : S) (status : ℕ) (trace left before after : Option (List ℕ)) (reads writes : Type 0)
    → HasTalked p first status reads trace left before after → (status ≡ 3 → reads) → (status ≡ 4 → writes) → IsTalkComplete p status trace (reads ⊎ writes)
talk_complete p first status None left before after reads writes talked read write = tt
talk_complete p first status (Some bytes) left before after reads writes talked read write = λ within no_fault.
    talk_through p first talked.stop status bytes left talked.replies talked.ends (talked.its_status (λ four. no_fault (inr (write four))))
    (λ three. no_fault (inl (read three))) (λ four. no_fault (inr (write four))) within

-- the same of a session of a command, also where memory was wanted for it
session_complete : {R : Type 0} (language : Language R) (logged : Bool) (status : ℕ) (trace left before after : Option (List ℕ)) (reads writes : Type 0)
    → HasSession language logged status reads trace left before after → (status ≡ 3 → reads) → (status ≡ 4 → writes)
    → IsTalkComplete (spoken language logged) status trace (reads ⊎ writes)
session_complete language logged status None left before after reads writes done read write = tt
session_complete language logged status (Some bytes) left before after reads writes done read write = λ within no_fault.
    let its = done.its_status (λ four. no_fault (inr (write four))) in
    elim done.talked [
      | inl none ↦ inr (inr (its ∙ ap status_of none.0))
      | inr talked ↦
          talk_through (spoken language logged) tt done.stop status bytes left done.replies talked.ends its
          (λ three. no_fault (inl (read three))) (λ four. no_fault (inr (write four))) within
    ]

-- ---- what was asked for

pub complete : (task : Task) (status : ℕ) (trace left before after : Option (List ℕ)) (reads writes : Type 0) → TaskOutcome task status reads trace left before after
    → (status ≡ 3 → reads) → (status ≡ 4 → writes) → IsComplete task status trace (reads ⊎ writes)
complete (Task.Run c) status trace left before after reads writes done read write = run_complete _ status trace left before after reads writes done read write
complete (Task.Log c) status trace left before after reads writes done read write = logged_complete _ status trace left before after reads writes done read write
complete (Task.Wear c) status trace left before after reads writes done read write =
    session_complete (wear_language c) c.log status trace left before after reads writes done read write
complete (Task.Tree c) status trace left before after reads writes done read write =
    session_complete (tree_language c) c.log status trace left before after reads writes done read write
complete (Task.Txn c) status trace left before after reads writes done read write =
    session_complete (txn_language c) c.log status trace left before after reads writes done read write
complete task status trace left before after reads writes done read write = tt
