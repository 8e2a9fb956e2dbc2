-- What a commit leaves, by its answer.
use Rattle.std.proofs.Common.{ℕ, suc, ◌≡◌, ◌≤◌, ◌+◌, ◌^◌, inl, inr, true, false, eqb, List, [], ◌∷◌, length, Result, Ok, Err, refl, sym, ap, subst, ◌∙◌, arith, rules}
use Rattle.line_txn.proofs.Common.{All, slice_set, eqb-true, eqb-false, length-map, All-nil, IsLine-zero_line, Line, data_lines, IsLine, put_lines, Setup, Fault, Parts, AreTrusted, AreSound, LeavesTrusted, LeavesSound, HasLines, IsUnspent, AreEdited, IsEditOf, all_edited, Store, Committed, CommitFault, Edit, AreDistinctBelow, AreTargets, CommitStage, logged, decided, cleared, lines_decided, commit_lines_at, with_header, targets_of, bodies_of, IsWholeTxn, body_edits, target_edits, deciding_edits, applying_edits, HasStoreCommitted, HasDecided, HasCommitGoneOn, IsServedAs, IsServedBy, IsCommitEnd, IsLeftLogged, IsSoundCommitAnswer, IsSpentUndecided, commit_answer_by, commit_outcome_by, commit_fault, IsCommitRefused, AfterEdits, LeftTrusted, LeftSound, trusted_after_edits, sound_after_edits, edits_leave, LeavesAll, after_last, StopsEditsBy, stops_by}
use Rattle.pmem_base.specs.Lines.{zero_line}
use Rattle.pmem_engine.specs.declared.fault.Fault.TheVariants as Fail
use Rattle.line_txn.specs.declared.store.Committed.TheVariants as Do
use Rattle.engine_lines.specs.declared.edits.Edit.TheVariants as Make
use Rattle.line_txn.specs.Header.{header_of}
use Rattle.line_txn.proofs.LoggedLaws.{whole_at_each_stage, zero_header}
use Rattle.line_txn.proofs.EditStages.{after_bodies, after_all_bodies, after_targets, after_all_targets, length-bodies, length-targets, deciding_fit, applying_fit}

-- ---- the lines

-- a transaction of a memory of n data lines
pub record IsTxnOf (setup : Setup) (n : ℕ) (txn : List (ℕ × Line)) : Type 0 where
  pub size : n + 16 ≡ data_lines setup.shape
  pub low : n ≤ 2 ^ 30
  pub below : AreDistinctBelow n (targets_of txn)
  pub lines : IsWholeTxn txn

module _ (setup : Setup) (n : ℕ) (txn : List (ℕ × Line)) (lines : List Line) (its : IsTxnOf setup n txn) where
  targets : AreTargets n (targets_of txn)
  targets = let few = its.lines.few in record { few = omega (arith, few, length-map txn (λ e. e.0)); below = its.below }

  small : data_lines setup.shape ≤ 2 ^ 32
  small = let size = its.size in let low = its.low in omega (arith, size, low)

  abbrev Left : Parts → Result Committed CommitFault → Type 0
  Left to answer = IsLeftLogged setup txn n lines to answer

  left_at : (stage : CommitStage) (to : Parts) (answer : Result Committed CommitFault) → IsCommitEnd answer txn stage
      → HasLines setup (commit_lines_at stage n txn lines) to → Left to answer
  left_at stage to answer end holds =
      record {
        stage = stage;
        ended = end;
        its_lines = holds;
        logged = λ memory held. whole_at_each_stage n lines memory txn stage targets held;
      }

  -- the lines once the header is written
  decided_lines : all_edited (deciding_edits n txn) lines ≡ lines_decided n txn lines
  decided_lines =
      after_last (body_edits (n + 1) (bodies_of txn)) (Make.Put n (header_of (targets_of txn))) lines
      ∙ ap (with_header n (targets_of txn)) (after_all_bodies (n + 1) (bodies_of txn) lines)

  -- and once the zero header is
  cleared_lines : all_edited (applying_edits n txn) (lines_decided n txn lines) ≡ commit_lines_at cleared n txn lines
  cleared_lines =
      after_last (target_edits txn) (Make.Put n zero_line) (lines_decided n txn lines)
      ∙ ap (λ l. slice_set l n zero_line) (after_all_targets txn (lines_decided n txn lines))
      ∙ ap (slice_set (put_lines txn (lines_decided n txn lines)) n) (sym zero_header)

  -- the header isn't written, or it is if no line is spent
  refused_left : (to : Parts) (fault : Fault)
      → StopsEditsBy setup (body_edits (n + 1) (bodies_of txn)) (Make.Put n (header_of (targets_of txn))) lines to fault
      → Left to (Err (record { fault = fault; committed = false }))
  refused_left to fault stops =
      elim stops.left [
        | inl same ↦
            left_at (logged stops.k) to (Err (record { fault = fault; committed = false }))
            (refl, subst (λ c. stops.k ≤ c) (length-bodies (n + 1) txn) stops.within)
            (subst (λ l. HasLines setup l to) (after_bodies (n + 1) stops.k (bodies_of txn) lines) same)
        | inr put ↦
            left_at (decided 0) to (Err (record { fault = fault; committed = false })) (inr (refl, put.1), omega arith)
            (subst (λ l. HasLines setup l to) (ap (with_header n (targets_of txn)) (after_all_bodies (n + 1) (bodies_of txn) lines)) put.2)
      ]

  -- the targets are written, or the first k of them, and then the zero header
  applied_left : (to : Parts) (applied : Result (Unit {0}) Fault)
      → LeavesAll setup small applied (applying_edits n txn) (lines_decided n txn lines) to → Left to (commit_answer_by applied)
  applied_left to (Ok done) holds =
      left_at cleared to (Ok Do.Applied) tt (subst (λ l. HasLines setup l to) cleared_lines holds)
  applied_left to (Err fault) stops =
      go (stops_by setup small (target_edits txn) (Make.Put n zero_line) (lines_decided n txn lines) to fault stops)
    where
      -- which stage is an end, by the fault
      at_decided : (fault : Fault) (k : ℕ) → k ≤ length txn → IsCommitEnd (commit_answer_by (Err fault)) txn (decided k)
      at_decided (Fail.Spent page) k few = few
      at_decided Fail.Cut k few = (inl refl, few)
      at_decided Fail.Down k few = (inl refl, few)
      at_decided (Fail.Meta x) k few = (inl refl, few)
      at_decided (Fail.Tag at) k few = (inl refl, few)
      at_decided Fail.Shown k few = (inl refl, few)

      at_cleared : (fault : Fault) → IsUnspent fault → IsCommitEnd (commit_answer_by (Err fault)) txn cleared
      at_cleared (Fail.Spent page) unspent = absurd unspent
      at_cleared Fail.Cut unspent = refl
      at_cleared Fail.Down unspent = refl
      at_cleared (Fail.Meta x) unspent = refl
      at_cleared (Fail.Tag at) unspent = refl
      at_cleared Fail.Shown unspent = refl

      go : StopsEditsBy setup (target_edits txn) (Make.Put n zero_line) (lines_decided n txn lines) to fault → Left to (commit_answer_by (Err fault))
      go by =
          elim by.left [
            | inl same ↦
                left_at (decided by.k) to (commit_answer_by (Err fault))
                (at_decided fault by.k (subst (λ c. by.k ≤ c) (length-targets txn) by.within))
                (subst (λ l. HasLines setup l to) (after_targets by.k txn (lines_decided n txn lines)) same)
            | inr put ↦
                left_at cleared to (commit_answer_by (Err fault)) (at_cleared fault put.1)
                (subst (λ l. HasLines setup l to)
                (ap (λ l. slice_set l n zero_line) (after_all_targets txn (lines_decided n txn lines))
                ∙ ap (slice_set (put_lines txn (lines_decided n txn lines)) n) (sym zero_header)) put.2)
          ]

  decided_left : (old new : Store) (from to : Parts) (answer : Result Committed CommitFault) → old.lines ≡ n
      → HasLines setup lines from → AreTrusted setup from → HasDecided setup txn old new from to answer → Left to answer
  decided_left old new from to answer same had trusted it =
      go it.made (subst (λ m. AreEdited setup (deciding_edits m txn) from it.between it.made) same it.was_made) it.then
    where
      fit : All (IsEditOf (data_lines setup.shape)) (deciding_edits n txn)
      fit = deciding_fit n (data_lines setup.shape) its.size txn its.lines.few its.lines.whole its.lines.header

      go : (made : Result (Unit {0}) Fault) → AreEdited setup (deciding_edits n txn) from it.between made
          → HasCommitGoneOn made setup txn old new it.between to answer → Left to answer
      go (Ok done) was then =
          let there : HasLines setup (lines_decided n txn lines) it.between =
          subst (λ l. HasLines setup l it.between) decided_lines
          (edits_leave setup small (deciding_edits n txn) lines from it.between (Ok done) fit had trusted was) in
          subst (Left to) (sym then.its_answer)
          (applied_left to then.applied
          (edits_leave setup small (applying_edits n txn) (lines_decided n txn lines) it.between to then.applied
          (applying_fit n (data_lines setup.shape) its.size txn its.below its.lines.whole) there
          (trusted_after_edits setup (deciding_edits n txn) from it.between (Ok done) was trusted)
          (subst (λ m. AreEdited setup (applying_edits m txn) it.between to then.applied) same then.was_applied)))
      go (Err fault) was then =
          subst (Left to) (sym then.its_answer)
          (subst (λ parts. Left parts (Err (record { fault = fault; committed = false }))) (sym then.nothing_else)
          (refused_left it.between fault
          (stops_by setup small (body_edits (n + 1) (bodies_of txn)) (Make.Put n (header_of (targets_of txn))) lines it.between fault
          (edits_leave setup small (deciding_edits n txn) lines from it.between (Err fault) fit had trusted was))))

-- a transaction without lines
pub no_txn : IsWholeTxn []
no_txn =
    record {
      few = omega arith;
      whole = All-nil IsLine;
      header = subst IsLine (sym zero_header) IsLine-zero_line;
    }

pub left_logged : (setup : Setup) (txn : List (ℕ × Line)) (lines : List Line) (old new : Store) (from to : Parts)
    (answer : Result Committed CommitFault) → IsTxnOf setup old.lines txn → HasLines setup lines from → AreTrusted setup from
    → HasStoreCommitted setup txn old new from to answer → IsLeftLogged setup txn old.lines lines to answer
left_logged setup [] lines old new from to answer its had trusted it =
    subst (IsLeftLogged setup [] old.lines lines to) (sym it.its_answer)
    (left_at setup old.lines [] lines its (logged 0) to (Ok Do.Applied) refl (subst (HasLines setup lines) (sym it.nothing_done) had))
left_logged setup (entry ∷ txn) lines old new from to answer its had trusted it =
    decided_left setup old.lines (entry ∷ txn) lines its old new from to answer refl had trusted it

-- ---- trusted and sound

-- what holds after a commit: P, or what E says of the fault
abbrev pub AfterCommit : (Parts → Type 0) → (Fault → Parts → Type 0) → Result Committed CommitFault → Parts → Type 0
AfterCommit P E (Ok Do.Applied) to = P to
AfterCommit P E (Ok (Do.Stuck page)) to = E (Fail.Spent page) to
AfterCommit P E (Err fault) to = E fault.fault to

-- if changes leave that, so does a commit
pub commit_ends : (setup : Setup) (P : Parts → Type 0) (E : Fault → Parts → Type 0)
    → ((edits : List Edit) (old new : Parts) (answer : Result (Unit {0}) Fault) → AreEdited setup edits old new answer → P old → AfterEdits P E answer new)
    → (txn : List (ℕ × Line)) (old new : Store) (from to : Parts) (answer : Result Committed CommitFault) → P from
    → HasStoreCommitted setup txn old new from to answer → AfterCommit P E answer to
commit_ends setup P E by_edits [] old new from to answer had it =
    subst (λ r. AfterCommit P E r to) (sym it.its_answer) (subst P (sym it.nothing_done) had)
commit_ends setup P E by_edits (entry ∷ txn) old new from to answer had it = go it.made it.was_made it.then
  where
    applied_ends : (applied : Result (Unit {0}) Fault) → AfterEdits P E applied to → AfterCommit P E (commit_answer_by applied) to
    applied_ends (Ok done) is = is
    applied_ends (Err (Fail.Spent page)) is = is
    applied_ends (Err Fail.Cut) is = is
    applied_ends (Err Fail.Down) is = is
    applied_ends (Err (Fail.Meta x)) is = is
    applied_ends (Err (Fail.Tag at)) is = is
    applied_ends (Err Fail.Shown) is = is

    go : (made : Result (Unit {0}) Fault) → AreEdited setup (deciding_edits old.lines (entry ∷ txn)) from it.between made
        → HasCommitGoneOn made setup (entry ∷ txn) old new it.between to answer → AfterCommit P E answer to
    go (Ok done) was then =
        subst (λ r. AfterCommit P E r to) (sym then.its_answer)
        (applied_ends then.applied
        (by_edits (applying_edits old.lines (entry ∷ txn)) it.between to then.applied then.was_applied
        (by_edits (deciding_edits old.lines (entry ∷ txn)) from it.between (Ok done) was had)))
    go (Err fault) was then =
        subst (λ r. AfterCommit P E r to) (sym then.its_answer)
        (subst (E fault) (sym then.nothing_else) (by_edits (deciding_edits old.lines (entry ∷ txn)) from it.between (Err fault) was had))

pub commit_trusted : (setup : Setup) (txn : List (ℕ × Line)) (old new : Store) (from to : Parts) (answer : Result Committed CommitFault)
    → HasStoreCommitted setup txn old new from to answer → AreTrusted setup from → LeavesTrusted setup (commit_outcome_by answer) to
commit_trusted setup txn old new from to answer it trusted =
    go answer
    (commit_ends setup (AreTrusted setup) (LeftTrusted setup) (trusted_after_edits setup) txn old new from to answer trusted it)
  where
    go : (answer : Result Committed CommitFault) → AfterCommit (AreTrusted setup) (LeftTrusted setup) answer to → LeavesTrusted setup (commit_outcome_by answer) to
    go (Ok Do.Applied) is = is
    go (Ok (Do.Stuck page)) is = is
    go (Err fault) is = is

pub commit_sound : (setup : Setup) (txn : List (ℕ × Line)) (old new : Store) (from to : Parts) (answer : Result Committed CommitFault)
    → HasStoreCommitted setup txn old new from to answer → AreSound setup from → LeavesSound setup (commit_outcome_by answer) to × IsSoundCommitAnswer answer
commit_sound setup txn old new from to answer it sound =
    go answer
    (commit_ends setup (AreSound setup) (LeftSound setup) (sound_after_edits setup) txn old new from to answer sound it)
  where
    go : (answer : Result Committed CommitFault) → AfterCommit (AreSound setup) (LeftSound setup) answer to
        → LeavesSound setup (commit_outcome_by answer) to × IsSoundCommitAnswer answer
    go (Ok Do.Applied) is = (is, tt)
    go (Ok (Do.Stuck page)) is = (is.0, tt)
    go (Err fault) is = is

-- ---- spent comes only before the header is written

spent_answer : (applied : Result (Unit {0}) Fault) → IsSpentUndecided (commit_answer_by applied)
spent_answer (Ok done) = tt
spent_answer (Err (Fail.Spent page)) = tt
spent_answer (Err Fail.Cut) = λ e. tt
spent_answer (Err Fail.Down) = λ e. tt
spent_answer (Err (Fail.Meta x)) = λ e. tt
spent_answer (Err (Fail.Tag at)) = λ e. tt
spent_answer (Err Fail.Shown) = λ e. tt

pub spent_undecided : (setup : Setup) (txn : List (ℕ × Line)) (old new : Store) (from to : Parts) (answer : Result Committed CommitFault)
    → HasStoreCommitted setup txn old new from to answer → IsSpentUndecided answer
spent_undecided setup [] old new from to answer it = subst IsSpentUndecided (sym it.its_answer) tt
spent_undecided setup (entry ∷ txn) old new from to answer it = search rules

-- ---- the calls of a commit, put together

pub empty_list : {X : Type 0} (xs : List X) → eqb (length xs) 0 ≡ true → xs ≡ []
empty_list [] e = refl
empty_list (x ∷ xs) e = absurd (omega (arith, eqb-true (suc (length xs)) 0 e))

pub some_list : {X : Type 0} (xs : List X) → eqb (length xs) 0 ≡ false → xs ≡ [] → ⊥
some_list xs other none = eqb-false (length xs) 0 other (ap length none)

-- a commit with lines of an engine that is down
pub refused_some : (txn : List (ℕ × Line)) → (txn ≡ [] → ⊥) → IsCommitRefused txn (Err (commit_fault false Fail.Down))
refused_some [] some = absurd (some refl)
refused_some (entry ∷ txn) some = refl

pub decided_by : (setup : Setup) (txn : List (ℕ × Line)) (old new : Store) (from to : Parts) (answer : Result Committed CommitFault)
    → (txn ≡ [] → ⊥) → HasDecided setup txn old new from to answer → HasStoreCommitted setup txn old new from to answer
decided_by setup [] old new from to answer some it = absurd (some refl)
decided_by setup (entry ∷ txn) old new from to answer some it = it

pub refused_by : (setup : Setup) (txn : List (ℕ × Line)) (old new : Store) (from to : Parts) (fault : Fault) → (txn ≡ [] → ⊥)
    → AreEdited setup (deciding_edits old.lines txn) from to (Err fault) → IsServedAs old.logged.items old.stuck old new
    → HasStoreCommitted setup txn old new from to (Err (record { fault = fault; committed = false }))
refused_by setup txn old new from to fault some made served = search (rules, decided_by)

pub applied_by : (setup : Setup) (txn : List (ℕ × Line)) (old new : Store) (from between to : Parts) (applied : Result (Unit {0}) Fault)
    (answer : Result Committed CommitFault) → (txn ≡ [] → ⊥) → AreEdited setup (deciding_edits old.lines txn) from between (Ok tt)
    → AreEdited setup (applying_edits old.lines txn) between to applied → answer ≡ commit_answer_by applied → IsServedBy applied txn old new
    → HasStoreCommitted setup txn old new from to answer
applied_by setup txn old new from between to applied answer some made was its_answer served = search (rules, decided_by)

-- a fault that isn't that a line is spent
pub fault_answer : (fault : Fault) → ((page : ℕ) → fault ≡ Fail.Spent page → ⊥)
    → commit_answer_by (Err fault) ≡ Err (record { fault = fault; committed = true })
fault_answer (Fail.Spent page) unspent = absurd (unspent page refl)
fault_answer fault unspent = refl

pub fault_served : (fault : Fault) (txn : List (ℕ × Line)) (old new : Store) → ((page : ℕ) → fault ≡ Fail.Spent page → ⊥)
    → IsServedAs old.logged.items old.stuck old new → IsServedBy (Err fault) txn old new
fault_served (Fail.Spent page) txn old new unspent served = absurd (unspent page refl)
fault_served fault txn old new unspent served = served
