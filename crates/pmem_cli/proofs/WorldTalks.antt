-- What a world's replies to the lines of a trace say of the plain machine.
use Rattle.std.proofs.Common.{◌≡◌, ◌∙◌, ◌+◌, ℕ, List, [], ◌∷◌, ◌++◌, length, refl, sym, ap, subst, Bool, true, false, inl, inr}
use Rattle.std.specs.Prelude.{◌⊎◌, Option, None, Some, Ok, Err, IsTrue, nat_lt, if◌then◌else◌}
use Rattle.std.proofs.lemmas.Bool.{true≢false}
use Rattle.pmem_base.specs.declared.commands.Command.{Command}
use Rattle.pmem_base.specs.declared.commands.Command.TheVariants as Do
use Rattle.pmem_base.specs.declared.commands.Kind.{Kind}
use Rattle.pmem_base.specs.declared.commands.Kind.TheVariants.{Long}
use Rattle.suite.specs.Formulas.{Formulas}
use Rattle.suite.specs.Setup.{Setup}
use Rattle.collision_witness.specs.Words.{words_of, without_return}
use Rattle.plain_model.specs.declared.Stop.{Stop}
use Rattle.plain_model.specs.declared.Stop.TheVariants.{Finished, Words, Memory, ReadFault, WriteFault, Refused, Shown, TooManyLines}
use Rattle.plain_model.specs.State.{PlainState}
use Rattle.plain_model.specs.Lines.{lines_of}
use Rattle.plain_model.specs.Words.{last_port}
use Rattle.plain_model.specs.Answers.{is_shown}
use Rattle.plain_model.specs.Grammar.{Reading, verbs, reading_of, reading_among, reading_of_words}
use Rattle.plain_model.specs.Run.{Machine, Step, machine_after_all, IsAnswered, IsRunFrom, IsShownFrom, WantsMemory, takes_memory, EndsFrom}
use Rattle.pmem_replay.specs.World.{WorldState}
use Rattle.pmem_replay.specs.Stepped.{CanWantMemory}
use Rattle.trace_text.specs.Talks.{skipped, faulty}
use Rattle.trace_text.specs.Conversations.{line_sort, AnswersOne, IsTalk, AreRepliesGiven, IsShownTalk, IsStarvedTalk, TalkEnds}
use Rattle.pmem_cli.specs.Printed.{Output}
use Rattle.pmem_cli.specs.Standing.{Standing, standing_of, AreStepped, StandingAfter}
use Rattle.trace_text.specs.Entries.{sort_of_reading}
use Rattle.pmem_cli.specs.Replies.{AnswersCommand, IsReplyTo, GoesOn, EndsShown, world_protocol}
use Rattle.pmem_cli.specs.RepliesFirst.{HasRepliedFirst}
use Rattle.pmem_cli.specs.Talked.{HasToldFirst}
use Rattle.pmem_cli.specs.Turns.{AnswersLine}
use Rattle.pmem_cli.specs.Wanting.{WantsMemoryIn, IsMemoryWantedIn, IsStarvedIn}
use Rattle.pmem_cli.proofs.RunLemmas.{IsRunFrom-append, IsRunFrom-nil, IsRunFrom-skipped, IsRunFrom-step}
use Rattle.pmem_cli.proofs.ShownLemmas.{exhibit_of, legal_exhibit}
use Rattle.pmem_cli.proofs.StandingLemmas.{StandingAfter-nil, StandingAfter-trans, AreStepped-after}

-- ---- what a line is

-- the grammar says of a long line what every grammar does
same_long : (b : Bool) (r : Reading)
    → (if b then faulty Long else sort_of_reading (if b then Err Long else r)) ≡ sort_of_reading (if b then Err Long else r)
same_long true r = refl
same_long false r = refl

world_sort : (f : List ℕ → Formulas) (line : List ℕ) → line_sort (world_protocol f) line ≡ sort_of_reading (reading_of line)
unfolding reading_among
world_sort f line = same_long (nat_lt 1024 (length line)) (reading_of_words last_port verbs (words_of (without_return line)))

reads_none : (r : Reading) → sort_of_reading r ≡ skipped → r ≡ Ok None
reads_none (Ok None) is = refl
reads_none (Ok (Some command)) is = absurd cc
reads_none (Err kind) is = absurd cc

reads_fault : (r : Reading) (kind : Kind) → sort_of_reading r ≡ faulty kind → r ≡ Err kind
reads_fault (Ok None) kind is = absurd cc
reads_fault (Ok (Some command)) kind is = absurd cc
reads_fault (Err other) kind is = cc

-- ---- one line

-- a reply that wasn't printed: the world goes on by it, or it ends the run
untold_reply : (v : Bool) (f : List ℕ → Formulas) (old new : WorldState) (line : List ℕ) (step : Step) → IsReplyTo f old line step → is_shown step.reply.answer ≡ v
    → (is_shown step.reply.answer ≡ true) ⊎ StandingAfter (standing_of f old) (standing_of f new) (step ∷ []) → GoesOn f old line step new ⊎ EndsShown f old line step
untold_reply true f old new line step reply shown goes = inr (record { reply = reply; shown = shown })
untold_reply false f old new line step reply hidden (inl shown) = absurd (true≢false (sym shown ∙ hidden))
untold_reply false f old new line step reply hidden (inr on) = inl (record { reply = reply; hidden = hidden; on = on })

-- a line's command was answered, or the run stops at it
pub AnswersLine-command : (f : List ℕ → Formulas) (stop : Option Stop) (line : List ℕ) (number : ℕ) (command : Command) (old new : WorldState) (a b : Output)
    → reading_of line ≡ Ok (Some command) → AnswersCommand stop command (standing_of f old) (standing_of f new) a b
    → AnswersLine (world_protocol f) stop line number old new a b
AnswersLine-command f None line number command old new a b is (step, replied, hidden, on, printed) = (
  on.running,
  inr (
    step,
    rw is refl,
    record { reply = record { command = command; reading = is; replied = replied }; hidden = hidden; on = on },
    printed,
  ),
)
AnswersLine-command f (Some Memory) line number command old new a b is (wants, kept) = (rw is refl, rw is wants, kept)
AnswersLine-command f (Some WriteFault) line number command old new a b is (step, replied, goes, front) = (
  step,
  rw is refl,
  untold_reply (is_shown step.reply.answer) f old new line step (record { command = command; reading = is; replied = replied }) refl goes,
  front,
)
AnswersLine-command f (Some Shown) line number command old new a b is (step, replied, shown, printed) = (
  step,
  rw is refl,
  record { reply = record { command = command; reading = is; replied = replied }; shown = shown },
  printed,
)
AnswersLine-command f (Some stop) line number command old new a b is answered = absurd answered

-- ---- some lines

-- the plain machine's run over these lines, and the world behind it
pub record HasRunOn (before after : Standing) (lines : List (List ℕ)) (steps : List Step) : Type 0 where
  pub run : IsRunFrom before.setup before.machine lines steps
  pub on : StandingAfter before after steps

-- a machine, seen from a run that has the same setup
same_run : (s t : Standing) (machine : Machine) (ls : List (List ℕ)) (ys : List Step) → t.setup ≡ s.setup → t.machine ≡ machine
    → IsRunFrom t.setup t.machine ls ys → IsRunFrom s.setup machine ls ys
same_run s t machine ls ys setup is run = subst (λ m. IsRunFrom s.setup m ls ys) is (subst (λ u. IsRunFrom u t.machine ls ys) setup run)

run_on : (s t u : Standing) (ls ms : List (List ℕ)) (xs ys : List Step) → HasRunOn s t ls xs → HasRunOn t u ms ys → HasRunOn s u (ls ++ ms) (xs ++ ys)
run_on s t u ls ms xs ys first second =
    record {
      run = IsRunFrom-append s.setup s.machine ls ms xs ys first.run (same_run s t (machine_after_all s.setup s.machine xs) ms ys first.on.setup first.on.machine second.run);
      on = StandingAfter-trans s t u xs ys first.on second.on;
    }

run_one : (f : List ℕ → Formulas) (old new : WorldState) (line : List ℕ) (xs : List Step) → old.shown ≡ false → AnswersOne (world_protocol f) old line xs new
    → HasRunOn (standing_of f old) (standing_of f new) (line ∷ []) xs
run_one f old new line xs running (inl (its_sort, none, same)) =
    let s = standing_of f old in
    let is = reads_none (reading_of line) (sym (world_sort f line) ∙ its_sort) in
    subst (λ w. HasRunOn s (standing_of f w) (line ∷ []) xs) (sym same)
    (subst (λ zs. HasRunOn s s (line ∷ []) zs) (sym none)
    (record { run = IsRunFrom-skipped s.setup s.machine line is; on = StandingAfter-nil s running }))
run_one f old new line xs running (inr (step, its_sort, one, goes)) =
    let s = standing_of f old in
    let its = goes.reply.reading ∙ ap (λ c. Ok (Some c)) (sym goes.reply.replied.asked) in
    subst (λ zs. HasRunOn s (standing_of f new) (line ∷ []) zs) (sym one)
    (record { run = IsRunFrom-step s.setup s.machine line step its goes.reply.replied.answered goes.hidden; on = goes.on })

pub run_of_talk : (f : List ℕ → Formulas) (old new : WorldState) (ls : List (List ℕ)) (xs : List Step) → old.shown ≡ false → IsTalk (world_protocol f) old ls xs new
    → HasRunOn (standing_of f old) (standing_of f new) ls xs
run_of_talk f old new [] xs running (none, same) =
    let s = standing_of f old in
    subst (λ w. HasRunOn s (standing_of f w) [] xs) (sym same)
    (subst (λ zs. HasRunOn s s [] zs) (sym none) (record { run = IsRunFrom-nil s.setup s.machine; on = StandingAfter-nil s running }))
run_of_talk f old new (line ∷ ls) xs running (next, here, later, answered, split, more) =
    let one = run_one f old next line here running answered in
    subst (λ zs. HasRunOn (standing_of f old) (standing_of f new) (line ∷ ls) zs) (sym split)
    (run_on (standing_of f old) (standing_of f next) (standing_of f new) (line ∷ []) ls here later one (run_of_talk f next new ls later one.on.running more))

-- ---- the chain of worlds

pub stepped_of_given : (f : List ℕ → Formulas) (world : WorldState) (xs : List Step) → AreRepliesGiven (world_protocol f) world xs
    → (last : WorldState) × AreStepped (standing_of f world).setup world xs last
stepped_of_given f world [] given = (world, refl)
stepped_of_given f world (step ∷ xs) (line, its_sort, inl (next, goes, more)) =
    let rest = stepped_of_given f next xs more in
    (rest.0, AreStepped-after (standing_of f world) (standing_of f next) rest.0 (step ∷ []) xs goes.on rest.1)
stepped_of_given f world (step ∷ xs) (line, its_sort, inr (next, ends, none)) =
    let replied = ends.reply.replied in
    (replied.next, subst (λ zs. AreStepped (standing_of f world).setup world (step ∷ zs) replied.next) (sym none) (replied.next, replied.stepped, refl))

-- ---- stops

-- a command that takes memory in a state is one that may want it
takes : (state : PlainState) (command : Command) → CanWantMemory state command → IsTrue (takes_memory command)
takes state (Do.Drain port) wants = refl
takes state (Do.Fence port) wants = refl
takes state Do.Turn wants = refl
takes state Do.On wants = refl
takes state Do.Snap wants = refl
takes state command wants = absurd wants

wants_takes : (state : PlainState) (r : Reading) → WantsMemoryIn state r → WantsMemory r
wants_takes state (Ok (Some command)) wants = takes state command wants
wants_takes state (Ok None) wants = wants
wants_takes state (Err kind) wants = wants

starved_of_talk : (f : List ℕ → Formulas) (world : WorldState) (served : ℕ) (trace : List ℕ) (left : Option (List ℕ)) (xs : List Step) → world.shown ≡ false
    → IsStarvedTalk (world_protocol f) world served (lines_of trace) xs → IsStarvedIn (standing_of f world).setup (standing_of f world).machine served trace left xs
starved_of_talk f world served trace left xs running ends =
    let ran = run_of_talk f world ends.last ends.before xs running ends.talk in
    record {
      front = record { before = ends.before; behind = ends.line ∷ ends.behind; cut = ends.cut; run = ran.run };
      wanting =
          inr (subst (λ (m : Machine). IsMemoryWantedIn m.state (served + length ends.before) (ends.line ∷ ends.behind)) ran.on.machine (ends.wanted, ends.counted));
    }

pub wanted_of_talk : (stop : Stop) (f : List ℕ → Formulas) (world : WorldState) (served : ℕ) (trace : List ℕ) (left : Option (List ℕ)) (xs : List Step) → world.shown ≡ false
    → TalkEnds (world_protocol f) world served stop trace left xs → stop ≡ Memory
    → IsStarvedIn (standing_of f world).setup (standing_of f world).machine served trace left xs
wanted_of_talk Memory f world served trace left xs running ends same = starved_of_talk f world served trace left xs running ends
wanted_of_talk stop f world served trace left xs running ends same = cc

shown_of_talk : (f : List ℕ → Formulas) (world : WorldState) (served : ℕ) (lines : List (List ℕ)) (xs : List Step) → world.shown ≡ false
    → IsShownTalk (world_protocol f) world served lines xs → IsShownFrom (standing_of f world).setup (standing_of f world).machine served lines xs
shown_of_talk f world served lines xs running ends =
    let s = standing_of f world in
    let ran = run_of_talk f world ends.middle ends.before ends.earlier running ends.talk in
    let replied = ends.shown.reply.replied in
    let answered : IsAnswered s.setup (machine_after_all s.setup s.machine ends.earlier) ends.last =
    subst (λ m. IsAnswered s.setup m ends.last) ran.on.machine
    (subst (λ (u : Setup). IsAnswered u (standing_of f ends.middle).machine ends.last) ran.on.setup replied.answered) in
    let found = exhibit_of ends.last.reply.answer ends.shown.shown in
    let now = machine_after_all s.setup s.machine ends.earlier in
    record {
      before = ends.before;
      line = ends.line;
      behind = ends.behind;
      cut = ends.cut;
      first = ends.earlier;
      run = ran.run;
      last = ends.last;
      all = ends.all;
      asked = ends.shown.reply.reading ∙ ap (λ c. Ok (Some c)) (sym replied.asked);
      answered = answered;
      exhibit = found.0;
      shown = found.1;
      holds = legal_exhibit s.setup now.state now.view ends.last.command ends.last.reply found.0 answered.legal found.1;
      counted = ends.counted;
    }

pub ends_of_talk : (stop : Stop) (f : List ℕ → Formulas) (world : WorldState) (served : ℕ) (trace : List ℕ) (left : Option (List ℕ)) (xs : List Step) → world.shown ≡ false
    → TalkEnds (world_protocol f) world served stop trace left xs → EndsFrom (standing_of f world).setup (standing_of f world).machine served stop trace left xs
ends_of_talk Finished f world served trace left xs running ends =
    record { run = (run_of_talk f world ends.last (lines_of trace) xs running ends.talk).run; counted = ends.counted }
ends_of_talk Memory f world served trace left xs running ends =
    record {
      front = record { before = ends.before; behind = ends.line ∷ ends.behind; cut = ends.cut; run = (run_of_talk f world ends.last ends.before xs running ends.talk).run };
      wanting = inr (wants_takes ends.last.state (reading_of ends.line) ends.wanted, ends.counted);
    }
ends_of_talk Words f world served trace left xs running ends = ends
ends_of_talk ReadFault f world served trace left xs running ends =
    record {
      before = ends.before;
      part = ends.part;
      taken = ends.taken;
      whole = ends.whole;
      unfinished = ends.unfinished;
      short = ends.short;
      run = (run_of_talk f world ends.last ends.before xs running ends.talk).run;
      counted = ends.counted;
      at_limit = ends.at_limit;
    }
ends_of_talk WriteFault f world served trace left xs running ends =
    elim ends [
      | inl limited ↦ inl (record {
        front = record {
          before = limited.front.before;
          behind = limited.front.behind;
          cut = limited.front.cut;
          run = (run_of_talk f world limited.front.last limited.front.before xs running limited.front.talk).run;
        };
        counted = limited.counted;
      })
      | inr shown ↦ inr (shown_of_talk f world served (lines_of trace) xs running shown)
    ]
ends_of_talk (Refused number kind) f world served trace left xs running ends =
    record {
      before = ends.before;
      line = ends.line;
      behind = ends.behind;
      cut = ends.cut;
      run = (run_of_talk f world ends.last ends.before xs running ends.talk).run;
      refused = reads_fault (reading_of ends.line) kind (sym (world_sort f ends.line) ∙ ends.refused);
      numbered = ends.numbered;
      counted = ends.counted;
    }
ends_of_talk Shown f world served trace left xs running ends = shown_of_talk f world served (lines_of trace) xs running ends
ends_of_talk TooManyLines f world served trace left xs running ends =
    record {
      front = record {
        before = ends.front.before;
        behind = ends.front.behind;
        cut = ends.front.cut;
        run = (run_of_talk f world ends.front.last ends.front.before xs running ends.front.talk).run;
      };
      counted = ends.counted;
      more = ends.more;
    }

-- ---- replies before a pull

pub replied_of_told : (f : List ℕ → Formulas) (world : WorldState) (trace told : Option (List ℕ)) (o : Output) (put : Option (List ℕ)) → world.shown ≡ false
    → HasToldFirst (world_protocol f) world trace told o put → HasRepliedFirst (standing_of f world).setup (standing_of f world).machine trace told o put
replied_of_told f world None told o put running are = tt
replied_of_told f world (Some bytes) None o put running are = tt
replied_of_told f world (Some bytes) (Some behind) o put running (given, cut, are) = (
  given,
  cut,
  record {
    lines = are.lines;
    part = are.part;
    cut = are.cut;
    whole = are.whole;
    undecided = are.undecided;
    steps = are.replies;
    run = (run_of_talk f world are.last are.lines are.replies running are.talk).run;
    replied = are.told;
  },
)
