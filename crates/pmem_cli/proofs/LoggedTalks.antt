-- What a world's replies say that are told with their logs: as without them, and of each log.
use Rattle.std.proofs.Common.{◌≡◌, ◌∙◌, ◌-◌, ◌≤◌, ℕ, List, [], ◌∷◌, length, refl, sym, ap, subst, Bool, true, false, inl, inr, arith}
use Rattle.std.specs.Prelude.{◌⊎◌, Option, None, Some, Ok, IfSome}
use Rattle.std.proofs.lemmas.List.{map-append}
use Rattle.pmem_base.specs.declared.commands.Command.{Command}
use Rattle.pmem_base.specs.Shape.{Shape}
use Rattle.suite.specs.Formulas.{Formulas}
use Rattle.suite.specs.Setup.{Setup}
use Rattle.board.specs.declared.access.Access.{Access}
use Rattle.plain_model.specs.declared.Stop.{Stop}
use Rattle.plain_model.specs.declared.Stop.TheVariants.{Finished, Words, Memory, ReadFault, WriteFault, Refused, Shown, TooManyLines}
use Rattle.plain_model.specs.Lines.{lines_of}
use Rattle.plain_model.specs.Answers.{is_shown}
use Rattle.plain_model.specs.Grammar.{reading_of}
use Rattle.plain_model.specs.State.{PlainState, Reply}
use Rattle.plain_model.specs.Run.{Machine, Step, line_limit, start, machine_after_all, Ends}
use Rattle.pmem_replay.specs.World.{WorldState, setup_of_world}
use Rattle.pmem_replay.specs.Stepped.{HasStepped, AddsFewSteps}
use Rattle.pmem_replay.specs.Logged.{IsLogged, CanAccess, IsLogKept}
use Rattle.trace_text.specs.Conversations.{AnswersOne, IsTalk, AreRepliesGiven, IsShownTalk, TalkEnds}
use Rattle.pmem_cli.specs.Printed.{Output}
use Rattle.pmem_cli.specs.Replies.{world_protocol}
use Rattle.pmem_cli.specs.Logged.{LoggedStep, IsTold, WantsMemoryLogged, GoesOnTold, EndsTold, logged_protocol, steps_logged, IsMemoryWantedLogged, LoggedEnds, LoggedEndsFrom, AreTold, IsReplayedTold, HasReplayedLogged, HasRepliedLoggedFirst}
use Rattle.pmem_cli.specs.Standing.{standing_of, AreStepped, IsFirstWorld, IsReplayed}
use Rattle.pmem_cli.specs.Talked.{HasToldFirst}
use Rattle.pmem_cli.specs.Turns.{HasStopped}
use Rattle.pmem_cli.proofs.PrintLemmas.{Prints-nil, Prints-front}
use Rattle.pmem_cli.proofs.RunLemmas.{IsFrontFrom-nil}
use Rattle.pmem_cli.proofs.StandingLemmas.{StandingAfter-step, HasReplied-step, new_setup, new_machine}
use Rattle.pmem_cli.proofs.TurnLemmas.{IfSome-is, IfSome-map}
use Rattle.pmem_cli.proofs.WorldTalks.{run_of_talk, ends_of_talk}

-- ---- one command

abbrev pub logged_of : Command → Reply → List Access → ℕ → ℕ → LoggedStep
logged_of command reply accesses tags digests =
    record { step = record { command = command; reply = reply }; accesses = accesses; tags = tags; digests = digests }

-- the log that the command left, and the counts before and after it
pub told_of : (command : Command) (reply : Reply) (old new : WorldState) (before after : Option (List Access)) (accesses : List Access) (work_before work_after : ℕ × ℕ) (tags digests : ℕ)
    → before ≡ Some [] → Some accesses ≡ after → work_before ≡ (old.tags, old.digests) → work_after ≡ (new.tags, new.digests)
    → tags ≡ work_after.0 - work_before.0 → digests ≡ work_after.1 - work_before.1 → IsLogged command before old.board after new.board
    → IsTold old (logged_of command reply accesses tags digests) new
told_of command reply old new before after accesses work_before work_after tags digests empty some was is tagged digested logged =
    let tags_before = ap (λ (n : ℕ × ℕ). n.0) was in
    let digests_before = ap (λ (n : ℕ × ℕ). n.1) was in
    let tags_after = ap (λ (n : ℕ × ℕ). n.0) is in
    let digests_after = ap (λ (n : ℕ × ℕ). n.1) is in
    record {
      accessed =
          subst (λ (log : Option (List Access)). IsLogged command log old.board (Some accesses) new.board) empty
          (subst (λ (log : Option (List Access)). IsLogged command before old.board log new.board) (sym some) logged);
      tags = omega (arith, tagged, tags_before, tags_after);
      digests = omega (arith, digested, digests_before, digests_after);
    }

pub told_goes : (f : List ℕ → Formulas) (old new : WorldState) (line : List ℕ) (command : Command) (reply : Reply) (accesses : List Access) (tags digests : ℕ)
    → reading_of line ≡ Ok (Some command) → HasStepped (setup_of_world f old) old command reply new → AddsFewSteps old new
    → IsTold old (logged_of command reply accesses tags digests) new → is_shown reply.answer ≡ false
    → GoesOnTold f old line (logged_of command reply accesses tags digests) new
told_goes f old new line command reply accesses tags digests is stepped few told hidden =
    let step : Step = record { command = command; reply = reply } in
    record {
      goes =
          record {
            reply = record { command = command; reading = is; replied = HasReplied-step f old new command reply stepped few };
            hidden = hidden;
            on = StandingAfter-step f old new step stepped few hidden;
          };
      stepped = record { stepped = stepped; few = few };
      told = told;
    }

pub told_ends : (f : List ℕ → Formulas) (old new : WorldState) (line : List ℕ) (command : Command) (reply : Reply) (accesses : List Access) (tags digests : ℕ)
    → reading_of line ≡ Ok (Some command) → HasStepped (setup_of_world f old) old command reply new → AddsFewSteps old new
    → IsTold old (logged_of command reply accesses tags digests) new → is_shown reply.answer ≡ true
    → EndsTold f old line (logged_of command reply accesses tags digests)
told_ends f old new line command reply accesses tags digests is stepped few told shown =
    record {
      ends =
          record {
            reply = record { command = command; reading = is; replied = HasReplied-step f old new command reply stepped few };
            shown = shown;
          };
      next = new;
      stepped = record { stepped = stepped; few = few };
      told = told;
    }

pub told_either : (v : Bool) (f : List ℕ → Formulas) (old new : WorldState) (line : List ℕ) (command : Command) (reply : Reply) (accesses : List Access) (tags digests : ℕ)
    → is_shown reply.answer ≡ v → reading_of line ≡ Ok (Some command) → HasStepped (setup_of_world f old) old command reply new → AddsFewSteps old new
    → IsTold old (logged_of command reply accesses tags digests) new
    → GoesOnTold f old line (logged_of command reply accesses tags digests) new ⊎ EndsTold f old line (logged_of command reply accesses tags digests)
told_either true f old new line command reply accesses tags digests shown is stepped few told =
    inr (told_ends f old new line command reply accesses tags digests is stepped few told shown)
told_either false f old new line command reply accesses tags digests hidden is stepped few told =
    inl (told_goes f old new line command reply accesses tags digests is stepped few told hidden)

-- memory for a log is wanted only where the command may access the board
pub lost_accesses : (g : Shape) (state : PlainState) (command : Command) (before after : Option (List Access)) → before ≡ Some [] → None ≡ after
    → IsLogKept g state command before after → CanAccess g state command
lost_accesses g state command before after empty lost (inl same) = absurd cc
lost_accesses g state command before after empty lost (inr may) = may

-- ---- without the logs

plain_one : (f : List ℕ → Formulas) (old new : WorldState) (line : List ℕ) (xs : List LoggedStep) → AnswersOne (logged_protocol f) old line xs new
    → AnswersOne (world_protocol f) old line (steps_logged xs) new
plain_one f old new line xs (inl (its_sort, none, same)) = inl (its_sort, ap steps_logged none, same)
plain_one f old new line xs (inr (x, its_sort, one, goes)) = inr (x.step, its_sort, ap steps_logged one, goes.goes)

pub plain_talk : (f : List ℕ → Formulas) (old new : WorldState) (ls : List (List ℕ)) (xs : List LoggedStep) → IsTalk (logged_protocol f) old ls xs new
    → IsTalk (world_protocol f) old ls (steps_logged xs) new
plain_talk f old new [] xs (none, same) = (ap steps_logged none, same)
plain_talk f old new (line ∷ ls) xs (next, here, later, answered, split, more) = (
  next,
  steps_logged here,
  steps_logged later,
  plain_one f old next line here answered,
  ap steps_logged split ∙ map-append (λ (logged : LoggedStep). logged.step) here later,
  plain_talk f next new ls later more,
)

plain_shown : (f : List ℕ → Formulas) (world : WorldState) (served : ℕ) (lines : List (List ℕ)) (xs : List LoggedStep)
    → IsShownTalk (logged_protocol f) world served lines xs → IsShownTalk (world_protocol f) world served lines (steps_logged xs)
plain_shown f world served lines xs ends =
    record {
      before = ends.before;
      line = ends.line;
      behind = ends.behind;
      cut = ends.cut;
      earlier = steps_logged ends.earlier;
      middle = ends.middle;
      talk = plain_talk f world ends.middle ends.before ends.earlier ends.talk;
      last = ends.last.step;
      all = ap steps_logged ends.all ∙ map-append (λ (logged : LoggedStep). logged.step) ends.earlier (ends.last ∷ []);
      its_sort = ends.its_sort;
      after = ends.after;
      shown = ends.shown.ends;
      counted = ends.counted;
    }

-- ---- stops

pub ends_of_logged : (stop : Stop) (f : List ℕ → Formulas) (world : WorldState) (trace : List ℕ) (left : Option (List ℕ)) (xs : List LoggedStep) → world.shown ≡ false
    → TalkEnds (logged_protocol f) world 0 stop trace left xs
    → LoggedEndsFrom (standing_of f world).setup (standing_of f world).machine stop trace left (steps_logged xs)
ends_of_logged Finished f world trace left xs running ends =
    ends_of_talk Finished f world 0 trace left (steps_logged xs) running
    (record { last = ends.last; talk = plain_talk f world ends.last (lines_of trace) xs ends.talk; counted = ends.counted })
ends_of_logged Memory f world trace left xs running ends =
    record {
      front = record {
        before = ends.before;
        behind = ends.line ∷ ends.behind;
        cut = ends.cut;
        run =
            (run_of_talk f world ends.last ends.before (steps_logged xs) running (plain_talk f world ends.last ends.before xs ends.talk)).run;
      };
      wanting =
          inr (subst (λ (m : Machine). IsMemoryWantedLogged world.shape m.state (length ends.before) (ends.line ∷ ends.behind))
          (run_of_talk f world ends.last ends.before (steps_logged xs) running (plain_talk f world ends.last ends.before xs ends.talk)).on.machine (
            subst (λ (u : Setup). WantsMemoryLogged u.shape ends.last.state (reading_of ends.line))
                (run_of_talk f world ends.last ends.before (steps_logged xs) running (plain_talk f world ends.last ends.before xs ends.talk)).on.setup
                ends.wanted,
            omega (arith, ends.counted),
          ));
    }
ends_of_logged Words f world trace left xs running ends = ends
ends_of_logged ReadFault f world trace left xs running ends =
    ends_of_talk ReadFault f world 0 trace left (steps_logged xs) running
    (record {
      before = ends.before;
      part = ends.part;
      taken = ends.taken;
      whole = ends.whole;
      unfinished = ends.unfinished;
      short = ends.short;
      last = ends.last;
      talk = plain_talk f world ends.last ends.before xs ends.talk;
      counted = ends.counted;
      at_limit = ends.at_limit;
    })
ends_of_logged WriteFault f world trace left xs running (inl limited) =
    ends_of_talk WriteFault f world 0 trace left (steps_logged xs) running
    (inl (record {
      front = record {
        before = limited.front.before;
        behind = limited.front.behind;
        cut = limited.front.cut;
        last = limited.front.last;
        talk = plain_talk f world limited.front.last limited.front.before xs limited.front.talk;
      };
      counted = limited.counted;
    }))
ends_of_logged WriteFault f world trace left xs running (inr shown) =
    ends_of_talk WriteFault f world 0 trace left (steps_logged xs) running (inr (plain_shown f world 0 (lines_of trace) xs shown))
ends_of_logged (Refused number kind) f world trace left xs running ends =
    ends_of_talk (Refused number kind) f world 0 trace left (steps_logged xs) running
    (record {
      before = ends.before;
      line = ends.line;
      behind = ends.behind;
      cut = ends.cut;
      last = ends.last;
      talk = plain_talk f world ends.last ends.before xs ends.talk;
      refused = ends.refused;
      numbered = ends.numbered;
      counted = ends.counted;
    })
ends_of_logged Shown f world trace left xs running ends =
    ends_of_talk Shown f world 0 trace left (steps_logged xs) running (plain_shown f world 0 (lines_of trace) xs ends)
ends_of_logged TooManyLines f world trace left xs running ends =
    ends_of_talk TooManyLines f world 0 trace left (steps_logged xs) running
    (record {
      front = record {
        before = ends.front.before;
        behind = ends.front.behind;
        cut = ends.front.cut;
        last = ends.front.last;
        talk = plain_talk f world ends.front.last ends.front.before xs ends.front.talk;
      };
      counted = ends.counted;
      more = ends.more;
    })

-- ---- the chain of worlds

told_of_given : (f : List ℕ → Formulas) (world : WorldState) (xs : List LoggedStep) → AreRepliesGiven (logged_protocol f) world xs
    → (last : WorldState) × AreTold (standing_of f world).setup world xs last
told_of_given f world [] given = (world, refl)
told_of_given f world (x ∷ xs) (line, its_sort, inl (next, goes, more)) =
    let rest = told_of_given f next xs more in
    (rest.0, (next, goes.stepped, goes.told, subst (λ (setup : Setup). AreTold setup next xs rest.0) goes.goes.on.setup rest.1))
told_of_given f world (x ∷ xs) (line, its_sort, inr (next, ends, none)) =
    let last : AreTold (standing_of f world).setup ends.next xs ends.next =
    subst (λ zs. AreTold (standing_of f world).setup ends.next zs ends.next) (sym none) refl in
    (ends.next, (ends.next, ends.stepped, ends.told, last))

stepped_of_told : (setup : Setup) (world last : WorldState) (xs : List LoggedStep) → AreTold setup world xs last → AreStepped setup world (steps_logged xs) last
stepped_of_told setup world last [] chain = chain
stepped_of_told setup world last (x ∷ xs) (next, stepped, told, more) = (next, stepped, stepped_of_told setup next last xs more)

pub replayed_plain : (setup : Setup) (stop : Stop) (xs : List LoggedStep) → IsReplayedTold setup stop xs → IsReplayed setup stop (steps_logged xs)
replayed_plain setup stop xs (inl none) = inl (none.0, ap steps_logged none.1)
replayed_plain setup stop xs (inr (first, last, new, chain)) = inr (first, last, new, stepped_of_told setup first last xs chain)

-- ---- the whole run

wanted_within : (g : Shape) (state : PlainState) (n : ℕ) (behind : List (List ℕ)) → IsMemoryWantedLogged g state n behind → n ≤ line_limit
wanted_within g state n [] wanted = absurd wanted
wanted_within g state n (line ∷ lines) wanted = omega (arith, wanted.1)

-- so much is said of the steps without the log, whatever stopped it
pub ends_plain : (setup : Setup) (stop : Stop) (trace : List ℕ) (left : Option (List ℕ)) (steps : List Step) → LoggedEnds setup stop trace left steps
    → (its : Stop) × Ends setup its trace left steps
ends_plain setup Memory trace left steps ends =
    let short : length ends.front.before ≤ line_limit =
    elim ends.wanting [
      | inl none ↦ omega (arith, none.0)
      | inr wanted ↦ wanted_within setup.shape (machine_after_all setup (start setup) steps).state (length ends.front.before) ends.front.behind wanted
    ] in
    (WriteFault, inl (record { front = ends.front; counted = omega (arith, short) }))
ends_plain setup Finished trace left steps ends = (Finished, ends)
ends_plain setup Words trace left steps ends = (Words, ends)
ends_plain setup ReadFault trace left steps ends = (ReadFault, ends)
ends_plain setup WriteFault trace left steps ends = (WriteFault, ends)
ends_plain setup (Refused number kind) trace left steps ends = (Refused number kind, ends)
ends_plain setup Shown trace left steps ends = (Shown, ends)
ends_plain setup TooManyLines trace left steps ends = (TooManyLines, ends)

-- memory was wanted before the first line
pub HasReplayedLogged-memory : (setup : Setup) (trace : Option (List ℕ)) (p : Output) → HasReplayedLogged setup Memory trace trace p p
HasReplayedLogged-memory setup trace p = record {
  all = [];
  ends =
      IfSome-is trace (λ bytes. LoggedEnds setup Memory bytes trace [])
      (λ bytes is. record { front = IsFrontFrom-nil setup (start setup) (lines_of bytes); wanting = inl (refl, is) });
  replayed = inl (refl, refl);
  said = record { whole = λ told. Prints-nil p; front = Prints-front p p [] (Prints-nil p) };
}

pub HasReplayedLogged-served : (f : List ℕ → Formulas) (shape : Shape) (keys : List ℕ) (world : WorldState) (stop : Stop) (trace left : Option (List ℕ)) (p q : Output)
    → IsFirstWorld (record { shape = shape; formulas = f keys }) world → world.keys ≡ keys
    → HasStopped (logged_protocol f) stop trace left world p q 0 → HasReplayedLogged (record { shape = shape; formulas = f keys }) stop trace left p q
HasReplayedLogged-served f shape keys world stop trace left p q is same stopped =
    let setup : Setup = record { shape = shape; formulas = f keys } in
    let s = standing_of f world in
    let at_setup = new_setup f shape keys world is.new same in
    let told = told_of_given f world stopped.replies stopped.given in
    let steps = steps_logged stopped.replies in
    let ends =
    IfSome-map trace (λ bytes. TalkEnds (logged_protocol f) world 0 stop bytes left stopped.replies) (λ bytes. LoggedEndsFrom s.setup s.machine stop bytes left steps)
    (λ bytes some ends. ends_of_logged stop f world bytes left stopped.replies is.new.not_shown ends) stopped.ends in
    record {
      all = stopped.replies;
      ends =
          subst (λ (machine : Machine). IfSome trace (λ bytes. LoggedEndsFrom setup machine stop bytes left steps)) (new_machine f setup world is.new)
          (subst (λ (u : Setup). IfSome trace (λ bytes. LoggedEndsFrom u s.machine stop bytes left steps)) at_setup ends);
      replayed = inr (world, told.0, is, subst (λ (u : Setup). AreTold u world stopped.replies told.0) at_setup told.1);
      said = record { whole = stopped.whole; front = stopped.front };
    }

-- ---- replies before a pull

pub replied_of_logged : (f : List ℕ → Formulas) (world : WorldState) (trace told : Option (List ℕ)) (o : Output) (put : Option (List ℕ)) → world.shown ≡ false
    → HasToldFirst (logged_protocol f) world trace told o put → HasRepliedLoggedFirst (standing_of f world).setup (standing_of f world).machine trace told o put
replied_of_logged f world None told o put running are = tt
replied_of_logged f world (Some bytes) None o put running are = tt
replied_of_logged f world (Some bytes) (Some behind) o put running (given, cut, are) = (
  given,
  cut,
  record {
    lines = are.lines;
    part = are.part;
    cut = are.cut;
    whole = are.whole;
    undecided = are.undecided;
    all = are.replies;
    run = (run_of_talk f world are.last are.lines (steps_logged are.replies) running (plain_talk f world are.last are.lines are.replies are.talk)).run;
    replied = are.told;
  },
)
