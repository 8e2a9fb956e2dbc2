-- The run of a trace over a new world.
use Rattle.std.proofs.Common.{◌≡◌, ℕ, List, [], refl, subst, inl, inr}
use Rattle.std.specs.Prelude.{Option, IfSome}
use Rattle.pmem_base.specs.Shape.{Shape}
use Rattle.suite.specs.Formulas.{Formulas}
use Rattle.suite.specs.Setup.{Setup}
use Rattle.plain_model.specs.Lines.{lines_of}
use Rattle.plain_model.specs.declared.Stop.{Stop}
use Rattle.plain_model.specs.declared.Stop.TheVariants.{Memory}
use Rattle.plain_model.specs.Run.{start, Ends, EndsFrom}
use Rattle.pmem_replay.specs.World.{WorldState}
use Rattle.pmem_cli.specs.Printed.{Output}
use Rattle.trace_text.specs.Conversations.{TalkEnds}
use Rattle.pmem_cli.specs.Replies.{world_protocol}
use Rattle.pmem_cli.specs.Standing.{standing_of, IsFirstWorld, AreStepped}
use Rattle.pmem_cli.specs.Turns.{HasStopped}
use Rattle.pmem_cli.specs.HasRun.{HasReplayed}
use Rattle.pmem_cli.specs.Wanting.{IsStarvedIn}
use Rattle.pmem_cli.proofs.PrintLemmas.{Prints-nil, Prints-front}
use Rattle.pmem_cli.proofs.RunLemmas.{IsFrontFrom-nil}
use Rattle.pmem_cli.proofs.TurnLemmas.{IfSome-any, IfSome-is, IfSome-map}
use Rattle.pmem_cli.proofs.StandingLemmas.{new_setup, new_machine}
use Rattle.pmem_cli.proofs.WorldTalks.{stepped_of_given, ends_of_talk, wanted_of_talk}

-- memory was wanted before the first line
pub HasReplayed-memory : (setup : Setup) (trace : Option (List ℕ)) (p : Output) → HasReplayed setup Memory trace trace p p
HasReplayed-memory setup trace p = record {
  steps = [];
  ends =
      IfSome-any trace (λ bytes. Ends setup Memory bytes trace [])
      (λ bytes. record { front = IsFrontFrom-nil setup (start setup) (lines_of bytes); wanting = inl refl });
  wanted = λ same.
      IfSome-is trace (λ bytes. IsStarvedIn setup (start setup) 0 bytes trace [])
      (λ bytes is. record { front = IsFrontFrom-nil setup (start setup) (lines_of bytes); wanting = inl (refl, is) });
  replayed = inl (refl, refl);
  said = record { whole = λ told. Prints-nil p; front = Prints-front p p [] (Prints-nil p) };
}

pub HasReplayed-served : (f : List ℕ → Formulas) (shape : Shape) (keys : List ℕ) (world : WorldState) (stop : Stop) (trace left : Option (List ℕ)) (p q : Output)
    → IsFirstWorld (record { shape = shape; formulas = f keys }) world → world.keys ≡ keys
    → HasStopped (world_protocol f) stop trace left world p q 0 → HasReplayed (record { shape = shape; formulas = f keys }) stop trace left p q
HasReplayed-served f shape keys world stop trace left p q is same stopped =
    let setup : Setup = record { shape = shape; formulas = f keys } in
    let s = standing_of f world in
    let at_setup = new_setup f shape keys world is.new same in
    let stepped = stepped_of_given f world stopped.replies stopped.given in
    let ends =
    IfSome-map trace (λ bytes. TalkEnds (world_protocol f) world 0 stop bytes left stopped.replies) (λ bytes. EndsFrom s.setup s.machine 0 stop bytes left stopped.replies)
    (λ bytes some ends. ends_of_talk stop f world 0 bytes left stopped.replies is.new.not_shown ends) stopped.ends in
    record {
      steps = stopped.replies;
      ends =
          subst (λ machine. IfSome trace (λ bytes. EndsFrom setup machine 0 stop bytes left stopped.replies)) (new_machine f setup world is.new)
          (subst (λ (u : Setup). IfSome trace (λ bytes. EndsFrom u s.machine 0 stop bytes left stopped.replies)) at_setup ends);
      wanted = λ memory.
          subst (λ machine. IfSome trace (λ bytes. IsStarvedIn setup machine 0 bytes left stopped.replies)) (new_machine f setup world is.new)
          (subst (λ (u : Setup). IfSome trace (λ bytes. IsStarvedIn u s.machine 0 bytes left stopped.replies)) at_setup
          (IfSome-map trace (λ bytes. TalkEnds (world_protocol f) world 0 stop bytes left stopped.replies) (λ bytes. IsStarvedIn s.setup s.machine 0 bytes left stopped.replies)
          (λ bytes some ends. wanted_of_talk stop f world 0 bytes left stopped.replies is.new.not_shown ends memory) stopped.ends));
      replayed = inr (world, stepped.0, is, subst (λ (u : Setup). AreStepped u world stopped.replies stepped.0) at_setup stepped.1);
      said = record { whole = stopped.whole; front = stopped.front };
    }
