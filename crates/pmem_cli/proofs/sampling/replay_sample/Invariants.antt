use Rattle.std.proofs.Common.{◌≡◌, ◌+◌, ◌++◌, ◌∷◌, [], ℕ, false, List}
use Rattle.pmem_base.specs.declared.commands.Command.TheVariants as Do
use Rattle.plain_model.specs.Run.{Step}
use Rattle.trace_text.specs.Samples.{sample_trace, commands_from}
use Rattle.pmem_cli.specs.Sampled.{HasAnsweredFront}
use Rattle.pmem_cli.proofs.sampling.replay_sample.Given as goal

abbrev pub invariant-commands : goal.invariant-commands
invariant-commands g l =
    record {
      steps : List Step;
      left : ℕ;
      counted : l.made + left ≡ l.count;
      number : l.maker.number ≡ l.made + 1;
      running : (g.W.Execute.standing l.world).world.shown ≡ false;
      come :
          HasAnsweredFront (g.W.Execute.standing l.initial.world) (g.W.Execute.standing l.world) (sample_trace l.seed l.count)
          (commands_from l.maker.state l.maker.number left ++ Do.Stat ∷ []) steps;
    }
