use Rattle.std.proofs.Common.{refl}
use Rattle.plain_model.specs.Run.{Step}
use Rattle.pmem_replay.specs.Stepped.{reply_in}
use Rattle.pmem_cli.proofs.StandingLemmas.{HasReplied-step, StandingAfter-step}
use Rattle.pmem_cli.proofs.sampling.WorldExecute.execute.Goals as goal

pub returns-clause-executed : goal.returns-clause-executed
returns-clause-executed g c =
    let step : Step = record { command = c.args.command.now; reply = reply_in c.step.new.self c.in_ok-reply.reply } in record {
      step = step;
      replied = HasReplied-step g.U.Suite.formulas_of _ _ _ _ c.in_ok-reply.ensures.stepped c.in_ok-reply.ensures.few;
      its_answer = refl;
      on = λ hidden. StandingAfter-step g.U.Suite.formulas_of c.args.self.now c.step.new.self step c.in_ok-reply.ensures.stepped c.in_ok-reply.ensures.few hidden;
    }
