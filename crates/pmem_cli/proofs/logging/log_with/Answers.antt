use Rattle.pmem_cli.proofs.LoggedTalks.{HasReplayedLogged-memory, HasReplayedLogged-served}
use Rattle.pmem_cli.proofs.ReplyLemmas.{replied_logged_new}
use Rattle.pmem_cli.proofs.StandingLemmas.{first_world}
use Rattle.pmem_cli.proofs.logging.log_with.Goals as goal

pub returns-in-Err-clause-run : goal.returns-in-Err-clause-run
returns-in-Err-clause-run g c = λ whole may.
    HasReplayedLogged-memory _ _ _

pub returns-in-Ok-clause-run : goal.returns-in-Ok-clause-run
returns-in-Ok-clause-run g c = λ whole may.
    HasReplayedLogged-served g.U.Suite.formulas_of _ _ c.in-Ok.world c.serve_all.result _ _ _ _
    (first_world _ c.in-Ok.world _ _ c.in-Ok.ensures.new c.in-Ok.ensures.work c.requires) c.in-Ok.ensures.keys (c.serve_all.ensures.stopped whole may)

pub returns-in-Ok-clause-replies_first : goal.returns-in-Ok-clause-replies_first
returns-in-Ok-clause-replies_first g c = λ whole may.
    replied_logged_new _ _ g.U.Suite.formulas_of _ _ c.in-Ok.world _ _ _ _ c.in-Ok.ensures.new c.in-Ok.ensures.keys (c.serve_all.ensures.replies_first whole may)
