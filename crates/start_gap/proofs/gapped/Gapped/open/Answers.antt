-- The engine is down, or the record is read.
use Rattle.std.proofs.lemmas.Grind.{common_steps}
use Rattle.std.proofs.Common.{sym, ◌∙◌, arith}
use Rattle.start_gap.proofs.Common.{true≢false}
use Rattle.pmem_engine.proofs.CallEnds.StillParts.{left_alone}
use Rattle.start_gap.proofs.LevelledReads.{wear_read}
use Rattle.start_gap.proofs.gapped.Gapped.open.Goals as goal

pub open_up-requires-clause-up : goal.open_up-requires-clause-up
open_up-requires-clause-up g c = sym c.is_down.ensures ∙ c.if-is_down.false

pub returns-then-is_down-clause-opened : goal.returns-then-is_down-clause-opened
returns-then-is_down-clause-opened g c = grind (arith, common_steps, true≢false, left_alone)

pub returns-clause-opened : goal.returns-clause-opened
returns-clause-opened g c =
    record {
      did = λ up.
          record {
            opened = c.open_up.ensures.opened;
            plan = c.open_up.ensures.plan;
            levelled = λ trusted lines memory wear had levelled. wear_read _ _ _ _ _ c.open_up.ensures.opened trusted lines memory wear had levelled;
          };
      refuses = λ down. absurd (true≢false (sym down ∙ sym c.is_down.ensures ∙ c.if-is_down.false));
      up = c.open_up.ensures.up;
    }
