-- The engine is down, or the calls of an opening are made, and what they make of the lines.
use Rattle.std.proofs.lemmas.Grind.{common_steps}
use Rattle.std.proofs.Common.{◌∙◌, sym, arith}
use Rattle.line_txn.proofs.Common.{true≢false}
use Rattle.pmem_engine.proofs.CallEnds.StillParts.{left_alone}
use Rattle.line_txn.proofs.Openings.{logged_size, opened_logged, opened_trusted, opened_sound}
use Rattle.line_txn.proofs.store.Store.open.Goals as goal

pub open_lines-requires-clause-up : goal.open_lines-requires-clause-up
open_lines-requires-clause-up g c = sym c.is_down.ensures ∙ c.if-is_down.false

pub returns-then-is_down-clause-opened : goal.returns-then-is_down-clause-opened
returns-then-is_down-clause-opened g c = grind (arith, common_steps, true≢false, left_alone)

pub returns-clause-opened : goal.returns-clause-opened
returns-clause-opened g c =
    record {
      did = λ up.
          record {
            opened = c.open_lines.ensures.opened;
            plan = c.open_lines.ensures.plan;
            logged = λ trusted lines had. opened_logged _ lines
                (logged_size c.args.engine.shape) c.open_lines.ensures.few _ _ _ had trusted c.open_lines.ensures.opened;
            trusted = opened_trusted _ _ _ _ c.open_lines.ensures.opened;
            sound = opened_sound _ _ _ _ c.open_lines.ensures.opened;
          };
      refuses = λ down. absurd (true≢false (sym down ∙ sym c.is_down.ensures ∙ c.if-is_down.false));
      up = c.open_lines.ensures.up;
    }
