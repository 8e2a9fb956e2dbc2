-- The slot lines' plan, line by line.
use Rattle.std.proofs.Common.{rules, arith}
use Rattle.asit_shadow.proofs.Common.{turns_start, turn_ok, turn_err, turns_end, is_err_of}
use Rattle.asit_shadow.proofs.RecoverPlans.{slot_was_read, slot_unread}
use Rattle.asit_shadow.proofs.recovery.read_slots.Goals as goal

pub slots-init : goal.slots-init
slots-init g c =
    record {
      read = search rules;
      reached = λ at. turns_start _ _ _ _;
      whole = search rules;
      told = search rules;
    }

pub slots-preserved : goal.slots-preserved
slots-preserved g c =
    record {
      read = search rules;
      reached = search (rules, turn_ok, slot_was_read);
      whole = search rules;
      told = search rules;
    }

pub returns-in_err-line-clause-plan : goal.returns-in_err-line-clause-plan
returns-in_err-line-clause-plan g c = search (rules, is_err_of, turn_err, slot_unread)

pub returns-clause-plan : goal.returns-clause-plan
returns-clause-plan g c = λ at. turns_end (c.slots.invariant.reached at) (omega (arith, c.slots-test.false, c.tree_slots-i-end.ensures.value))
