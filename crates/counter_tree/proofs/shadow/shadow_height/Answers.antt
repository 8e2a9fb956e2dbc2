-- The height by the number of slots.
use Rattle.std.proofs.Common.{sym, arith}
use Rattle.counter_tree.proofs.Common.{shape_of, tree_slots}
use Rattle.counter_tree.proofs.HeightLemmas.{height_one, height_two, height_three, height_four, height_five, low-heights}
use Rattle.counter_tree.proofs.shadow.shadow_height.Goals as goal

pub returns-in-0-to-4-clause-value : goal.returns-in-0-to-4-clause-value
returns-in-0-to-4-clause-value c = sym (height_one (shape_of c.args.geo.now) (omega arith))

pub returns-in-5-to-16-clause-value : goal.returns-in-5-to-16-clause-value
returns-in-5-to-16-clause-value c = sym (height_two (shape_of c.args.geo.now) (omega arith) (omega arith))

pub returns-in-17-to-64-clause-value : goal.returns-in-17-to-64-clause-value
returns-in-17-to-64-clause-value c = sym (height_three (shape_of c.args.geo.now) (omega arith) (omega arith))

pub returns-in-65-to-256-clause-value : goal.returns-in-65-to-256-clause-value
returns-in-65-to-256-clause-value c = sym (height_four (shape_of c.args.geo.now) (omega arith) (omega arith))

pub returns-in_default-clause-value : goal.returns-in_default-clause-value
returns-in_default-clause-value c = sym (height_five (shape_of c.args.geo.now) (omega arith))

pub returns-in-17-to-64-clause-smallest : goal.returns-in-17-to-64-clause-smallest
returns-in-17-to-64-clause-smallest c = λ h some low. low-heights (tree_slots (shape_of c.args.geo.now)) 2 h (omega arith) (omega (arith, low))

pub returns-in-65-to-256-clause-smallest : goal.returns-in-65-to-256-clause-smallest
returns-in-65-to-256-clause-smallest c = λ h some low. low-heights (tree_slots (shape_of c.args.geo.now)) 3 h (omega arith) (omega (arith, low))

pub returns-in_default-clause-smallest : goal.returns-in_default-clause-smallest
returns-in_default-clause-smallest c = λ h some low. low-heights (tree_slots (shape_of c.args.geo.now)) 4 h (omega arith) (omega (arith, low))
