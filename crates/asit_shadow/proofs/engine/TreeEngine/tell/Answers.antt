-- A node told more.
use Rattle.std.proofs.Common.{ℕ, ◌<◌, List, [], length, take, get_or, ap, subst, ◌∙◌, arith, rules}
use Rattle.asit_shadow.proofs.Common.{take_all, Line, Shape, length-put_lines, tree_slots, Node, slot_of, slot_entries}
use Rattle.asit_shadow.proofs.PairSets.{length-set_pairs}
use Rattle.asit_shadow.proofs.WriteLoops.{told-none, told-next}
use Rattle.asit_shadow.proofs.engine.TreeEngine.tell.Goals as goal

pub levels-init : goal.levels-init
levels-init g c = told-none _ c.args.at _ _ _ c.note_seal.ensures

pub note_node-requires : goal.note_node-requires
note_node-requires g c = search (rules, get_or, length-set_pairs)

pub note_slot-requires : goal.note_slot-requires
note_slot-requires g c =
    let count = length-put_lines (slot_entries c.args.self.now.shape (λ i. i) (take c.levels.x-index c.args.nodes.now.items)) (g.W.Watch.watched c.args.watch.now).slots in
    let same = ap (λ (slots : List Line). length slots) (c.note_node.ensures.noted.slots ∙ c.levels.invariant.slots) in
    let low : c.slot_of.result < tree_slots c.args.self.now.shape = subst (λ (k : Shape). c.slot_of.result < tree_slots k) c.geo-geo.ensures c.slot_of.ensures.within in
    omega (arith, low, count, same, c.requires.ready.slot_count)

pub levels-preserved : goal.levels-preserved
levels-preserved g c =
    let none : ℕ × Node = (0, record { 0 = [] }) in
    told-next c.args.self.now.shape c.args.at c.args.seal.now c.args.nodes.now.items c.as_slice-x-items.result.now c.levels.x-index c.slot_of.result c.slot_line.result none
    _ _ _ _ c.as_slice-x-items.ensures.value c.levels-test.true
    (c.slot_of.ensures.value ∙ ap (λ (k : Shape). slot_of k (get_or c.as_slice-x-items.result.now c.levels.x-index none).0) c.geo-geo.ensures) c.slot_line.ensures c.levels.invariant c.note_node.ensures.noted c.note_slot.ensures.noted

pub returns : goal.returns
returns g c = search (rules, take_all)
