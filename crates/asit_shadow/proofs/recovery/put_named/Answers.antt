-- One slot more.
use Rattle.std.proofs.Common.{◌≡◌, ◌<◌, [], length, Some, subst, arith, rules}
use Rattle.asit_shadow.proofs.Common.{get_or_default, Line, cases_lt, shape_of, line_at, slot_read, CachedNode, IsHeldNode, held_of, IsNameable, cached_named}
use Rattle.pmem_base.specs.Lines.{zero_line}
use Rattle.asit_shadow.proofs.RecoverPlans.{cache_named-is}
use Rattle.asit_shadow.proofs.EngineLemmas.{set-below, of-some, held-past}
use Rattle.asit_shadow.proofs.recovery.put_named.Goals as goal

pub slots-preserved : goal.slots-preserved
slots-preserved c =
    let room : c.slots.i < length c.slots.cache = omega (arith, c.slots.auto.cache, c.requires.cache, c.slots-test.true, c.tree_slots-i-end.ensures.value) in
    let line = get_or_default c.args.slots.now c.slots.i (record { 0 = [] }) zero_line (omega (arith, c.requires.slots, c.slots-test.true, c.tree_slots-i-end.ensures.value)) in
    let here : IsNameable (shape_of c.args.geo.now) (slot_read (line_at c.args.slots.now c.slots.i)) → c.named.result ≡ held_of (slot_read (line_at c.args.slots.now c.slots.i)) = search rules in
    let held = set-below (λ j it. (one : CachedNode) → it ≡ Some one → IsHeldNode (shape_of c.args.geo.now) one) c.slots.cache c.slots.i c.named.result room
    (of-some (IsHeldNode (shape_of c.args.geo.now)) c.named.result c.named.ensures.held) (λ j less one here. c.slots.invariant.held j one less here) in
    record {
      held = λ j one less here. held j less one here;
      named =
          set-below (λ j it. IsNameable (shape_of c.args.geo.now) (slot_read (line_at c.args.slots.now j)) → it ≡ held_of (slot_read (line_at c.args.slots.now j))) c.slots.cache c.slots.i c.named.result room
          here c.slots.invariant.named;
      value =
          set-below (λ j it. it ≡ cached_named (shape_of c.args.geo.now) (slot_read (line_at c.args.slots.now j))) c.slots.cache c.slots.i c.named.result room
          (subst (λ (l : Line). c.named.result ≡ cached_named (shape_of c.args.geo.now) (slot_read l)) line c.named.ensures.value) c.slots.invariant.value;
    }

pub returns-clause-held : goal.returns-clause-held
returns-clause-held c i held here = search (rules, cases_lt, held-past)

pub returns-clause-value : goal.returns-clause-value
returns-clause-value c = search (rules, cache_named-is)
