-- The plan of a slot that is named, at each of its ends, and what it leaves.
use Rattle.std.proofs.Common.{rules, ◌≡◌, ℕ, ◌+◌, Bool, true, false, List, [], ◌∷◌, Ok, Err, refl, sym, subst}
use Rattle.std.specs.Prelude.{if◌then◌else◌}
use Rattle.std.proofs.lemmas.Bool.{eq-eqb}
use Rattle.pmem_base.specs.declared.faults.Cut.{Cut}
use Rattle.pmem_base.specs.declared.lines.Line.{Line}
use Rattle.pmem_base.specs.Shape.{Shape}
use Rattle.pmem_base.specs.Layout.{shadow_line}
use Rattle.board.specs.Device.{Device}
use Rattle.board.specs.Steps.{HasWritten, WasCut}
use Rattle.call_plan.specs.Plans.{Plan, done, write, the_cut}
use Rattle.call_plan.specs.Following.{Follows}
use Rattle.call_plan.specs.Bounds.{Leaves}
use Rattle.call_plan.proofs.Leaves.{leaves}
use Rattle.call_plan.proofs.Steps.{is_done, write_then, write_cut}
use Rattle.shadow_tables.specs.Entries.{slot_entry}
use Rattle.shadow_tables.specs.Naming.{entry_line, naming_line, with_named}
use Rattle.meta_path.specs.Naming.{is_slot_named, named_slot, naming_write}
use Rattle.meta_path.specs.Plans.{slot_plan}
use Rattle.meta_path.specs.Work.{HasWorked}
use Rattle.meta_path.proofs.WorkLemmas.{HasWorked-none, HasWorked-written}

module _ (g : Shape) (bank n x : ℕ) (mirror next : List Line) (old new : Device) where
  abbrev unnamed_plan : Plan (List Line × Cut) (List Line × Unit {0})
  unnamed_plan =
      write (with_named g mirror bank n x, the_cut) (shadow_line g (entry_line g bank n)) (naming_line g mirror bank n x)
      (done (with_named g mirror bank n x, tt))

  -- the entry named the position already
  pub slot_already : slot_entry g mirror bank n ≡ x + 1 → next ≡ mirror → new ≡ old → Follows (slot_plan g bank n x mirror) old new (Ok (next, tt))
  unfolding slot_plan
  slot_already entry same still =
      let named : is_slot_named g mirror bank n x ≡ true = eq-eqb (slot_entry g mirror bank n) (x + 1) entry in
      subst (λ (d : Device). Follows (slot_plan g bank n x mirror) old d (Ok (next, tt))) (sym still)
      (subst (λ m. Follows (slot_plan g bank n x mirror) old old (Ok (m, tt))) (sym same)
      (subst (λ b. Follows (if b then done (mirror, tt) else unnamed_plan) old old (Ok (mirror, tt))) (sym named) (is_done (mirror, tt) old)))

  -- its line was written
  pub slot_written : (at : ℕ) (line : Line) → is_slot_named g mirror bank n x ≡ false → next ≡ with_named g mirror bank n x
      → at ≡ shadow_line g (entry_line g bank n) → line ≡ naming_line g mirror bank n x → HasWritten old at line new
      → Follows (slot_plan g bank n x mirror) old new (Ok (next, tt))
  unfolding slot_plan
  slot_written at line named written place bytes was =
      let done_so : HasWritten old (shadow_line g (entry_line g bank n)) (naming_line g mirror bank n x) new = search rules in
      subst (λ m. Follows (slot_plan g bank n x mirror) old new (Ok (m, tt))) (sym written)
      (subst (λ b. Follows (if b then done (mirror, tt) else unnamed_plan) old new (Ok (with_named g mirror bank n x, tt))) (sym named)
      (write_then (with_named g mirror bank n x, the_cut) done_so (is_done (with_named g mirror bank n x, tt) new)))

  -- the write was cut
  pub slot_cut : is_slot_named g mirror bank n x ≡ false → next ≡ with_named g mirror bank n x → WasCut old new
      → Follows (slot_plan g bank n x mirror) old new (Err (next, the_cut))
  unfolding slot_plan
  slot_cut named written was =
      subst (λ m. Follows (slot_plan g bank n x mirror) old new (Err (m, the_cut))) (sym written)
      (subst (λ b. Follows (if b then done (mirror, tt) else unnamed_plan) old new (Err (with_named g mirror bank n x, the_cut))) (sym named)
      (write_cut _ _ _ _ was))

-- what the plan leaves: the slot is named, on the board as in the copy; or it didn't name the position, its write was cut,
-- and the copy has it already
module _ (g : Shape) (bank n x : ℕ) (mirror : List Line) (old : Device) where
  abbrev IsNamedNow : Bool → List Line × Unit {0} → Device → Type 0
  IsNamedNow named end now =
      (end.0 ≡ (if named then mirror else with_named g mirror bank n x))
      × HasWorked 0 (if named then [] else (shadow_line g (entry_line g bank n), naming_line g mirror bank n x) ∷ []) old now

  abbrev IsCutBefore : Bool → List Line × Cut → Device → Type 0
  IsCutBefore named left now =
      (left.0 ≡ (if named then mirror else with_named g mirror bank n x)) × (named ≡ false) × WasCut old now

  slot_leaves : Leaves (slot_plan g bank n x mirror) (IsNamedNow (is_slot_named g mirror bank n x)) (IsCutBefore (is_slot_named g mirror bank n x)) old
  unfolding Leaves slot_plan
  slot_leaves = by_entry (is_slot_named g mirror bank n x)
    where
      by_entry : (named : Bool) → Leaves (if named then done (mirror, tt) else unnamed_plan g bank n x mirror mirror old old) (IsNamedNow named) (IsCutBefore named) old
      by_entry true = (refl, HasWorked-none old)
      by_entry false = (λ now was. (refl, refl, was), λ now was. (refl, HasWorked-written old _ _ now was))

  pub slot_named : (next : List Line) (new : Device) → Follows (slot_plan g bank n x mirror) old new (Ok (next, tt))
      → (next ≡ named_slot g mirror bank n x) × HasWorked 0 (naming_write g mirror bank n x) old new
  slot_named next new it =
      leaves (IsNamedNow (is_slot_named g mirror bank n x)) (IsCutBefore (is_slot_named g mirror bank n x)) slot_leaves it

  pub slot_stopped : (next : List Line) (cut : Cut) (new : Device) → Follows (slot_plan g bank n x mirror) old new (Err (next, cut))
      → (next ≡ named_slot g mirror bank n x) × (is_slot_named g mirror bank n x ≡ false) × WasCut old new
  slot_stopped next cut new it =
      leaves (IsNamedNow (is_slot_named g mirror bank n x)) (IsCutBefore (is_slot_named g mirror bank n x)) slot_leaves it
