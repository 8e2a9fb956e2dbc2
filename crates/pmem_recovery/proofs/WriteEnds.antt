-- What recovery's plan leaves while it writes: the first k of the writes that are due are made.
use Rattle.std.proofs.Common.{ℕ, zero, suc, ◌≡◌, ◌≤◌, ◌<◌, ◌+◌, ◌⊎◌, inl, inr, Bool, true, false, List, [], ◌∷◌, length, drop, get_or, refl, ap, subst, ◌∙◌, arith}
use Rattle.std.proofs.lemmas.Bool.{cases_lt}
use Rattle.std.proofs.lemmas.List.{drop_more, length-drop}
use Rattle.std.proofs.Math.ListN.{drop_of_length-le}
use Rattle.pmem_base.specs.declared.faults.Cut.{Cut}
use Rattle.pmem_base.specs.declared.lines.Line.{Line}
use Rattle.pmem_base.specs.Shape.{Shape}
use Rattle.pmem_base.specs.Layout.{shadow_lines}
use Rattle.board.specs.Device.{Device}
use Rattle.board.specs.Steps.{WasCut}
use Rattle.call_plan.specs.Plans.{bind, the_cut}
use Rattle.call_plan.specs.Bounds.{Leaves}
use Rattle.call_plan.proofs.Leaves.{leaves_bind, leaves_repeated, leaves_for_each, leaves_more}
use Rattle.pmem_recovery.specs.declared.entries.MadeEntry.{MadeEntry}
use Rattle.pmem_recovery.specs.Parts.{IsUncut, IsCutOff}
use Rattle.pmem_recovery.specs.Writing.{HasWrittenIf, DueWrite, due_of_made, due_zeros, writes_due, HasWrittenTo}
use Rattle.pmem_recovery.specs.Plans.{changed_plan, entry_turn, entries_plan, clear_turn, clear_plan}
use Rattle.pmem_recovery.proofs.PartLaws.{IsUncut-none, IsUncut-then, IsCutOff-cut, IsCutOff-after}
use Rattle.pmem_recovery.proofs.WriteSteps.{HasWrittenTo-none, HasWrittenTo-cut, HasWrittenTo-more, IsUncut-written_if}

-- a line that is written if it is another one
changed_leaves : (at : ℕ) (line : Line) (changed : Bool) (ok : Unit {0} → Device → Type 0) (err : Cut → Device → Type 0) (d : Device)
    → ((new : Device) → WasCut d new → err the_cut new) → ((new : Device) → HasWrittenIf changed d at line new → ok tt new)
    → Leaves (changed_plan at line changed) ok err d
unfolding changed_plan Leaves
changed_leaves at line true ok err d cut written = (cut, λ new was. written new was)
changed_leaves at line false ok err d cut written = written d refl

-- ---- which writes are due

module _ (g : Shape) (shadow : List Line) where
  pub due_made : (made : List MadeEntry) (k : ℕ) (d : MadeEntry) → k < length made → writes_due g shadow made k ≡ due_of_made g (get_or made k d)
  unfolding writes_due
  due_made [] k d low = absurd (omega arith)
  due_made (entry ∷ made) zero d low = refl
  due_made (entry ∷ made) (suc k) d low = due_made made k d (omega arith)

  pub due_zero : (made : List MadeEntry) (n : ℕ) → writes_due g shadow made (length made + n) ≡ due_zeros g shadow n
  unfolding writes_due
  due_zero [] n = let none : 0 + n ≡ n = omega arith in ap (due_zeros g shadow) none
  due_zero (entry ∷ made) n =
      let next : length (entry ∷ made) + n ≡ suc (length made + n) = omega arith in
      ap (writes_due g shadow (entry ∷ made)) next ∙ due_zero made n

-- ---- the writes, one by one

module _ (g : Shape) (shadow : List Line) (made : List MadeEntry) (start : Device) where
  abbrev due : ℕ → DueWrite
  due = writes_due g shadow made

  abbrev all : ℕ
  all = length made + shadow_lines g

  -- the first k are made
  pub record IsAtWrite (k : ℕ) (now : Device) : Type 0 where
    pub written : HasWrittenTo (writes_due g shadow made) (length made + shadow_lines g) k start now
    pub goes : IsUncut start now

  -- not all of them
  pub record IsCutAmidWrites (now : Device) : Type 0 where
    pub place : ℕ
    pub within : place < length made + shadow_lines g
    pub written : HasWrittenTo (writes_due g shadow made) (length made + shadow_lines g) place start now
    pub off : IsCutOff start now

  next_leaves : (k : ℕ) (w : DueWrite) (ok : Unit {0} → Device → Type 0) (d : Device) → k < length made + shadow_lines g → writes_due g shadow made k ≡ w → IsAtWrite k d
      → ((new : Device) → IsAtWrite (k + 1) new → ok tt new) → Leaves (changed_plan w.place w.line w.changed) ok (λ left new. IsCutAmidWrites new) d
  next_leaves k w ok d low is it up =
      subst (λ (w : DueWrite). Leaves (changed_plan w.place w.line w.changed) ok (λ left new. IsCutAmidWrites new) d) is
      (changed_leaves (due k).place (due k).line (due k).changed ok (λ left new. IsCutAmidWrites new) d
      (λ new was.
      record {
        place = k;
        within = low;
        written = HasWrittenTo-cut due all k start d new it.written was;
        off = IsCutOff-after start d new it.goes (IsCutOff-cut d new was);
      })
      (λ new was. up new (record {
        written = HasWrittenTo-more due all k start d new low it.written was;
        goes = IsUncut-then start d new it.goes (IsUncut-written_if (due k).changed d (due k).place (due k).line new was);
      })))

  -- these of the lines made are left
  record AreLeft (later : List MadeEntry) (now : Device) : Type 0 where
    pub place : ℕ
    pub few : place ≤ length made
    pub rest : drop place made ≡ later
    pub so_far : IsAtWrite place now

  inside : (place : ℕ) (entry : MadeEntry) (later : List MadeEntry) → drop place made ≡ entry ∷ later → place < length made
  inside place entry later rest = go (cases_lt place (length made))
    where
      go : (place < length made) ⊎ (length made ≤ place) → place < length made
      go (inl less) = less
      go (inr none) = let empty = drop_of_length-le made none in absurd (cc)

  first_left : (place : ℕ) (entry : MadeEntry) (later : List MadeEntry) → drop place made ≡ entry ∷ later
      → (get_or made place entry ≡ entry) × (drop (place + 1) made ≡ later)
  first_left place entry later rest =
      let parts = drop_more made place entry (inside place entry later rest) in
      (cc, cc)

  entries_leave : Leaves (entries_plan g made) (λ t new. AreLeft [] new) (λ left new. IsCutAmidWrites new) start
  entries_leave =
      leaves_for_each (λ later t d. AreLeft later d) (λ left new. IsCutAmidWrites new) (entry_turn g) made tt start
      (λ entry later t d it.
      let within = inside it.place entry later it.rest in
      let here = first_left it.place entry later it.rest in
      next_leaves it.place (due_of_made g entry) (λ t new. AreLeft later new) d (omega (arith, within))
      (due_made g shadow made it.place entry within ∙ ap (due_of_made g) here.0) it.so_far
      (λ new next. record { place = it.place + 1; few = omega (arith, within); rest = here.1; so_far = next }))
      (record { place = 0; few = omega arith; rest = refl; so_far = record { written = HasWrittenTo-none due all start; goes = IsUncut-none start } })

  clear_leaves : (d : Device) → IsAtWrite (length made) d → Leaves (clear_plan g shadow) (λ t new. IsAtWrite (length made + shadow_lines g) new) (λ left new. IsCutAmidWrites new) d
  clear_leaves d now =
      let none : length made ≡ length made + 0 = omega arith in
      leaves_repeated (λ n t d. IsAtWrite (length made + n) d) (λ left new. IsCutAmidWrites new) (clear_turn g shadow) (shadow_lines g) 0 (shadow_lines g) tt d (omega arith)
      (λ n t d low it.
      let next : length made + n + 1 ≡ length made + (n + 1) = omega arith in
      next_leaves (length made + n) (due_zeros g shadow n) (λ t new. IsAtWrite (length made + (n + 1)) new) d (omega (arith, low)) (due_zero g shadow made n) it
      (λ new at. subst (λ k. IsAtWrite k new) next at))
      (subst (λ k. IsAtWrite k d) none now)

  -- the law
  pub writes_leave : Leaves (bind (entries_plan g made) (λ written. clear_plan g shadow)) (λ t new. IsAtWrite (length made + shadow_lines g) new)
      (λ left new. IsCutAmidWrites new) start
  writes_leave =
      leaves_bind (λ t new. IsAtWrite all new) (λ left new. IsCutAmidWrites new) (entries_plan g made) (λ written. clear_plan g shadow) start
      (leaves_more (λ t new. AreLeft [] new) (λ t new. Leaves (clear_plan g shadow) (λ t new. IsAtWrite all new) (λ left new. IsCutAmidWrites new) new)
      (λ left new. IsCutAmidWrites new) (λ left new. IsCutAmidWrites new) (entries_plan g made) start
      (λ t new it. clear_leaves new (all_made new it)) (λ left new it. it) entries_leave)
    where
      all_made : (new : Device) → AreLeft [] new → IsAtWrite (length made) new
      all_made new it =
          let none : length (drop it.place made) ≡ 0 = ap length it.rest in
          let last : it.place ≡ length made = omega (arith, none, length-drop it.place made, it.few) in
          subst (λ k. IsAtWrite k new) last it.so_far
