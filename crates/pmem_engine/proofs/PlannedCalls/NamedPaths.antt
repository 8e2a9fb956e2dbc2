-- A page's path is named from the top down: wherever that ends, its first blocks are named, and on the device one fewer at most.
use Rattle.std.proofs.Common.{ℕ, suc, ◌≡◌, ◌<◌, ◌+◌, ◌++◌, ◌∷◌, [], Bool, true, false, List, Result, Ok, Err, length, refl, sym, ap, subst, ◌∙◌, arith, rules}
use Rattle.std.proofs.lemmas.Bool.{cond-true, cond-false}
use Rattle.std.proofs.lemmas.List.{append-nil, length-append}
use Rattle.pmem_base.specs.declared.faults.Cut.{Cut}
use Rattle.pmem_base.specs.declared.lines.Line.{Line}
use Rattle.pmem_base.specs.Counts.{risen_times}
use Rattle.pmem_base.specs.Layout.{shadow_line}
use Rattle.pmem_base.specs.Shape.{Shape, named_levels}
use Rattle.pmem_base.proofs.CountLemmas.{risen_times-add}
use Rattle.board.specs.Device.{Device}
use Rattle.board.specs.Steps.{HasWritten, WasCut}
use Rattle.call_plan.specs.Plans.{the_cut}
use Rattle.call_plan.specs.Bounds.{Leaves, AtEnd}
use Rattle.call_plan.proofs.Leaves.{leaves, leaves_mapped, leaves_more, leaves_if, leaves_repeated}
use Rattle.commit_regs.specs.Groups.{redone_told}
use Rattle.commit_regs.proofs.GroupLemmas.{redone-nil, redone-more}
use Rattle.shadow_tables.specs.Naming.{entry_line, naming_line, with_named}
use Rattle.meta_path.specs.Blocks.{path_at}
use Rattle.meta_path.specs.Naming.{path_number, is_slot_named, named_path, naming_writes}
use Rattle.meta_path.specs.Plans.{slot_plan, naming_turn, naming_plan}
use Rattle.pmem_engine.specs.Engine.{ChipState}
use Rattle.pmem_engine.specs.Plans.{with_mirror, name_plan}
use Rattle.pmem_engine.specs.NameLaws.{AreNamed, IsNamedInOrder, PathsAreNamedInOrder}

module _ (page : ℕ) (first : ChipState) (old : Device) where
  abbrev g : Shape
  g = first.shape

  -- how many blocks of the path may get dirty
  abbrev all : ℕ
  all = named_levels g

  -- the copy once so many blocks are named, and the lines that this takes
  abbrev named : ℕ → List Line
  named n = named_path g first.cache page first.mirror n

  abbrev written : ℕ → List (ℕ × Line)
  written n = naming_writes g first.cache page first.mirror n

  -- so many are in the copy, and so many on the device
  record AreTold (n written_to : ℕ) (mirror : List Line) (now : Device) : Type 0 where
    copy : mirror ≡ named n
    lines : now.lines ≡ redone_told (written written_to) old.lines
    writes : now.writes ≡ risen_times (length (written written_to)) old.writes
    regs : now.regs ≡ old.regs
    reads : now.reads ≡ old.reads
    latches : now.latches ≡ old.latches

  abbrev IsCut : List Line × Cut → Device → Type 0
  IsCut left new = (n : ℕ) × (n < all) × AreTold (n + 1) n left.0 new

  module _ (j : ℕ) (low : j < all) (now : Device) (so : AreTold j j (named j) now) where
    abbrev n : ℕ
    n = path_number g first.cache page j

    abbrev x : ℕ
    x = path_at g page j

    abbrev is_named : Bool
    is_named = is_slot_named g (named j) j n x

    -- what the turn writes, where it isn't named
    abbrev entry : ℕ × Line
    entry = (shadow_line g (entry_line g j n), naming_line g (named j) j n x)

    up : suc j ≡ j + 1
    up = omega arith

    already : is_named ≡ true → AreTold (j + 1) (j + 1) (named j) now
    already is =
        let same : written (suc j) ≡ written j = search (rules, cond-true, append-nil) in
        subst (λ k. AreTold k k (named j) now) up
        (record {
          copy = sym (cond-true is_named (named j) (with_named g (named j) j n x) is);
          lines = so.lines ∙ ap (λ entries. redone_told entries old.lines) (sym same);
          writes = so.writes ∙ ap (λ entries. risen_times (length entries) old.writes) (sym same);
          regs = so.regs;
          reads = so.reads;
          latches = so.latches;
        })

    module _ (isnt : is_named ≡ false) where
      copied : with_named g (named j) j n x ≡ named (suc j)
      copied = sym (cond-false is_named (named j) (with_named g (named j) j n x) isnt)

      one_more : written (suc j) ≡ written j ++ entry ∷ []
      one_more = ap (λ (entries : List (ℕ × Line)). written j ++ entries) (cond-false is_named [] (entry ∷ []) isnt)

      cut_so : (new : Device) → WasCut now new → IsCut (with_named g (named j) j n x, the_cut) new
      cut_so new was = (
        j,
        low,
        subst (λ k. AreTold k j (with_named g (named j) j n x) new) up
            (record {
              copy = copied;
              lines = was.lines ∙ so.lines;
              writes = was.writes ∙ so.writes;
              regs = was.regs ∙ so.regs;
              reads = was.reads ∙ so.reads;
              latches = was.latches ∙ so.latches;
            }),
      )

      write_so : (new : Device) → HasWritten now entry.0 entry.1 new → AreTold (j + 1) (j + 1) (with_named g (named j) j n x) new
      write_so new was = search (rules, copied, redone-more, risen_times-add, length-append)

    slot_so : Leaves (slot_plan g j n x (named j)) (λ end d. AreTold (j + 1) (j + 1) end.0 d) IsCut now
    unfolding Leaves slot_plan
    slot_so = search (rules, leaves_if, already, cut_so, write_so)

  turn_so : (j : ℕ) (before : List Line × Unit {0}) (now : Device) → j < all → AreTold j j before.0 now
      → Leaves (naming_turn g first.cache page j before) (λ end d. AreTold (j + 1) (j + 1) end.0 d) IsCut now
  turn_so j before now low so =
      subst (λ (mirror : List Line). AreTold j j mirror now
      → Leaves (slot_plan g j (path_number g first.cache page j) (path_at g page j) mirror) (λ end d. AreTold (j + 1) (j + 1) end.0 d) IsCut now)
      (sym so.copy) (λ its. slot_so j low now its) so

  begins : AreTold 0 0 first.mirror old
  begins = record { copy = refl; lines = sym (redone-nil old.lines); writes = refl; regs = refl; reads = refl; latches = refl }

  as_named : (n written_to : ℕ) (mirror : List Line) (now : Device) → AreTold n written_to mirror now
      → AreNamed page n written_to first (with_mirror first mirror) old now
  as_named n written_to mirror now so = search rules

  name_so : Leaves (name_plan page first) (λ end d. AreNamed page all all first end.0 old d)
      (λ left d. IsNamedInOrder page first old d (Err left)) old
  unfolding name_plan
  name_so =
      leaves_mapped _ _ (λ end d. AreNamed page all all first end.0 old d) (λ left d. IsNamedInOrder page first old d (Err left))
      (naming_plan g first.cache page first.mirror) old
      (leaves_more (λ end d. AreTold all all end.0 d)
      (λ end d. AreNamed page all all first (with_mirror first end.0) old d) IsCut
      (λ left d. IsNamedInOrder page first old d (Err (with_mirror first left.0, left.1))) (naming_plan g first.cache page first.mirror) old
      (λ end d so. as_named all all end.0 d so) (λ left d it. (it.0, it.1, as_named (it.0 + 1) it.0 left.0 d it.2))
      (leaves_repeated (λ j before d. AreTold j j before.0 d) IsCut (naming_turn g first.cache page) all 0 all (first.mirror, tt) old
      (omega arith) (λ j before d low so. turn_so j before d low so) begins))

pub named_in_order : PathsAreNamedInOrder
named_in_order page engine old new end it =
    at_end end
    (leaves (λ end d. AreNamed page (named_levels engine.shape) (named_levels engine.shape) engine end.0 old d)
    (λ left d. IsNamedInOrder page engine old d (Err left)) (name_so page engine old) it)
  where
    at_end : (end : Result (ChipState × Unit {0}) (ChipState × Cut))
        → AtEnd (λ end d. AreNamed page (named_levels engine.shape) (named_levels engine.shape) engine end.0 old d)
        (λ left d. IsNamedInOrder page engine old d (Err left)) end new
        → IsNamedInOrder page engine old new end
    at_end (Ok t) so = so
    at_end (Err left) so = so
