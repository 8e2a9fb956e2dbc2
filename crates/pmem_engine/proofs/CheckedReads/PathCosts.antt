-- What it takes to fetch a path.
use Rattle.std.proofs.Common.{ℕ, zero, suc, ◌≡◌, ◌≤◌, Bool, true, false, length, Option, Some, None, refl, arith, rules}
use Rattle.std.proofs.lemmas.Bool.{cond-true, cond-false}
use Rattle.std.proofs.lemmas.List.{length-append}
use Rattle.pmem_base.specs.Shape.{Shape}
use Rattle.meta_cache.specs.declared.slot.Slot.{Slot}
use Rattle.meta_cache.specs.Banks.{Banks, is_cached}
use Rattle.meta_path.specs.Blocks.{path_at, slots_at}
use Rattle.meta_path.specs.Levels.{victim_write, room_write, level_write}
use Rattle.meta_path.specs.Fetching.{spilled}

-- each level makes one write at most
pub length_spilled : (g : Shape) (banks : Banks) (page n : ℕ) → length (spilled g banks page n) ≤ n
length_spilled g banks page zero = omega arith
length_spilled g banks page (suc n) =
    let one : length (level_write g banks n (path_at g page n)) ≤ 1 = search rules in
    omega (
      arith,
      length_spilled g banks page n,
      one,
      length-append (spilled g banks page n) (level_write g banks n (path_at g page n)),
    )
  where
    one_victim : (g : Shape) (victim : Option Slot) → length (victim_write g victim) ≤ 1
    one_victim g None = omega arith
    one_victim g (Some victim) = by_mark victim.dirty refl
      where
        by_mark : (b : Bool) → victim.dirty ≡ b → length (victim_write g (Some victim)) ≤ 1
        by_mark true e =
            let same : length (victim_write g (Some victim)) ≡ 1 = search (rules, cond-true) in
            omega (arith, same)
        by_mark false e =
            let same : length (victim_write g (Some victim)) ≡ 0 = search (rules, cond-false) in
            omega (arith, same)

    one_write : (g : Shape) (banks : Banks) (bank x : ℕ) (b : Bool) → is_cached g banks bank x ≡ b
        → length (level_write g banks bank x) ≤ 1
    one_write g banks bank x true e =
        let same : length (level_write g banks bank x) ≡ 0 = search (rules, cond-true) in
        omega (arith, same)
    one_write g banks bank x false e =
        let same : length (level_write g banks bank x) ≡ length (room_write g (slots_at g banks bank x)) = search (rules, cond-false) in
        let few : length (room_write g (slots_at g banks bank x)) ≤ 1 = search rules in
        omega (arith, same, few)
