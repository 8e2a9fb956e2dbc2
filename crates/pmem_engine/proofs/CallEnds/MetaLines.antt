-- The metadata lines that a part of a call leaves on the device: a seal's or a begin's group writes none but the lowest
-- lines of the page's path.
use Rattle.std.proofs.Common.{ℕ, ◌≡◌, ◌≤◌, ◌<◌, ◌-◌, inl, inr, false, List, [], ◌∷◌, map, drop, Option, Some, None, refl, ap, ◌∙◌, arith}
use Rattle.std.specs.Prelude.{◌==◌}
use Rattle.std.specs.List.{list_any}
use Rattle.std.proofs.lemmas.Bool.{eqb-false, or_parts}
use Rattle.pmem_base.specs.declared.lines.Line.{Line}
use Rattle.pmem_base.specs.Shape.{Shape}
use Rattle.pmem_base.specs.Layout as layout
use Rattle.pmem_base.specs.Layout.{page_of}
use Rattle.plain_model.specs.Bounds.{path_length, begun_lines}
use Rattle.board.specs.Device.{Device}
use Rattle.commit_regs.specs.Groups.{redone_told, Writes}
use Rattle.meta_cache.specs.Banks.{Banks}
use Rattle.meta_path.specs.Work.{told_line}
use Rattle.meta_path.specs.Naming.{naming_writes}
use Rattle.meta_path.specs.Storing.{IsPathOf}
use Rattle.pmem_engine.specs.declared.resealing.NextSeal.{NextSeal}
use Rattle.pmem_engine.specs.CallFacts.{KeepsMetaLines, is_grouped}
use Rattle.pmem_engine.specs.Committing.{HasCommitted}
use Rattle.pmem_engine.specs.Sealing.{path_entries, seal_group, begin_group}
use Rattle.pmem_engine.proofs.CallEnds.UnwrittenLines.{told_off}
use Rattle.pmem_engine.proofs.Laws.PathEntries.{entered_is, grouped_below}
use Rattle.pmem_engine.proofs.PathNaming.PathNames.{meta_kept}

-- a line that a group doesn't write
pub committed_at : (group : List (ℕ × Line)) (old new : Device) (n : ℕ) → (Writes n group → ⊥) → HasCommitted group old new
    → told_line new.lines n ≡ told_line old.lines n
committed_at group old new n off it = ap (λ told. told_line told n) it.lines ∙ told_off group old.lines n off

-- entries of other positions
entries_off : (g : Shape) (entries : List (ℕ × Line)) (x : ℕ) → list_any (λ (e : ℕ × Line). e.0 == x) entries ≡ false
    → Writes (layout.meta_line g x) (map (λ (e : ℕ × Line). (layout.meta_line g e.0, e.1)) entries) → ⊥
entries_off g [] x none it = it
entries_off g (e ∷ es) x none (inl same) =
    eqb-false e.0 x (or_parts (e.0 == x) (list_any (λ (e : ℕ × Line). e.0 == x) es) none).0 (omega (arith, same))
entries_off g (e ∷ es) x none (inr it) =
    entries_off g es x (or_parts (e.0 == x) (list_any (λ (e : ℕ × Line). e.0 == x) es) none).1 it

path_off_meta : (g : Shape) (page grouped : ℕ) (path : List (ℕ × Line)) → IsPathOf g page path → g.levels ≤ 6 → (x : ℕ)
    → is_grouped g page grouped x ≡ false → Writes (layout.meta_line g x) (path_entries g grouped path) → ⊥
path_off_meta g page grouped path its few x un it =
    entries_off g (drop (path_length g - grouped) path) x (entered_is g page path few its grouped x ∙ un) it

pub begin_off_meta : (g : Shape) (page : ℕ) (path : List (ℕ × Line)) → IsPathOf g page path → g.levels ≤ 6 → (x : ℕ)
    → is_grouped g page (begun_lines g) x ≡ false → Writes (layout.meta_line g x) (begin_group g path) → ⊥
begin_off_meta g page path its few x un it = path_off_meta g page (begun_lines g) path its few x un it

pub seal_off_meta : (g : Shape) (next : NextSeal) (grouped : ℕ) (path : List (ℕ × Line)) → IsPathOf g (page_of next.at) path
    → g.levels ≤ 6 → grouped ≤ begun_lines g → (x : ℕ) → next.at < layout.data_lines g
    → is_grouped g (page_of next.at) (begun_lines g) x ≡ false
    → Writes (layout.meta_line g x) (seal_group g next grouped path) → ⊥
seal_off_meta g next grouped path its few le x within un (inl same) = omega (arith, within, same)
seal_off_meta g next grouped path its few le x within un (inr (inl same)) = omega (arith, within, same)
seal_off_meta g next grouped path its few le x within un (inr (inr it)) =
    path_off_meta g (page_of next.at) grouped path its few x (grouped_below g (page_of next.at) grouped (begun_lines g) x le un) it

-- names are written to shadow lines alone
pub named_off_meta : (g : Shape) (cache : Banks) (page : ℕ) (mirror : List Line) (n : ℕ) (told : Option (List Line))
    → KeepsMetaLines g told (redone_told (naming_writes g cache page mirror n) told)
named_off_meta g cache page mirror n None x within = refl
named_off_meta g cache page mirror n (Some lines) x within = ap Some (meta_kept g cache page mirror lines n x within)
