-- The groups of seals and begins are groups: their places are apart and on the device, and their lines are lines.
use Rattle.std.proofs.Common.{ℕ, ◌≡◌, ◌≢◌, ◌<◌, ◌≤◌, ◌+◌, ◌-◌, ◌++◌, List, [], ◌∷◌, length, take, drop, map, get_or, sym, ap, subst, ◌∙◌, arith}
use Rattle.std.specs.List.{All}
use Rattle.std.proofs.lemmas.List.{length-map, get_or-map, length-drop}
use Rattle.std.proofs.lemmas.List.Elements.{All-from_get_or, All-append, All-cons, All-nil}
use Rattle.pmem_base.specs.declared.lines.Line.{Line}
use Rattle.pmem_base.specs.Shape.{Shape}
use Rattle.pmem_base.specs.Layout.{data_lines, device_lines, meta_lines, tag_line, meta_line}
use Rattle.pmem_base.specs.Lines.{IsLine}
use Rattle.pmem_base.specs.Registers.{IsGroup}
use Rattle.pmem_base.proofs.ListLaws.{AllPairs-append}
use Rattle.bonsai_tree.specs.Positions.{level_of}
use Rattle.meta_path.specs.Storing.{IsPathOf}
use Rattle.meta_path.proofs.PathFacts.{path_at-lt}
use Rattle.meta_path.proofs.StoreLemmas.{length-path_lines, position_of}
use Rattle.plain_model.specs.Bounds.{path_length, begun_lines}
use Rattle.pmem_engine.specs.declared.resealing.NextSeal.{NextSeal}
use Rattle.pmem_engine.specs.Committing.{entries_of}
use Rattle.pmem_engine.specs.Sealing.{path_entries, seal_group, begin_group}
use Rattle.pmem_engine.proofs.Laws.PolicyBounds.{begun_some, begun_most, length-path_entries}
use Rattle.pmem_engine.proofs.Laws.PathEntries.{past, at_level, level_at, entries_on_path}

module _ (g : Shape) (page : ℕ) (path : List (ℕ × Line)) (few : g.levels ≤ 6) (its : IsPathOf g page path) (grouped : ℕ)
    (whole : All (λ (e : ℕ × Line). IsLine e.1) path) where
  abbrev entries : List (ℕ × Line)
  entries = drop (path_length g - grouped) path

  abbrev placed : ℕ × Line → ℕ × Line
  placed e = (meta_line g e.0, e.1)

  -- the entry at a place
  entry_at : (i : ℕ) (d : ℕ × Line) → i < length (path_entries g grouped path)
      → (i < length entries) × (get_or (path_entries g grouped path) i d ≡ placed (get_or entries i past))
  entry_at i d within =
      let inside : i < length entries = omega (arith, within, length-map entries placed) in
      (inside, get_or-map placed entries i past d inside)

  entry_form : (i : ℕ) (d : ℕ × Line) → i < length (path_entries g grouped path)
      → ((get_or (path_entries g grouped path) i d).0 < device_lines g) × (meta_line g 0 ≤ (get_or (path_entries g grouped path) i d).0)
      × IsLine (get_or (path_entries g grouped path) i d).1
  entry_form i d within =
      let at = entry_at i d within in
      let low = (entries_on_path g page path few its grouped i past at.0).0 in
      let line : IsLine (get_or entries i past).1 =
      subst (λ (e : ℕ × Line). IsLine e.1) (sym (at_level g page path few its grouped i at.0).2)
      (whole (path_length g - grouped + i) past
      (omega (arith, (at_level g page path few its grouped i at.0).0, length-path_lines g page path its))) in
      subst (λ (e : ℕ × Line). (e.0 < device_lines g) × (meta_line g 0 ≤ e.0) × IsLine e.1) (sym at.1)
      (omega (arith, low), omega arith, line)

  pub path_group : IsGroup (device_lines g) (path_entries g grouped path)
  path_group =
      record {
        distinct = λ i j d less within same.
            let one = entry_at i d (omega (arith, less, within)) in
            let two = entry_at j d within in
            let places : meta_line g (get_or entries i past).0 ≡ meta_line g (get_or entries j past).0 =
            ap (λ (e : ℕ × Line). e.0) (sym one.1) ∙ same ∙ ap (λ (e : ℕ × Line). e.0) two.1 in
            let here : (get_or entries i past).0 ≡ (get_or entries j past).0 = omega (arith, places) in
            let levels = sym (level_at g page path few its grouped i one.0) ∙ ap level_of here ∙ level_at g page path few its grouped j two.0 in
            omega (arith, less, levels);
        on_device = λ i d within. (entry_form i d within).0;
        lines_range = λ i d within. (entry_form i d within).2;
      }

  -- a seal's
  pub seal_form : (next : NextSeal) → next.at < data_lines g → IsGroup (device_lines g) (entries_of g next)
      → IsGroup (device_lines g) (seal_group g next grouped path)
  seal_form next inside first =
      record {
        distinct =
            AllPairs-append (λ a b. a.0 ≢ b.0) (entries_of g next) (path_entries g grouped path) first.distinct path_group.distinct
            (All-cons (λ (a : ℕ × Line). All (λ (b : ℕ × Line). a.0 ≢ b.0) (path_entries g grouped path)) (next.at, next.cipher)
            ((tag_line g next.at, next.tag_line) ∷ [])
            (λ i d within same. omega (arith, (entry_form i d within).1, same, inside))
            (All-cons (λ (a : ℕ × Line). All (λ (b : ℕ × Line). a.0 ≢ b.0) (path_entries g grouped path))
            (tag_line g next.at, next.tag_line) []
            (λ i d within same. omega (arith, (entry_form i d within).1, same, inside))
            (All-nil (λ (a : ℕ × Line). All (λ (b : ℕ × Line). a.0 ≢ b.0) (path_entries g grouped path)))));
        on_device =
            All-append (λ (e : ℕ × Line). e.0 < device_lines g) (entries_of g next) (path_entries g grouped path) first.on_device
            path_group.on_device;
        lines_range =
            All-append (λ (e : ℕ × Line). IsLine e.1) (entries_of g next) (path_entries g grouped path) first.lines_range
            path_group.lines_range;
      }

-- a begin's group has lines
pub begin_filled : (g : Shape) (path : List (ℕ × Line)) → length path ≡ path_length g → g.persist ≤ g.levels + 1
    → begin_group g path ≢ []
begin_filled g path long policy none =
    omega (
      arith,
      begun_some g,
      length-path_entries g (begun_lines g) path long (begun_most g policy),
      ap (λ (es : List (ℕ × Line)). length es) none,
    )

-- ---- a path put into a group

-- its lines are metadata lines
pub path_places : (g : Shape) (page : ℕ) (path : List (ℕ × Line)) → IsPathOf g page path
    → All (λ (e : ℕ × Line). e.0 < meta_lines g) path
path_places g page path its =
    All-from_get_or (λ (e : ℕ × Line). e.0 < meta_lines g) path past
    (λ i within.
    subst (λ x. x < meta_lines g) (sym (position_of g page path i past its within))
    (path_at-lt g page i its.its_page (omega (arith, within, length-path_lines g page path its))))

-- those put so far, from the first on
abbrev pub put_to : Shape → List (ℕ × Line) → ℕ → ℕ → List (ℕ × Line)
put_to g path first bank = map (λ (e : ℕ × Line). (meta_line g e.0, e.1)) (take (bank - first) (drop first path))
