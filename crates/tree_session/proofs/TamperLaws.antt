-- A device line is changed past the controller: what is still held of the other places.
use Rattle.std.proofs.Common.{ℕ, ◌≡◌, ◌≢◌, ◌<◌, ◌≤◌, ◌+◌, ◌-◌, true, false, Bool, inl, inr, List, length, Option, Some, None, refl, sym, ap, subst, ◌∙◌, arith, rules}
use Rattle.tree_session.proofs.Common.{slice_index_or, slice_set, All, nat_lt, if◌then◌else◌, cases_eq, cases_lt, lt-ltb, le-ltb, false≢true, length-set, get_or-set_same, get_or-set_other, Line, IsLine, line_at, Shape, Setup, BoardMemory, device_of, with_line_at, redone, tree_lines, tree_size, line_of_tag, line_of_node, TreeState, hurt_with, poked-elsewhere, TreeParts, plain_of_parts, rest_in, AreTreePlacesKept, IsTreeBy, IsTreeWorld}
use Rattle.tree_session.proofs.Worlds.{opened, open_in, on_in, off_in, usable_on, usable_off}

-- ---- flags

unflagged : (flags : List Bool) (d q : ℕ) → d < length flags → slice_index_or (slice_set flags d true) q false ≡ false
    → (q ≢ d) × (slice_index_or flags q false ≡ false)
unflagged flags d q inside is = search (rules, cases_eq, false≢true, get_or-set_same, get_or-set_other)

hurt-low : (g : Shape) (hurt : List Bool) (d : ℕ) → d < tree_lines g → hurt_with g hurt d ≡ slice_set hurt d true
hurt-low g hurt d low =
    ap (λ (b : Bool). if b then slice_set hurt d true else if nat_lt d (tree_lines g + tree_lines g) then slice_set hurt (d - tree_lines g) true else hurt) (lt-ltb d (tree_lines g) low)

hurt-tag : (g : Shape) (hurt : List Bool) (d : ℕ) → tree_lines g ≤ d → d < tree_lines g + tree_lines g → hurt_with g hurt d ≡ slice_set hurt (d - tree_lines g) true
hurt-tag g hurt d high low =
    ap (λ (b : Bool). if b then slice_set hurt d true else if nat_lt d (tree_lines g + tree_lines g) then slice_set hurt (d - tree_lines g) true else hurt) (le-ltb d (tree_lines g) high)
    ∙ ap (λ (b : Bool). if b then slice_set hurt (d - tree_lines g) true else hurt) (lt-ltb d (tree_lines g + tree_lines g) low)

hurt-past : (g : Shape) (hurt : List Bool) (d : ℕ) → tree_lines g + tree_lines g ≤ d → hurt_with g hurt d ≡ hurt
hurt-past g hurt d high = search (rules, le-ltb)

pub length-hurt_with : (g : Shape) (hurt : List Bool) (d : ℕ) → length (hurt_with g hurt d) ≡ length hurt
length-hurt_with g hurt d = search (rules, cases_lt, hurt-low, length-set, hurt-tag, hurt-past)

-- a line that isn't hurt afterwards wasn't before, and neither its cipher nor its tag was changed
unhurt : (g : Shape) (hurt : List Bool) (d a : ℕ) → length hurt ≡ tree_lines g → a < tree_lines g → slice_index_or (hurt_with g hurt d) a false ≡ false
    → (a ≢ d) × (line_of_tag g a ≢ d) × (slice_index_or hurt a false ≡ false)
unhurt g hurt d a count inside is = search (rules, cases_lt, unflagged, hurt-low, hurt-tag, hurt-past)

-- ---- what is held

module _ (setup : Setup) (p : TreeParts) (board : BoardMemory) (world : IsTreeWorld setup p) (none : p.watch.exhibit ≡ None) (d : ℕ) (line : Line)
    (inside : d < tree_size setup.shape) (is : board ≡ with_line_at p.board d line) (each : All IsLine board.lines) where
  abbrev pub changed : TreeParts
  changed =
      record p {
        board = with_line_at p.board d line;
        tampered = slice_set p.tampered d true;
        hurt = hurt_with setup.shape p.hurt d;
      }

  elsewhere : (q : ℕ) → q ≢ d → line_at (redone p.board.regs.group.items (slice_set p.board.lines d line)) q ≡ line_at (redone p.board.regs.group.items p.board.lines) q
  elsewhere q other = poked-elsewhere p.board.regs.group.items p.board.lines d q line other

  flag : (q : ℕ) → slice_index_or (slice_set p.tampered d true) q false ≡ false → (q ≢ d) × (slice_index_or p.tampered q false ≡ false)
  flag q unchanged = unflagged p.tampered d q (omega (arith, inside, world.tampered_count)) unchanged

  places_changed : AreTreePlacesKept setup (plain_of_parts setup changed) (rest_in changed)
  places_changed = search (rules, open_in, unhurt, elsewhere, flag)

  size_changed : length (slice_set p.board.lines d line) ≡ tree_size setup.shape
  size_changed = length-set p.board.lines d line ∙ world.whole_lines.count

  chip_changed : (found : Option TreeState) → p.engine ≡ found → IsTreeBy setup changed found
  chip_changed None there =
      let off = off_in setup p (open_in setup p world none) there in
      record {
        unpowered = off.unpowered;
        usable = usable_off setup (device_of (with_line_at p.board d line)) p.watch size_changed off.anchored;
        small_group = off.small_group;
        anchored = off.anchored;
        nodes =
            λ x unchanged.
            let it = flag (line_of_node setup.shape x) unchanged.1 in
            elim (off.nodes x (unchanged.0, it.1)) [
              | inl stored ↦ inl (elsewhere (line_of_node setup.shape x) it.0 ∙ stored)
              | inr named ↦ inr named
            ];
      }
  chip_changed (Some engine) there =
      let on = on_in setup p engine (open_in setup p world none) there in
      record {
        powered = on.powered;
        its_shape = on.its_shape;
        usable = usable_on setup engine (device_of (with_line_at p.board d line)) p.watch size_changed on.trusted;
        trusted = on.trusted;
        nodes =
            λ x unchanged.
            let it = flag (line_of_node setup.shape x) unchanged.1 in
            elim (on.nodes x (unchanged.0, it.1)) [
              | inl stored ↦ inl (elsewhere (line_of_node setup.shape x) it.0 ∙ stored)
              | inr dirty ↦ inr dirty
            ];
      }

  pub changed_held : IsTreeWorld setup (record p { board = board; tampered = slice_set p.tampered d true; hurt = hurt_with setup.shape p.hurt d })
  changed_held =
      subst (λ (b : BoardMemory). IsTreeWorld setup (record p { board = b; tampered = slice_set p.tampered d true; hurt = hurt_with setup.shape p.hurt d })) (sym is)
      (opened setup changed
      (record {
        shape = world.whole_shape;
        formulas = world.whole_formulas;
        watch = world.its_watch;
        lines = record { count = size_changed; each = subst (λ (b : BoardMemory). All IsLine b.lines) is each };
        tampered = length-set p.tampered d true ∙ world.tampered_count;
        hurt = length-hurt_with setup.shape p.hurt d ∙ world.hurt_count;
      })
      none
      (record { chip = chip_changed p.engine refl; places = places_changed }))
