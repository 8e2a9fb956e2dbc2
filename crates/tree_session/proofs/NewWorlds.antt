-- A formatted device begins a session.
use Rattle.std.proofs.Common.{ℕ, zero, suc, ◌≡◌, ◌<◌, true, false, List, ◌∷◌, length, Some, None, refl, sym, ap, subst, ◌∙◌, arith, zero-add, lit<}
use Rattle.tree_session.proofs.Common.{All, is_none, is_some, map, replicate, slice_set, range_with_len, ext_get_or, length-replicate, map-set, length-map-range_with_len, get_or-map-range_with_len, and_parts, not-true, IsLine, zero_line, IsShape, meta_lines, AreInRange, Setup, BoardMemory, device_of, new_memory, new_watch, tree_lines, tree_slots, tree_size, Node, zero_node, IsNode, counter, version_counter, slot_line, node_at, line_counter, line_position, tree-IsNode, redone, cipher_of-back, WatchState, TreeState, HasTreeFormatted, IsTreeSound, AreTreeTrusted, tree_parts_of, IsNodeHeldBy, tree_plain_of, tree_plain_line, rest_of, replicate-default, lines-equal, IsNewTree, TreeParts, named_by, state_of, IsTreeWorld, none_is}
use Rattle.bonsai_tree.specs.Positions.{parent, child_slot}
use Rattle.pmem_base.proofs.LineLemmas.{IsLine-zero_line}
use Rattle.asit_shadow.proofs.FormatPlans.{first_engine-is}
use Rattle.tree_session.proofs.PlainStates.{named-zero, named-line, top_inside}
use Rattle.tree_session.proofs.Worlds.{opened, usable_on}

map-replicate : {X Y : Type 0} (f : X → Y) (n : ℕ) (x : X) → map f (replicate n x) ≡ replicate n (f x)
map-replicate f zero x = refl
map-replicate f (suc n) x = ap (λ ys. f x ∷ ys) (map-replicate f n x)

module _ (setup : Setup) (keys : List ℕ) (pads tags digests : ℕ) (engine : TreeState) (board : BoardMemory) (watch : WatchState) (shape : IsShape setup.shape) (in_range : AreInRange setup.formulas)
    (it : HasTreeFormatted setup (rest_of (device_of (new_memory (tree_size setup.shape))) (new_watch setup)) (rest_of (device_of board) watch) engine)
    (each : All IsLine board.lines) (snapshot : board.snapshot ≡ None) where
  abbrev pub parts : TreeParts
  parts =
      record {
        keys = keys;
        pads = pads;
        tags = tags;
        digests = digests;
        board = board;
        watch = watch;
        engine = Some engine;
        tampered = replicate (tree_size setup.shape) false;
        hurt = replicate (tree_lines setup.shape) false;
      }

  trusted : AreTreeTrusted setup (tree_parts_of engine (device_of board) watch)
  trusted = it.trusted refl refl

  sound : IsTreeSound setup engine board.lines board.regs watch
  sound = it.sound refl refl

  lit : (board.powered ≡ true) × (is_none board.fuse ≡ true)
  lit = and_parts board.powered (is_none board.fuse) it.device.steady

  size : length board.lines ≡ tree_size setup.shape
  size = it.device.size ∙ length-replicate (tree_size setup.shape) zero_line

  pub new_held : IsTreeWorld setup parts
  new_held =
      opened setup parts
      (record {
        shape = shape;
        formulas = in_range;
        watch = trusted.anchored.of_setup;
        lines = record { count = size; each = each };
        tampered = length-replicate (tree_size setup.shape) false;
        hurt = length-replicate (tree_lines setup.shape) false;
      })
      (none_is watch.exhibit trusted.anchored.no_exhibit)
      (record {
        chip =
            record {
              powered = lit.0;
              its_shape = trusted.its_shape;
              usable = usable_on setup engine (device_of board) watch size trusted;
              trusted = trusted;
              nodes =
                  λ x unchanged.
                  subst (λ g. IsNodeHeldBy setup engine (redone g board.lines) watch x) (sym trusted.no_group) (sound.true_or_dirty x unchanged.0);
            };
        places =
            record {
              seals = λ a inside clear. sound.durable.mendable.seals_stored a inside;
              slots = λ i inside clear. sound.durable.mendable.slots_stored i inside;
            };
      })

  -- memory is zeros, no write was made, and the top alone is named
  memory_is : map (tree_plain_line setup.formulas watch) (range_with_len 0 (tree_lines setup.shape)) ≡ replicate (tree_lines setup.shape) zero_line
  memory_is =
      let count = length-map-range_with_len (tree_plain_line setup.formulas watch) 0 (tree_lines setup.shape) in
      lines-equal (map (tree_plain_line setup.formulas watch) (range_with_len 0 (tree_lines setup.shape))) (replicate (tree_lines setup.shape) zero_line)
      (count ∙ sym (length-replicate (tree_lines setup.shape) zero_line))
      (λ a low.
      let inside : a < tree_lines setup.shape = omega (arith, low, count) in
      get_or-map-range_with_len (tree_plain_line setup.formulas watch) 0 (tree_lines setup.shape) a a zero_line inside (zero-add a)
      ∙ (ap (tree_plain_of setup.formulas a) (it.device.told.seals a inside)
      ∙ (cipher_of-back setup.formulas a (version_counter 0) zero_line in_range (record { major = lit< tt; minor = omega arith }) IsLine-zero_line
      ∙ sym (replicate-default (tree_lines setup.shape) a zero_line))))

  counts_are : map (line_counter setup.shape watch.nodes) (range_with_len 0 (tree_lines setup.shape)) ≡ replicate (tree_lines setup.shape) 0
  counts_are =
      let count = length-map-range_with_len (line_counter setup.shape watch.nodes) 0 (tree_lines setup.shape) in
      ext_get_or 0 (map (line_counter setup.shape watch.nodes) (range_with_len 0 (tree_lines setup.shape))) (replicate (tree_lines setup.shape) 0)
      (count ∙ sym (length-replicate (tree_lines setup.shape) 0))
      (λ a low.
      let inside : a < tree_lines setup.shape = omega (arith, low, count) in
      get_or-map-range_with_len (line_counter setup.shape watch.nodes) 0 (tree_lines setup.shape) a a 0 inside (zero-add a)
      ∙ (zero_count a ∙ sym (replicate-default (tree_lines setup.shape) a 0)))
    where
      zero_count : (a : ℕ) → line_counter setup.shape watch.nodes a ≡ 0
      zero_count a =
          let y = line_position setup.shape a in
          ap (λ (n : Node). counter n (child_slot (line_position setup.shape a)))
          (ap (λ (ns : List Node). node_at ns (parent (line_position setup.shape a))) it.device.told.nodes
          ∙ replicate-default (meta_lines setup.shape) (parent (line_position setup.shape a)) zero_node)
          ∙ replicate-default 4 (child_slot (line_position setup.shape a)) 0

  named_are : map named_by watch.slots ≡ slice_set (replicate (tree_slots setup.shape) None) 0 (Some 0)
  named_are =
      ap (map named_by) it.device.told.slots
      ∙ (map-set named_by (replicate (tree_slots setup.shape) zero_line) 0 (slot_line 0 zero_node)
      ∙ (ap (λ ns. slice_set ns 0 (named_by (slot_line 0 zero_node))) (map-replicate named_by (tree_slots setup.shape) zero_line ∙ ap (replicate (tree_slots setup.shape)) named-zero)
      ∙ ap (slice_set (replicate (tree_slots setup.shape) None) 0) (named-line setup.shape 0 zero_node shape (top_inside setup watch board.regs shape trusted.anchored) whole_zero)))
    where
      whole_zero : IsNode zero_node
      whole_zero =
          subst IsNode (ap (λ (ns : List Node). node_at ns 0) it.device.told.nodes ∙ replicate-default (meta_lines setup.shape) 0 zero_node)
          (tree-IsNode setup.shape watch.nodes 0 trusted.anchored.tree (top_inside setup watch board.regs shape trusted.anchored))

  pub new_is : IsNewTree setup (state_of setup parts)
  new_is =
      record {
        shape = refl;
        memory = memory_is;
        counts = counts_are;
        named = named_are;
        tampered = refl;
        hurt = refl;
        size = size;
        lines = it.device.lines;
        regs = it.device.regs;
        power = lit.0;
        fuse = none_is board.fuse (not-true (is_some board.fuse) lit.1);
        snapshot = snapshot;
        reads = it.device.reads;
        writes = it.device.writes;
        latches = it.device.latches;
        cuts = it.device.cuts;
        engine = ap Some (first_engine-is setup (rest_of (device_of (new_memory (tree_size setup.shape))) (new_watch setup)) (rest_of (device_of board) watch) engine it);
        seal_count = trusted.anchored.of_setup.seal_count;
        seals = it.device.told.seals;
        nodes = it.device.told.nodes;
        slots = it.device.told.slots;
        shown = none_is watch.exhibit trusted.anchored.no_exhibit;
      }
