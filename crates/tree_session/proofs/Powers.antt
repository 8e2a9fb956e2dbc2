-- A fuse is set, a snapshot is taken, or power goes off: what is held of the device stays.
use Rattle.std.proofs.Common.{ℕ, ◌≡◌, false, List, length, Option, Some, None, refl, ap, arith, rules}
use Rattle.tree_session.proofs.Common.{Line, Setup, device_of, redone, TreeState, powered_off-place, TreeParts, IsTreeBy, IsTreeWorld}
use Rattle.tree_session.proofs.Worlds.{opened, open_in, on_in, off_in, usable_on, usable_off}

module _ (setup : Setup) (p : TreeParts) (world : IsTreeWorld setup p) (none : p.watch.exhibit ≡ None) where
  -- with another fuse and snapshot
  module _ (fuse : Option ℕ) (snapshot : Option (List Line)) where
    abbrev other : TreeParts
    other = record p { board = record p.board { fuse = fuse; snapshot = snapshot } }

    chip_other : (found : Option TreeState) → p.engine ≡ found → IsTreeBy setup other found
    chip_other None there = search (rules, off_in, open_in, usable_off)
    chip_other (Some engine) there = search (rules, on_in, open_in, usable_on)

    pub other_held : IsTreeWorld setup (record p { board = record p.board { fuse = fuse; snapshot = snapshot } })
    other_held = search (rules, open_in, opened, chip_other)

  -- power goes off
  module _ (engine : TreeState) (there : p.engine ≡ Some engine) where
    abbrev dark : TreeParts
    dark = record p { board = record p.board { powered = false; fuse = None }; engine = None }

    pub dark_held : IsTreeWorld setup (record p { board = record p.board { powered = false; fuse = None }; engine = None })
    dark_held =
        let opened_in = open_in setup p world none in
        let on = on_in setup p engine (open_in setup p world none) there in
        let empty = on.trusted.no_group in
        opened setup dark
        (record {
          shape = world.whole_shape;
          formulas = world.whole_formulas;
          watch = world.its_watch;
          lines = world.whole_lines;
          tampered = world.tampered_count;
          hurt = world.hurt_count;
        })
        none
        (record {
          chip =
              record {
                unpowered = refl;
                usable = usable_off setup (device_of (record p.board { powered = false; fuse = None })) p.watch world.whole_lines.count on.trusted.anchored;
                small_group = omega (arith, ap length empty);
                anchored = on.trusted.anchored;
                nodes =
                    λ x unchanged.
                    powered_off-place setup engine (redone p.board.regs.group.items p.board.lines) p.board.regs p.watch x on.trusted (on.nodes x unchanged);
              };
          places =
              record {
                seals = λ a inside clear. opened_in.places.seals a inside clear;
                slots = λ i inside clear. opened_in.places.slots i inside clear;
              };
        })
