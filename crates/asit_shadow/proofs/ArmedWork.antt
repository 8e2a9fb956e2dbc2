-- What a write that was armed did, exactly.
use Rattle.std.proofs.Common.{ℕ, ◌≡◌, ◌<◌, List, length, Some, None, sym, ap, subst, ◌∙◌, arith, rules}
use Rattle.asit_shadow.proofs.Common.{Option, slice_index_or, false≢true, get_or-set_same, Line, Regs, Shape, IsShape, Setup, RisesBy, redone_told, Node, LineSeal, tree_lines, tree_slots, WatchState, CachedNode, TreeEngineParts, IsWatchReady, tree_lines_redone, HasPathCached, KeepsOtherRegisters, absent_nodes, HasSlotsFetched, HasArmedPath, IsPathFetchedTo, IsWriteMade}
use Rattle.asit_shadow.specs.Paths.{write_group}
use Rattle.asit_shadow.proofs.RegisterLaws.{others-then}
use Rattle.asit_shadow.proofs.SlotPlaces.{path_slot-of}
use Rattle.asit_shadow.proofs.SetLaws.{cache_with-HasPathCached}
use Rattle.asit_shadow.proofs.PairSets.{IsPairing, pairs-are, lines-are, cache-is}

-- the path's slots are all set, so it doesn't matter what was fetched into them
cached-over : (g : Shape) (nodes after : List Node) (a n : ℕ) (old mid new : List (Option CachedNode)) → HasSlotsFetched g nodes a n old mid → HasPathCached g a after mid new → HasPathCached g a after old new
cached-over g nodes after a n old mid new fetched it = search (rules, false≢true, path_slot-of)

-- what is known of it
pub record IsArmedOver (setup : Setup) (a : ℕ) (plain : Line) (seal : LineSeal) (pairs : List (ℕ × Node)) (regs : Regs) (old mid new : TreeEngineParts) : Type 0 where
  pub shape : IsShape setup.shape
  pub inside : a < tree_lines setup.shape
  pub ready : IsWatchReady setup.shape old.watch
  pub slots : length mid.engine.cache ≡ tree_slots setup.shape
  pub path : IsPathFetchedTo setup a setup.shape.levels old mid
  pub made : IsWriteMade setup a plain seal pairs regs mid new

pairing : (setup : Setup) (a : ℕ) (plain : Line) (seal : LineSeal) (pairs : List (ℕ × Node)) (regs : Regs) (old mid new : TreeEngineParts) → IsArmedOver setup a plain seal pairs regs old mid new → IsPairing setup.shape a pairs new.watch.nodes
pairing setup a plain seal pairs regs old mid new it = search (rules, IsPairing, pairs-are)

pub armed-group : (setup : Setup) (a : ℕ) (plain : Line) (seal : LineSeal) (pairs : List (ℕ × Node)) (regs : Regs) (old mid new : TreeEngineParts) → IsArmedOver setup a plain seal pairs regs old mid new → regs.group.items ≡ write_group setup.shape a seal new.watch.nodes
armed-group setup a plain seal pairs regs old mid new it =
    it.made.group ∙ lines-are setup.shape a seal pairs new.watch.nodes (pairing setup a plain seal pairs regs old mid new it)

pub armed-path : (setup : Setup) (a latches : ℕ) (plain : Line) (seal : LineSeal) (pairs : List (ℕ × Node)) (regs : Regs) (old mid new : TreeEngineParts) → IsArmedOver setup a plain seal pairs regs old mid new → tree_lines_redone new ≡ redone_told regs.group.items mid.device.lines
    → KeepsOtherRegisters regs new.device.regs → RisesBy latches old.device.latches new.device.latches → new.device.reads ≡ mid.device.reads → HasArmedPath setup a latches seal old new
armed-path setup a latches plain seal pairs regs old mid new it lines others latched reads =
    let mine = pairing setup a plain seal pairs regs old mid new it in
    record {
      last =
          ap (λ (seals : List (Option LineSeal)). slice_index_or seals a None) it.made.told.seals
          ∙ get_or-set_same mid.watch.seals a (Some seal) None
          (omega (arith, it.inside, ap (λ (w : WatchState). length w.seals) it.path.watch, it.ready.seal_count));
      cache =
          cached-over setup.shape old.watch.nodes new.watch.nodes a setup.shape.levels old.engine.cache mid.engine.cache new.engine.cache it.path.done.cache
          (subst (HasPathCached setup.shape a new.watch.nodes mid.engine.cache) (sym (it.made.cache ∙ cache-is setup.shape a pairs new.watch.nodes mid.engine.cache mine))
          (cache_with-HasPathCached setup.shape a new.watch.nodes mid.engine.cache it.shape it.inside it.slots));
      lines =
          lines
          ∙ (ap (λ (group : List (ℕ × Line)). redone_told group mid.device.lines) (armed-group setup a plain seal pairs regs old mid new it)
          ∙ ap (redone_told (write_group setup.shape a seal new.watch.nodes)) it.path.done.lines);
      others =
          others-then old.device.regs regs new.device.regs (subst (λ (r : Regs). KeepsOtherRegisters r regs) it.path.done.regs it.made.others) others;
      latched = latched;
      reads =
          subst (RisesBy (absent_nodes setup.shape old.engine.cache a setup.shape.levels) old.device.reads) (sym reads) it.path.reads;
    }
