-- A read, a flush and another stop-loss number write metadata lines alone, wherever they end: step by step along their plans.
use Rattle.std.proofs.Common.{ℕ, ◌≡◌, ◌<◌, ◌≤◌, ◌+◌, ◌∷◌, ◌⊎◌, [], false, List, Option, Some, None, Result, Ok, Err, inl, inr, refl, sym, ap, subst, ◌∙◌, arith}
use Rattle.std.specs.Prelude.{All, IfSome, nat_lt, ◌==◌, if◌then◌else◌}
use Rattle.std.proofs.lemmas.Bool.{cond-true, cond-false}
use Rattle.std.proofs.lemmas.List.Elements.{All-head, All-tail}
use Rattle.pmem_base.specs.declared.faults.Cut.{Cut}
use Rattle.pmem_base.specs.declared.lines.Line.{Line}
use Rattle.pmem_base.specs.declared.registers.Regs.{Regs}
use Rattle.pmem_base.specs.Counts.{risen}
use Rattle.pmem_base.specs.Layout as layout
use Rattle.pmem_base.specs.Layout.{page_of}
use Rattle.pmem_base.specs.Lines.{line_at, same_bytes}
use Rattle.pmem_base.specs.declared.answers.Exhibit.TheVariants.{Clash}
use Rattle.seal_ledger.specs.Notes.{shown}
use Rattle.pmem_base.specs.Shape.{Shape}
use Rattle.board.specs.Device.{Device}
use Rattle.board.specs.Steps.{HasWritten}
use Rattle.call_plan.specs.Plans.{Plan, done, stop, latch, bind, lifted, for_each, the_cut}
use Rattle.call_plan.specs.Bounds.{Leaves, AtEnd}
use Rattle.call_plan.proofs.Keeping.{line_told-set}
use Rattle.call_plan.proofs.Leaves.{leaves, leaves_bind, leaves_mapped, leaves_more, leaves_if}
use Rattle.pmem_engine.proofs.PlannedCalls.StateEnds.{Ends, ends_if, ends_bind, ends_repeated, ends_mapped, holds_at, unseal_ends}
use Rattle.pmem_engine.proofs.PlannedCalls.TreeBlocks.{each_of, On, AreOn, Tree, tree_with, on_touched, on_placed, on_marked, dirty_victim, on_order, on_oldest_block}
use Rattle.suite.specs.Formulas.{Formulas}
use Rattle.suite.specs.Setup.{Setup}
use Rattle.meta_cache.specs.declared.slot.Slot.{Slot}
use Rattle.meta_cache.specs.Banks.{Banks, set_index, is_cached}
use Rattle.meta_cache.specs.Sets.{touched, placed, with_mark}
use Rattle.meta_cache.specs.State.{CacheState, bank_of, slots_of, with_slots, oldest_dirty}
use Rattle.meta_path.specs.Blocks.{path_at, line_in, AreInTheirBanks}
use Rattle.meta_path.specs.Levels.{expected_digest}
use Rattle.meta_path.proofs.PathFacts.{path_at-lt}
use Rattle.meta_path.specs.declared.faults.PathFault.TheVariants as Path
use Rattle.meta_path.specs.Work.{told_line}
use Rattle.meta_path.specs.FetchPlans.{FetchParts, fetch_parts, known_plan, check_plan, place_plan, level_plan, fetch_turn, fetch_plan, touched_in}
use Rattle.meta_path.specs.Plans.{write_back_plan, room_of, room_plan, found_plan, oldest_plan}
use Rattle.pmem_engine.specs.declared.fault.Fault.{Fault}
use Rattle.pmem_engine.specs.Engine.{ChipState}
use Rattle.pmem_engine.specs.Flushed.{cache_of, with_loss}
use Rattle.pmem_engine.specs.Plans.{Chip, with_cache, fetch_parts_of, fetch_path_plan, its_counter, unseal_plan, read_plan, oldest_block_plan, block_plan, dirty_counter_blocks, counter_block_turn, counter_blocks_plan, make_way_plan, latch_loss_plan, set_loss_plan}
use Rattle.pmem_engine.specs.KeptLaws.{left_at, KeepsOtherLines, KeepsMirror, WritesMetadataAlone, SetsNumberAlone, ReadsWriteMetadataAlone, FlushesWriteMetadataAlone, LossesWriteMetadataAlone}

-- ---- devices along the way

module _ (g : Shape) (start : Device) where
  -- so far
  record AreKept (now : Device) : Type 0 where
    lines : KeepsOtherLines g start now
    regs : now.regs ≡ start.regs
    latches : now.latches ≡ start.latches

  still_kept : (now new : Device) → new.lines ≡ now.lines → new.regs ≡ now.regs → new.latches ≡ now.latches → AreKept now → AreKept new
  still_kept now new lines regs latches so =
      record {
        lines = λ x apart. ap (λ told. told_line told x) lines ∙ so.lines x apart;
        regs = regs ∙ so.regs;
        latches = latches ∙ so.latches;
      }

  write_kept : (x : ℕ) (line : Line) (now new : Device) → x < layout.meta_lines g → HasWritten now (layout.meta_line g x) line new → AreKept now
      → AreKept new
  write_kept x line now new on was so =
      record {
        lines = λ at apart. ap (λ told. told_line told at) was.lines
            ∙ line_told-set now.lines (layout.meta_line g x) at line (λ same. elsewhere at apart same) ∙ so.lines at apart;
        regs = was.regs ∙ so.regs;
        latches = was.latches ∙ so.latches;
      }
    where
      elsewhere : (at : ℕ) → (at < layout.meta_line g 0) ⊎ (layout.shadow_line g 0 ≤ at) → at ≡ layout.meta_line g x → ⊥
      elsewhere at (inl below) same = absurd (omega (arith, below, same))
      elsewhere at (inr above) same = absurd (omega (arith, above, same, on))

  -- a cache of this geometry, whose blocks are the tree's
  record CacheSo (cache : CacheState) (now : Device) : Type 0 where
    shape : cache.shape ≡ g
    tree : Tree (layout.meta_lines g) cache.banks
    kept : AreKept now

  -- after a read, and at a cut
  cache_then : (cache : CacheState) (now new : Device) → new.lines ≡ now.lines → new.regs ≡ now.regs → new.latches ≡ now.latches → CacheSo cache now
      → CacheSo cache new
  cache_then cache now new lines regs latches so =
      record { shape = so.shape; tree = so.tree; kept = still_kept now new lines regs latches so.kept }

  cache_with : (cache : CacheState) (bank set : ℕ) (slots : List Slot) (now : Device) → CacheSo cache now → All (On (layout.meta_lines g)) slots
      → CacheSo (with_slots cache bank set slots) now
  cache_with cache bank set slots now so on =
      record { shape = so.shape; tree = tree_with (layout.meta_lines g) cache bank set slots so.tree on; kept = so.kept }

  -- ---- what works on the cache

  back_so : (cache : CacheState) (bank x : ℕ) (now : Device) → x < layout.meta_lines g → CacheSo cache now → Ends CacheSo (write_back_plan cache bank x) now
  unfolding Leaves write_back_plan
  back_so cache bank x now on so = (
    λ new was. cache_then cache now new was.lines was.regs was.latches so,
    λ new was. cache_with cache bank (set_index cache.shape x) (with_mark (slots_of cache bank x) x false) new
        (record {
          shape = so.shape;
          tree = so.tree;
          kept = write_kept x (line_in cache.shape cache.banks bank x) now new on
              (subst (λ (s : Shape). HasWritten now (layout.meta_line s x) (line_in cache.shape cache.banks bank x) new) so.shape was) so.kept;
        })
        (on_marked (layout.meta_lines g) (slots_of cache bank x) x false (so.tree bank (set_index cache.shape x))),
  )

  room_so : (cache : CacheState) (bank : ℕ) (found : Option ℕ) (now : Device) → IfSome found (λ x. x < layout.meta_lines g) → CacheSo cache now
      → Ends CacheSo (room_of cache bank found) now
  unfolding room_of Leaves
  room_so cache bank None now on so = so
  room_so cache bank (Some x) now on so = back_so cache bank x now on so

  oldest_so : (cache : CacheState) (found : Option (ℕ × ℕ)) (now : Device) → IfSome found (λ block. block.1 < layout.meta_lines g) → CacheSo cache now
      → Ends CacheSo (found_plan cache found) now
  unfolding found_plan Leaves
  oldest_so cache None now on so = so
  oldest_so cache (Some block) now on so =
      ends_bind CacheSo (write_back_plan cache block.0 block.1) (λ end. done (end.0, Some block.1)) now (back_so cache block.0 block.1 now on so) (λ end d its. its)

  -- ---- a path fetched

  abbrev FetchSo : FetchParts → Device → Type 0
  FetchSo at now = CacheSo at.cache now

  known_so : (x : ℕ) (line : Line) (at : FetchParts) (now : Device) → CacheSo at.cache now → Ends FetchSo (known_plan x line at) now
  unfolding Leaves
  known_so x line at now so =
      ends_if FetchSo (same_bytes line.0 (line_at at.ledger.truth x).0) (done (at, line))
      (stop (fetch_parts at.cache (shown at.ledger (Clash x line (line_at at.ledger.truth x))) at.digests, Path.Shown)) now so so

  check_so : (f : Formulas) (root : List ℕ) (bank x : ℕ) (at : FetchParts) (now : Device) → CacheSo at.cache now
      → Ends FetchSo (check_plan f root bank x at) now
  unfolding Leaves check_plan
  check_so f root bank x at now so = (
    λ new was off. cache_then at.cache now new was.lines was.regs was.latches so,
    λ line new was whole.
        let after : CacheSo at.cache new = cache_then at.cache now new was.lines was.regs was.latches so in
        ends_if FetchSo (same_bytes (f.digest_of x line) (expected_digest at.cache.shape root at.cache.banks bank x))
        (known_plan x line (fetch_parts at.cache at.ledger (risen at.digests))) (stop (fetch_parts at.cache at.ledger (risen at.digests), Path.Meta x)) new
        (known_so x line (fetch_parts at.cache at.ledger (risen at.digests)) new after) after,
  )

  place_so : (bank x : ℕ) (at : FetchParts × Line) (now : Device) → x < layout.meta_lines g → CacheSo at.0.cache now
      → Ends FetchSo (place_plan bank x at) now
  unfolding place_plan
  place_so bank x at now on so =
      ends_mapped CacheSo FetchSo _ _ (room_plan at.0.cache bank x) now
      (λ end d it. cache_with end.0 bank (set_index end.0.shape x) (placed end.0.shape.ways (slots_of end.0 bank x) x at.1) d it
      (on_placed (layout.meta_lines g) end.0.shape.ways (slots_of end.0 bank x) x at.1 on (it.tree bank (set_index end.0.shape x))))
      (λ left d it. it)
      (room_so at.0.cache bank _ now
      (dirty_victim (layout.meta_lines g) (slots_of at.0.cache bank x) at.0.cache.shape.ways (so.tree bank (set_index at.0.cache.shape x))) so)

  level_so : (f : Formulas) (root : List ℕ) (bank x : ℕ) (at : FetchParts) (now : Device) → x < layout.meta_lines g → CacheSo at.cache now
      → Ends FetchSo (level_plan f root bank x at) now
  unfolding level_plan Leaves
  level_so f root bank x at now on so =
      ends_if FetchSo (is_cached at.cache.shape at.cache.banks bank x) (done (fetch_parts (touched_in at.cache bank x) at.ledger at.digests, tt))
      (bind (check_plan f root bank x at) (place_plan bank x)) now
      (cache_with at.cache bank (set_index at.cache.shape x) (touched (slots_of at.cache bank x) x) now so
      (on_touched (layout.meta_lines g) (slots_of at.cache bank x) x (so.tree bank (set_index at.cache.shape x))))
      (ends_bind FetchSo (check_plan f root bank x at) (place_plan bank x) now (check_so f root bank x at now so) (λ end d it. place_so bank x end d on it))

  fetch_so : (f : Formulas) (root : List ℕ) (page : ℕ) (at : FetchParts) (now : Device) → page < layout.pages g → CacheSo at.cache now
      → Ends FetchSo (fetch_plan f root page at) now
  fetch_so f root page at now inside so =
      ends_repeated FetchSo (fetch_turn f root at.cache.shape page) (at.cache.shape.levels + 1) (at, tt) now so
      (λ i before d below it. level_so f root i (path_at at.cache.shape page i) before.0 d
      (subst (λ (s : Shape). i < s.levels + 1 → path_at s page i < layout.meta_lines g) (sym so.shape) (λ least. path_at-lt g page i inside (omega (arith, least))) below) it)

-- ---- the engine

module _ (first : ChipState) (start : Device) where
  record EngineSo (engine : ChipState) (now : Device) : Type 0 where
    mirror : engine.mirror ≡ first.mirror
    shape : engine.shape ≡ first.shape
    cache : CacheSo first.shape start (cache_of engine) now

  in_cache : (engine : ChipState) (cache : CacheState) (now before : Device) → EngineSo engine before → CacheSo first.shape start cache now
      → EngineSo (with_cache engine cache) now
  in_cache engine cache now before so it =
      record { mirror = so.mirror; shape = so.shape; cache = record { shape = so.cache.shape; tree = it.tree; kept = it.kept } }

  begins : Tree (layout.meta_lines first.shape) first.cache → EngineSo first start
  begins on =
      record {
        mirror = refl;
        shape = refl;
        cache = record { shape = refl; tree = on; kept = record { lines = λ at apart. refl; regs = refl; latches = refl } };
      }

  engine_then : (engine : ChipState) (now new : Device) → new.lines ≡ now.lines → new.regs ≡ now.regs → new.latches ≡ now.latches → EngineSo engine now
      → EngineSo engine new
  engine_then engine now new lines regs latches so =
      record { mirror = so.mirror; shape = so.shape; cache = cache_then first.shape start (cache_of engine) now new lines regs latches so.cache }

  -- a part over the cache
  cache_part : {A : Type 0} (engine : ChipState) (plan : Plan (CacheState × Cut) (CacheState × A)) (now : Device) → EngineSo engine now
      → Ends (CacheSo first.shape start) plan now → Ends EngineSo (lifted (with_cache engine) (λ (cut : Cut). cut) plan) now
  cache_part engine plan now so it =
      ends_mapped (CacheSo first.shape start) EngineSo _ _ plan now (λ end d its. in_cache engine end.0 d now so its)
      (λ left d its. in_cache engine left.0 d now so its) it

  -- ---- the dirty counter blocks, one after another

  abbrev Below : List ℕ → Type 0
  Below xs = All (λ x. x < layout.meta_lines first.shape) xs

  block_so : (x : ℕ) (engine : ChipState) (now : Device) → x < layout.meta_lines first.shape → EngineSo engine now
      → Ends EngineSo (block_plan engine.shape.levels x engine) now
  unfolding block_plan
  block_so x engine now on so =
      cache_part engine (write_back_plan (cache_of engine) engine.shape.levels x) now so
      (back_so first.shape start (cache_of engine) engine.shape.levels x now on so.cache)

  blocks_so : (xs : List ℕ) (engine : ChipState) (now : Device) → Below xs → EngineSo engine now
      → Ends EngineSo (for_each counter_block_turn xs (engine, tt)) now
  unfolding for_each Leaves
  blocks_so [] engine now on so = so
  blocks_so (x ∷ xs) engine now on so =
      ends_bind EngineSo (block_plan engine.shape.levels x engine) (λ t. for_each counter_block_turn xs t) now
      (block_so x engine now (All-head (λ x. x < layout.meta_lines first.shape) x xs on) so)
      (λ t d its. blocks_so xs t.0 d (All-tail (λ x. x < layout.meta_lines first.shape) x xs on) its)

  -- what an end tells
  alone : (engine : ChipState) (now : Device) → EngineSo engine now → WritesMetadataAlone start now first engine
  alone engine now so =
      record {
        lines = so.cache.kept.lines;
        engine = record { mirror = so.mirror; shape = so.shape };
        regs = so.cache.kept.regs;
        latches = so.cache.kept.latches;
      }

on_tree : (g : Shape) (banks : Banks) → AreInTheirBanks g banks → Tree (layout.meta_lines g) banks
on_tree g banks its = λ bank set k d below. (its.each bank set k d below).on_tree

-- ---- a read

module _ (setup : Setup) (start : Device) (first : Chip) where
  abbrev ChipSo : Chip → Device → Type 0
  ChipSo chip now = EngineSo first.engine start chip.engine now

  path_so : (root : List ℕ) (page : ℕ) (now : Device) → page < layout.pages first.engine.shape → ChipSo first now
      → Ends ChipSo (fetch_path_plan setup root page first) now
  unfolding fetch_path_plan
  path_so root page now inside so =
      ends_mapped (FetchSo first.engine.shape start) ChipSo _ _ _ now (λ end d its. in_cache first.engine start first.engine end.0.cache d now so its)
      (λ left d its. in_cache first.engine start first.engine left.0.cache d now so its)
      (fetch_so first.engine.shape start setup.formulas root page (fetch_parts_of first) now inside so.cache)

  read_so : (regs : Regs) (at : ℕ) → page_of at < layout.pages first.engine.shape → ChipSo first start → Ends ChipSo (read_plan setup regs at first) start
  unfolding read_plan
  read_so regs at inside so =
      ends_bind ChipSo _ _ start
      (ends_mapped ChipSo ChipSo _ _ (fetch_path_plan setup regs.root (page_of at) first) start (λ end d its. its) (λ left d its. its)
      (path_so regs.root (page_of at) start inside so))
      (λ fetched d its. ends_mapped ChipSo ChipSo _ _ (unseal_plan setup at (its_counter setup regs at fetched.0) fetched.0) d (λ end d its. its)
      (λ left d its. its) (unseal_ends setup (EngineSo first.engine start) (engine_then first.engine start) at (its_counter setup regs at fetched.0) fetched.0 d its))

pub read_alone : ReadsWriteMetadataAlone
read_alone setup regs a chip old new end its inside it =
    let so : EngineSo chip.engine old chip.engine old = begins chip.engine old (on_tree chip.engine.shape chip.engine.cache its) in
    alone chip.engine old (left_at end).engine new
    (holds_at (ChipSo setup old chip) end (read_so setup old chip regs a inside so) it)

-- ---- a flush

oldest_block_so : (engine : ChipState) (old : Device) → Tree (layout.meta_lines engine.shape) engine.cache
    → Ends (EngineSo engine old) (oldest_block_plan engine) old
unfolding oldest_block_plan
oldest_block_so engine old on =
    cache_part engine old engine (oldest_plan (cache_of engine)) old (begins engine old on)
    (oldest_so engine.shape old (cache_of engine) (oldest_dirty engine.cache) old (on_oldest_block (layout.meta_lines engine.shape) engine.cache on)
    (begins engine old on).cache)

pub flush_alone : FlushesWriteMetadataAlone
flush_alone engine old new end its it =
    let on : Tree (layout.meta_lines engine.shape) engine.cache = on_tree engine.shape engine.cache its in
    alone engine old (left_at end) new
    (holds_at (EngineSo engine old) end
    (ends_mapped (EngineSo engine old) (EngineSo engine old) _ _ (oldest_block_plan engine) old (λ end d its. its) (λ left d its. its)
    (oldest_block_so engine old on)) it)

-- ---- another number

module _ (n : ℕ) (engine : ChipState) (old : Device) (on : Tree (layout.meta_lines engine.shape) engine.cache) where
  way_so : Ends (EngineSo engine old) (make_way_plan n old.regs engine) old
  unfolding make_way_plan counter_blocks_plan Leaves
  way_so =
      ends_if (EngineSo engine old) (nat_lt n old.regs.loss) (counter_blocks_plan engine) (done (engine, 0)) old
      (ends_mapped (EngineSo engine old) (EngineSo engine old) _ _ _ old (λ end d its. its) (λ left d its. its)
      (blocks_so engine old (dirty_counter_blocks engine) engine old
      (on_order (layout.meta_lines engine.shape) (bank_of engine.cache engine.shape.levels)
      (each_of (AreOn (layout.meta_lines engine.shape)) (bank_of engine.cache engine.shape.levels) [] (on engine.shape.levels)))
      (begins engine old on)))
      (begins engine old on)

  -- with these registers
  record IsWith (regs : Regs) (after : ChipState) (now : Device) : Type 0 where
    lines : KeepsOtherLines engine.shape old now
    kept : KeepsMirror engine after
    its_regs : now.regs ≡ regs

  abbrev set_regs : Regs
  set_regs = if n == old.regs.loss then old.regs else with_loss old.regs n

  abbrev Sets : {F : Type 0} → Plan (ChipState × F) (ChipState × ℕ) → Device → Type 0
  Sets plan now = Leaves plan (λ end d. IsWith set_regs end.0 d) (λ left d. IsWith old.regs left.0 d) now

  unset : (after : ChipState) (now : Device) → EngineSo engine old after now → IsWith old.regs after now
  unset after now so = record { lines = so.cache.kept.lines; kept = record { mirror = so.mirror; shape = so.shape }; its_regs = so.cache.kept.regs }

  latched : (end : ChipState × ℕ) (now : Device) → (n == old.regs.loss) ≡ false → EngineSo engine old end.0 now
      → Sets (latch (end.0, the_cut) (with_loss old.regs n) (done (end.0, end.1 + 1))) now
  unfolding Leaves
  latched end now other so = (
    λ new was. unset end.0 new (engine_then engine old end.0 now new was.lines was.regs was.latches so),
    λ new was.
        record {
          lines = λ at apart. ap (λ told. told_line told at) was.lines ∙ so.cache.kept.lines at apart;
          kept = record { mirror = so.mirror; shape = so.shape };
          its_regs = was.regs ∙ sym (cond-false (n == old.regs.loss) old.regs (with_loss old.regs n) other);
        },
  )

  loss_so : Sets (latch_loss_plan n old.regs engine) old
  unfolding latch_loss_plan Leaves
  loss_so =
      leaves_if (λ end d. IsWith set_regs end.0 d) (λ left d. IsWith old.regs left.0 d) (n == old.regs.loss) _ _ old
      (λ same. subst (λ (regs : Regs). IsWith regs engine old) (sym (cond-true (n == old.regs.loss) old.regs (with_loss old.regs n) same))
      (unset engine old (begins engine old on)))
      (λ other. leaves_bind (λ end d. IsWith set_regs end.0 d) (λ left d. IsWith old.regs left.0 d) (make_way_plan n old.regs engine)
      (λ end. latch (end.0, the_cut) (with_loss old.regs n) (done (end.0, end.1 + 1))) old
      (leaves_more (λ end d. EngineSo engine old end.0 d) (λ end d. Sets (latch (end.0, the_cut) (with_loss old.regs n) (done (end.0, end.1 + 1))) d)
      (λ left d. EngineSo engine old left.0 d) (λ left d. IsWith old.regs left.0 d) (make_way_plan n old.regs engine) old
      (λ end d so. latched end d other so) (λ left d so. unset left.0 d so) way_so))

  call_so : Sets (set_loss_plan n old.regs engine) old
  call_so = leaves_mapped _ _ (λ end d. IsWith set_regs end.0 d) (λ left d. IsWith old.regs left.0 d) (latch_loss_plan n old.regs engine) old loss_so

pub loss_alone : LossesWriteMetadataAlone
loss_alone n engine old new end its it =
    at_end (on_tree engine.shape engine.cache its) end (leaves _ _ (call_so n engine old (on_tree engine.shape engine.cache its)) it)
  where
    at_end : (on : Tree (layout.meta_lines engine.shape) engine.cache) (end : Result (ChipState × ℕ) (ChipState × Fault))
        → AtEnd (λ end d. IsWith n engine old on (set_regs n engine old on) end.0 d) (λ left d. IsWith n engine old on old.regs left.0 d) end new
        → SetsNumberAlone n engine old new end
    at_end on (Ok t) it = record { lines = it.lines; engine = it.kept; regs = it.its_regs }
    at_end on (Err left) it = record { lines = it.lines; engine = it.kept; regs = it.its_regs }
