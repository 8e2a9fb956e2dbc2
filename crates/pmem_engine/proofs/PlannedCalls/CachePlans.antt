-- Plans over the cache or over the copy of the shadow lines, as plans over the engine.
use Rattle.std.proofs.Common.{◌≡◌, ℕ, List, Option, Result, Ok, Err, ap, subst}
use Rattle.pmem_base.specs.declared.faults.Cut.{Cut}
use Rattle.pmem_base.specs.declared.lines.Line.{Line}
use Rattle.pmem_base.specs.Shape.{Shape}
use Rattle.board.specs.Device.{Device}
use Rattle.call_plan.specs.Plans.{Plan, lifted, ended}
use Rattle.call_plan.specs.Following.{Follows}
use Rattle.call_plan.proofs.Bind.{lifted_follows, mapped_follows}
use Rattle.meta_cache.specs.Banks.{Banks}
use Rattle.meta_cache.specs.State.{CacheState}
use Rattle.seal_ledger.specs.Ledger.{LedgerState}
use Rattle.suite.specs.Formulas.{Formulas}
use Rattle.meta_path.specs.declared.faults.PathFault.{PathFault}
use Rattle.meta_path.specs.FetchPlans.{FetchParts, fetch_parts, fetch_plan}
use Rattle.meta_path.specs.Plans.{naming_plan, write_back_plan, oldest_plan}
use Rattle.pmem_engine.specs.declared.fault.Fault.{Fault}
use Rattle.pmem_engine.specs.Engine.{ChipState}
use Rattle.pmem_engine.specs.Outcomes.{faulted}
use Rattle.pmem_engine.specs.Flushed.{cache_of}
use Rattle.pmem_engine.specs.Plans.{chip_with, with_cache, with_mirror, with_fetched, oldest_block_plan, block_plan, name_plan, fetch_path_plan}

-- a plan over a part of the state, followed over the whole
pub lifted_end : {S P A F : Type 0} (whole : S → P) {plan : Plan (S × F) (S × A)} {old new : Device} (answer : Result A F) (after : S)
    → Follows plan old new (ended answer after) → Follows (lifted whole (λ fault. fault) plan) old new (ended answer (whole after))
lifted_end {F = F} whole (Ok value) after it = lifted_follows whole (λ (fault : F). fault) it
lifted_end {F = F} whole (Err error) after it = lifted_follows whole (λ (fault : F). fault) it

-- a part whose faults are other ones to the call
pub faulted_end : {S A F : Type 0} (fault : F → Fault) {plan : Plan (S × F) (S × A)} {old new : Device} (answer : Result A F) (after : S)
    → Follows plan old new (ended answer after) → Follows (lifted (λ (s : S). s) fault plan) old new (ended (faulted fault answer) after)
faulted_end fault (Ok value) after it = mapped_follows _ _ it
faulted_end fault (Err error) after it = mapped_follows _ _ it

-- an engine with this cache
module _ (shape : Shape) (mirror : List Line) where
  abbrev engine_with : Banks → ChipState
  engine_with banks = record { shape = shape; cache = banks; mirror = mirror }

  module _ (cache : CacheState) (same : cache.shape ≡ shape) where
    its_cache : cache ≡ cache_of (engine_with cache.banks)
    its_cache = ap (λ (s : Shape). record { shape = s; banks = cache.banks }) same

    pub oldest_block : {old new : Device} (after : CacheState) (answer : Result (Option ℕ) Cut) → Follows (oldest_plan cache) old new (ended answer after)
        → Follows (oldest_block_plan (engine_with cache.banks)) old new (ended answer (engine_with after.banks))
    unfolding oldest_block_plan
    oldest_block {old = old} {new = new} after answer it =
        lifted_end (with_cache (engine_with cache.banks)) answer after
        (subst (λ (c : CacheState). Follows (oldest_plan c) old new (ended answer after)) its_cache it)

    pub its_block : (bank x : ℕ) {old new : Device} (after : CacheState) (answer : Result (Unit {0}) Cut) → Follows (write_back_plan cache bank x) old new (ended answer after)
        → Follows (block_plan bank x (engine_with cache.banks)) old new (ended answer (engine_with after.banks))
    unfolding block_plan
    its_block bank x {old = old} {new = new} after answer it =
        lifted_end (with_cache (engine_with cache.banks)) answer after
        (subst (λ (c : CacheState). Follows (write_back_plan c bank x) old new (ended answer after)) its_cache it)

    -- and a fetch over it
    pub its_fetch : (f : Formulas) (root : List ℕ) (page : ℕ) (ledger : LedgerState) (tags digests : ℕ) {old new : Device} (after : FetchParts)
        (answer : Result (Unit {0}) PathFault) → Follows (fetch_plan f root page (fetch_parts cache ledger digests)) old new (ended answer after)
        → Follows (fetch_path_plan (record { shape = shape; formulas = f }) root page (chip_with (engine_with cache.banks) ledger tags digests)) old new
        (ended answer (chip_with (engine_with after.cache.banks) after.ledger tags after.digests))
    unfolding fetch_path_plan
    its_fetch f root page ledger tags digests {old = old} {new = new} after answer it =
        lifted_end (with_fetched (chip_with (engine_with cache.banks) ledger tags digests)) answer after
        (subst (λ (c : CacheState). Follows (fetch_plan f root page (fetch_parts c ledger digests)) old new (ended answer after)) its_cache it)

pub its_names : (engine : ChipState) (page : ℕ) {old new : Device} (after : List Line) (answer : Result (Unit {0}) Cut)
    → Follows (naming_plan engine.shape engine.cache page engine.mirror) old new (ended answer after)
    → Follows (name_plan page engine) old new (ended answer (with_mirror engine after))
unfolding name_plan
its_names engine page after answer it = lifted_end (with_mirror engine) answer after it
