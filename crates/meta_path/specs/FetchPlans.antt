-- What fetching a page's path does, as a plan over the cache, the ledger and the count of digests.
use Rattle.std.specs.Prelude.{ℕ, ◌+◌, List, if◌then◌else◌}
use Rattle.pmem_base.specs.declared.lines.Line.{Line}
use Rattle.pmem_base.specs.declared.answers.Exhibit.TheVariants.{Clash}
use Rattle.pmem_base.specs.Counts.{risen}
use Rattle.pmem_base.specs.Shape.{Shape}
use Rattle.pmem_base.specs.Layout.{meta_line}
use Rattle.pmem_base.specs.Lines.{line_at, same_bytes}
use Rattle.suite.specs.Formulas.{Formulas}
use Rattle.seal_ledger.specs.Ledger.{LedgerState}
use Rattle.seal_ledger.specs.Notes.{shown}
use Rattle.call_plan.specs.Plans.{Plan, done, stop, read, bind, mapped, repeated}
use Rattle.meta_cache.specs.Banks.{set_index, is_cached}
use Rattle.meta_cache.specs.Sets.{touched, placed}
use Rattle.meta_cache.specs.State.{CacheState, slots_of, with_slots}
use Rattle.meta_path.specs.declared.faults.PathFault.{PathFault}
use Rattle.meta_path.specs.declared.faults.PathFault.TheVariants as Fault
use Rattle.meta_path.specs.Blocks.{path_at}
use Rattle.meta_path.specs.Levels.{expected_digest}
use Rattle.meta_path.specs.Plans.{room_plan}

-- what a fetch works on next to the board
pub record FetchParts : Type 0 where
  pub cache : CacheState
  pub ledger : LedgerState
  pub digests : ℕ

abbrev pub fetch_parts : CacheState → LedgerState → ℕ → FetchParts
fetch_parts cache ledger digests = record { cache = cache; ledger = ledger; digests = digests }

-- ---- the line of a position that isn't cached

-- the line read is the true one, or both are shown
abbrev pub known_plan : ℕ → Line → FetchParts → Plan (FetchParts × PathFault) (FetchParts × Line)
known_plan x line at =
    if same_bytes line.0 (line_at at.ledger.truth x).0 then done (at, line)
    else
    stop (fetch_parts at.cache (shown at.ledger (Clash x line (line_at at.ledger.truth x))) at.digests, Fault.Shown)

-- It is read, and a digest made. If this isn't the one that it has to have, it is refused.
unfoldable pub check_plan :
    Formulas → List ℕ → ℕ → ℕ → FetchParts → Plan (FetchParts × PathFault) (FetchParts × Line)
check_plan f root bank x at =
    let after = fetch_parts at.cache at.ledger (risen at.digests) in
    read (at, Fault.Cut) (meta_line at.cache.shape x) (λ line.
    if same_bytes (f.digest_of x line) (expected_digest at.cache.shape root at.cache.banks bank x) then
    known_plan x line after
    else stop (after, Fault.Meta x))

-- ---- a level, and the path

-- the cache with x first in its set
abbrev pub touched_in : CacheState → ℕ → ℕ → CacheState
touched_in cache bank x = with_slots cache bank (set_index cache.shape x) (touched (slots_of cache bank x) x)

-- the cache with x first in its set, clean, with this line
abbrev pub placed_in : CacheState → ℕ → ℕ → Line → CacheState
placed_in cache bank x line =
    with_slots cache bank (set_index cache.shape x) (placed cache.shape.ways (slots_of cache bank x) x line)

-- room is made, and the line that was read is placed
unfoldable pub place_plan : ℕ → ℕ → FetchParts × Line → Plan (FetchParts × PathFault) (FetchParts × Unit {0})
place_plan bank x at =
    mapped (λ left. (fetch_parts left.0 at.0.ledger at.0.digests, Fault.Cut))
    (λ end. (fetch_parts (placed_in end.0 bank x at.1) at.0.ledger at.0.digests, tt)) (room_plan at.0.cache bank x)

-- position x of a bank
unfoldable pub level_plan :
    Formulas → List ℕ → ℕ → ℕ → FetchParts → Plan (FetchParts × PathFault) (FetchParts × Unit {0})
level_plan f root bank x at =
    if is_cached at.cache.shape at.cache.banks bank x then
    done (fetch_parts (touched_in at.cache bank x) at.ledger at.digests, tt)
    else bind (check_plan f root bank x at) (place_plan bank x)

-- the path's position at level j
abbrev pub fetch_turn :
    Formulas → List ℕ → Shape → ℕ → ℕ → FetchParts × Unit {0} → Plan (FetchParts × PathFault) (FetchParts × Unit {0})
fetch_turn f root g page j before = level_plan f root j (path_at g page j) before.0

-- the whole path, from the top down
abbrev pub fetch_plan : Formulas → List ℕ → ℕ → FetchParts → Plan (FetchParts × PathFault) (FetchParts × Unit {0})
fetch_plan f root page at =
    repeated (fetch_turn f root at.cache.shape page) 0 (at.cache.shape.levels + 1) (at, tt)
