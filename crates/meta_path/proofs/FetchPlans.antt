-- The plans of a level that is fetched, at each of their ends.
use Rattle.std.proofs.Common.{rules, ◌≡◌, ◌≢◌, ℕ, Bool, true, false, List, Result, Ok, Err, sym, ap₂, subst}
use Rattle.std.specs.Prelude.{if◌then◌else◌}
use Rattle.pmem_base.specs.declared.faults.Cut.{Cut}
use Rattle.pmem_base.specs.declared.lines.Line.{Line}
use Rattle.pmem_base.specs.declared.answers.Exhibit.TheVariants.{Clash}
use Rattle.pmem_base.specs.Counts.{risen}
use Rattle.pmem_base.specs.Layout.{meta_line}
use Rattle.pmem_base.specs.Lines.{IsLine, line_at, same_bytes}
use Rattle.board.specs.Device.{Device}
use Rattle.board.specs.Steps.{HasRead, WasCut}
use Rattle.suite.specs.Formulas.{Formulas}
use Rattle.seal_ledger.specs.Ledger.{LedgerState}
use Rattle.seal_ledger.specs.Notes.{shown}
use Rattle.seal_ledger.proofs.NoteLemmas.{other_bytes, same_line, other_line}
use Rattle.call_plan.specs.Plans.{Plan, done, stop, bind, mapped_end}
use Rattle.call_plan.specs.Following.{Follows}
use Rattle.call_plan.proofs.Steps.{is_done, is_stopped, read_then, read_cut}
use Rattle.call_plan.proofs.Bind.{bind_ok, bind_err, mapped_follows}
use Rattle.meta_cache.specs.Banks.{is_cached}
use Rattle.meta_cache.specs.State.{CacheState}
use Rattle.meta_path.specs.declared.faults.PathFault.{PathFault}
use Rattle.meta_path.specs.declared.faults.PathFault.TheVariants as Fault
use Rattle.meta_path.specs.Levels.{expected_digest}
use Rattle.meta_path.specs.Plans.{room_plan}
use Rattle.meta_path.specs.FetchPlans.{FetchParts, fetch_parts, known_plan, check_plan, touched_in, placed_in, place_plan, level_plan}

-- the same parts
pub same_parts : (cache : CacheState) {ledger other : LedgerState} {digests now : ℕ} → ledger ≡ other → digests ≡ now
    → fetch_parts cache ledger digests ≡ fetch_parts cache other now
same_parts cache e f = ap₂ (λ l d. fetch_parts cache l d) e f

-- ---- the line of a position

module _ (f : Formulas) (root : List ℕ) (bank x : ℕ) (at : FetchParts) (old new : Device) where
  abbrev after : FetchParts
  after = fetch_parts at.cache at.ledger (risen at.digests)

  abbrev expected : List ℕ
  expected = expected_digest at.cache.shape root at.cache.banks bank x

  -- what comes after the line
  abbrev plan_of : Bool → Line → Plan (FetchParts × PathFault) (FetchParts × Line)
  plan_of fits line = if fits then known_plan x line after else stop (after, Fault.Meta x)

  pub check_cut : WasCut old new → old.live ≡ false → Follows (check_plan f root bank x at) old new (Err (at, Fault.Cut))
  unfolding check_plan
  check_cut was off = search (rules, read_cut)

  module _ (line : Line) (was : HasRead old (meta_line at.cache.shape x) line new) (whole : IsLine line) where
    by_line : (fits : Bool) (end : Result (FetchParts × Line) (FetchParts × PathFault)) → same_bytes (f.digest_of x line) expected ≡ fits
        → Follows (plan_of fits line) new new end → Follows (check_plan f root bank x at) old new end
    unfolding check_plan
    by_line fits end is it =
        read_then (at, Fault.Cut) was whole (subst (λ b. Follows (plan_of b line) new new end) (sym is) it)

    pub check_refused : f.digest_of x line ≢ expected → Follows (check_plan f root bank x at) old new (Err (after, Fault.Meta x))
    check_refused differs = search (rules, by_line, other_bytes, is_stopped)

    -- both lines are shown
    abbrev clash : FetchParts × PathFault
    clash = (fetch_parts at.cache (shown at.ledger (Clash x line (line_at at.ledger.truth x))) (risen at.digests), Fault.Shown)

    abbrev plan_by : Bool → Plan (FetchParts × PathFault) (FetchParts × Line)
    plan_by known = if known then done (after, line) else stop clash

    by_truth : (known : Bool) (end : Result (FetchParts × Line) (FetchParts × PathFault)) → same_bytes line.0 (line_at at.ledger.truth x).0 ≡ known
        → Follows (plan_by known) new new end → Follows (known_plan x line after) new new end
    by_truth known end is it = subst (λ b. Follows (plan_by b) new new end) (sym is) it

    module _ (fits : same_bytes (f.digest_of x line) expected ≡ true) where
      pub check_known : line ≡ line_at at.ledger.truth x → Follows (check_plan f root bank x at) old new (Ok (after, line))
      check_known is = search (rules, by_line, by_truth, same_line, is_done)

      pub check_shown : line ≢ line_at at.ledger.truth x
          → Follows (check_plan f root bank x at) old new (Err clash)
      check_shown differs = search (rules, by_line, by_truth, other_line, is_stopped)

-- ---- a level

module _ (f : Formulas) (root : List ℕ) (bank x : ℕ) (at : FetchParts) where
  -- what is done, by whether the position is cached
  abbrev level_of : Bool → Plan (FetchParts × PathFault) (FetchParts × Unit {0})
  level_of cached =
      if cached then done (fetch_parts (touched_in at.cache bank x) at.ledger at.digests, tt)
      else bind (check_plan f root bank x at) (place_plan bank x)

  pub level_cached : (d : Device) → is_cached at.cache.shape at.cache.banks bank x ≡ true
      → Follows (level_plan f root bank x at) d d (Ok (fetch_parts (touched_in at.cache bank x) at.ledger at.digests, tt))
  unfolding level_plan
  level_cached d cached = search (rules, is_done)

  module _ (old new : Device) (absent : is_cached at.cache.shape at.cache.banks bank x ≡ false) where
    -- the line wasn't had
    pub level_unread : (left : FetchParts) (fault : PathFault) → Follows (check_plan f root bank x at) old new (Err (left, fault))
        → Follows (level_plan f root bank x at) old new (Err (left, fault))
    unfolding level_plan
    level_unread left fault it = search (rules, bind_err)

    -- the line was read and checked, and room was to be made
    pub level_placed : (mid : Device) (after : FetchParts) (line : Line) (end : Result (CacheState × Unit {0}) (CacheState × Cut))
        → Follows (check_plan f root bank x at) old mid (Ok (after, line)) → Follows (room_plan after.cache bank x) mid new end
        → Follows (level_plan f root bank x at) old new
        (mapped_end (λ left. (fetch_parts left.0 after.ledger after.digests, Fault.Cut))
        (λ end. (fetch_parts (placed_in end.0 bank x line) after.ledger after.digests, tt)) end)
    unfolding level_plan place_plan
    level_placed mid after line end first second =
        let stopped : CacheState × Cut → FetchParts × PathFault = λ left. (fetch_parts left.0 after.ledger after.digests, Fault.Cut) in
        let placing : CacheState × Unit {0} → FetchParts × Unit {0} =
        λ end. (fetch_parts (placed_in end.0 bank x line) after.ledger after.digests, tt) in
        subst (λ b. Follows (level_of b) old new (mapped_end stopped placing end)) (sym absent)
        (bind_ok (place_plan bank x) first (mapped_follows stopped placing second))
