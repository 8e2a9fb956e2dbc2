-- What the faults of a fetch say of the cache and of the board.
use Rattle.std.proofs.Common.{rules, ◌≡◌, ℕ, zero, suc, ◌+◌, ◌<◌, ◌≤◌, true, cond, List, [], ◌∷◌, refl, sym, ap, subst, ◌∙◌, inl, inr, arith, mod-lt, Option, Some, None}
use Rattle.std.specs.Prelude.{All, Contains, IsSomeAnd}
use Rattle.std.proofs.lemmas.Bool.{cases_eq, cond-true}
use Rattle.std.proofs.lemmas.List.Sums.{sum_by-cons}
use Rattle.pmem_base.specs.declared.lines.Line.{Line}
use Rattle.pmem_base.specs.Shape.{Shape}
use Rattle.pmem_base.specs.Layout.{pages}
use Rattle.pmem_base.specs.Lines.{IsLine, line_at}
use Rattle.suite.specs.Formulas.{Formulas, AreInRange}
use Rattle.seal_ledger.specs.Ledger.{LedgerState}
use Rattle.bonsai_tree.specs.Positions.{child_slot}
use Rattle.bonsai_tree.specs.Nodes.{child_digest}
use Rattle.bonsai_tree.proofs.PathPositions.{path_of-top}
use Rattle.bonsai_tree.proofs.Trees.{IsHashTree-child}
use Rattle.meta_cache.specs.declared.slot.Slot.{Slot}
use Rattle.meta_cache.specs.Banks.{Banks, set_of, set_index}
use Rattle.meta_cache.specs.Sets.{victim_of}
use Rattle.meta_path.specs.declared.faults.PathFault.{PathFault}
use Rattle.meta_path.specs.declared.faults.PathFault.TheVariants as Fault
use Rattle.meta_path.specs.Blocks.{path_at, dirty_in, sum_below, bank_dirty_count, dirty_count, AreCachedTrue}
use Rattle.meta_path.specs.Work.{FetchState}
use Rattle.meta_path.specs.Levels.{expected_digest, HasParent}
use Rattle.meta_path.specs.Fetching.{IsCutAt, IsPathFault}
use Rattle.meta_path.specs.Keeping.{IsTrueTree, HasFalseDigest, IsFaultCaused}
use Rattle.meta_path.proofs.SetFacts.{victim_contained}
use Rattle.meta_path.proofs.PathFacts.{path_at-lt, AreSets}
use Rattle.meta_path.proofs.FetchLemmas.{same_later, HasParent-at}
use Rattle.meta_path.proofs.KeepLaws.{line_in-true}

-- ---- a dirty block is left

-- a term of a sum is in it
at_least : (f : ℕ → ℕ) (n i : ℕ) → i < n → f i ≤ sum_below f n
at_least f zero i h = absurd (omega arith)
at_least f (suc n) i h =
    elim (cases_eq i n) [
      | inl same ↦ omega (arith, ap f same)
      | inr other ↦ let before : f i ≤ sum_below f n = at_least f n i (omega arith) in omega arith
    ]

-- 1 for a dirty slot
abbrev marks : Slot → ℕ
marks slot = cond slot.dirty 1 0

dirty_in-cons : (slot : Slot) (slots : List Slot) → dirty_in (slot ∷ slots) ≡ marks slot + dirty_in slots
dirty_in-cons slot slots = sum_by-cons marks slot slots

-- a dirty slot of a set counts
dirty_in-slot : (slots : List Slot) (slot : Slot) → Contains slots slot → slot.dirty ≡ true → 1 ≤ dirty_in slots
dirty_in-slot [] slot found dirty = absurd (omega (arith, found.1))
dirty_in-slot (s ∷ slots) slot (zero, within, is) dirty =
    let one : marks s ≡ 1 = cond-true s.dirty 1 0 (ap (λ (t : Slot). t.dirty) is ∙ dirty) in
    omega (arith, one, dirty_in-cons s slots)
dirty_in-slot (s ∷ slots) slot (suc k, within, is) dirty =
    let rest : 1 ≤ dirty_in slots = dirty_in-slot slots slot (k, omega arith, is) dirty in
    omega (arith, rest, dirty_in-cons s slots)

pub dirty_count-slot : (g : Shape) (banks : Banks) (bank set : ℕ) (slot : Slot) → bank ≤ g.levels → set < g.sets
    → Contains (set_of banks bank set) slot → slot.dirty ≡ true → 1 ≤ dirty_count g banks
unfolding dirty_count
dirty_count-slot g banks bank set slot low within found dirty =
    omega (
      arith,
      dirty_in-slot (set_of banks bank set) slot found dirty,
      at_least (λ s. dirty_in (set_of banks bank s)) g.sets set within,
      at_least (bank_dirty_count g banks) (g.levels + 1) bank (omega arith),
    )

-- after a cut of a live board
pub cut_dirty : {g : Shape} {f : Formulas} {truth : List Line} {page : ℕ} {old new : FetchState} → AreSets g old.cache.banks
    → 1 ≤ g.sets → IsCutAt g f truth page old new → old.device.live ≡ true → 1 ≤ dirty_count g new.cache.banks
cut_dirty {g} {f} {truth} {page} {old} {new} sets some cut live = by (victim_of g.ways slots) refl (cut.victim live)
  where
    set : ℕ
    set = set_index g (path_at g page cut.n)

    slots : List Slot
    slots = set_of old.cache.banks cut.n set

    by : (victim : Option Slot) → victim_of g.ways slots ≡ victim → IsSomeAnd victim (λ v. v.dirty ≡ true)
        → 1 ≤ dirty_count g new.cache.banks
    by None is dirty = absurd dirty
    by (Some victim) is dirty =
        dirty_count-slot g new.cache.banks cut.n set victim cut.on_path (mod-lt (path_at g page cut.n) (omega (arith, some)))
        (subst (λ slots. Contains slots victim)
        (sym (same_later g truth page cut.n old.cache new.cache cut.n set cut.cache (omega arith)))
        (victim_contained g.ways slots victim (sets.each cut.n set).room is))
        dirty

-- ---- why a line was refused

-- what a chip that is right knows
pub record IsRight (g : Shape) (f : Formulas) (truth : List Line) (root : List ℕ) (banks : Banks) : Type 0 where
  pub in_range : AreInRange f
  pub tree : IsTrueTree g f truth root
  pub whole : All IsLine truth
  pub is_true : AreCachedTrue banks truth

-- the digest that a line has to have is that of the true line
pub expected_digest-true : (g : Shape) (f : Formulas) (truth : List Line) (root : List ℕ) (banks : Banks) (page n : ℕ)
    → page < pages g → n ≤ g.levels → HasParent g banks n (path_at g page n) → IsRight g f truth root banks
    → expected_digest g root banks n (path_at g page n) ≡ f.digest_of (path_at g page n) (line_at truth (path_at g page n))
expected_digest-true g f truth root banks page zero inside le parent_here right = search (rules, path_of-top)
expected_digest-true g f truth root banks page (suc above) inside le parent_here right =
    ap (λ l. child_digest l (child_slot (path_at g page (suc above)))) (line_in-true g banks truth above _ right.is_true parent_here.1)
    ∙ IsHashTree-child g f truth _ right.in_range right.tree.tree right.whole parent_here.0 (path_at-lt g page (suc above) inside le)

-- so a refused line has another digest than the true one, and a shown one has its digest
pub IsFaultCaused-fault : (g : Shape) (f : Formulas) (page : ℕ) (old new : FetchState) (old_ledger new_ledger : LedgerState)
    (fault : PathFault) → page < pages g → IsRight g f old_ledger.truth old.device.regs.root new.cache.banks
    → IsPathFault g f page old new old_ledger new_ledger fault
    → IsFaultCaused g f new.device.lines old_ledger new_ledger fault
IsFaultCaused-fault g f page old new old_ledger new_ledger Fault.Cut inside right h = tt
IsFaultCaused-fault g f page old new old_ledger new_ledger (Fault.Meta x) inside right h =
    subst (λ y. HasFalseDigest g f old_ledger.truth y new.device.lines) (sym h.0.position)
    (record {
      line = h.0.line;
      whole = h.0.read.whole;
      on_tree = path_at-lt g page h.0.n inside h.0.read.on_path;
      tells = h.0.read.tells;
      differs = λ e.
          h.0.differs
          (e ∙ sym (expected_digest-true g f old_ledger.truth old.device.regs.root new.cache.banks page h.0.n inside h.0.read.on_path
          (HasParent-at g old_ledger.truth page h.0.n old.cache new.cache inside h.0.read.on_path h.0.read.cache) right));
    })
IsFaultCaused-fault g f page old new old_ledger new_ledger Fault.Shown inside right h =
    record {
      x = path_at g page h.n;
      line = h.line;
      whole = h.read.whole;
      on_tree = path_at-lt g page h.n inside h.read.on_path;
      tells = h.read.tells;
      same_digest =
          h.same_digest
          ∙ expected_digest-true g f old_ledger.truth old.device.regs.root new.cache.banks page h.n inside h.read.on_path
          (HasParent-at g old_ledger.truth page h.n old.cache new.cache inside h.read.on_path h.read.cache) right;
      differs = h.differs;
      shown = h.shown;
    }
