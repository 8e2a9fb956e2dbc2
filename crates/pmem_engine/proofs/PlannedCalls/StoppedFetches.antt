-- What a write's fetch comes to, wherever it ends: no mark is made, and neither shadow lines nor the page's counter block
-- are written.
use Rattle.std.proofs.Common.{ℕ, ◌≡◌, ◌<◌, ◌≤◌, ◌+◌, [], refl, sym, ap, ◌∙◌, inl, arith, rules}
use Rattle.std.specs.List.{Contains}
use Rattle.std.proofs.lemmas.Bool.{false≢true}
use Rattle.std.proofs.lemmas.List.{append-nil}
use Rattle.pmem_base.specs.declared.lines.Ctr.{Ctr}
use Rattle.pmem_base.specs.declared.commands.Posted.{Posted}
use Rattle.pmem_base.specs.Layout as layout
use Rattle.pmem_base.specs.Layout.{page_of}
use Rattle.pmem_base.specs.Shape.{Shape}
use Rattle.bonsai_tree.specs.Positions.{counter_position, level_of}
use Rattle.bonsai_tree.proofs.PathPositions.{path_of-block}
use Rattle.board.specs.Device.{Device}
use Rattle.commit_regs.specs.Groups.{redone_told}
use Rattle.seal_ledger.specs.Ledger.{LedgerState}
use Rattle.meta_cache.specs.Banks.{set_index}
use Rattle.meta_cache.specs.Sets.{holds}
use Rattle.meta_path.proofs.FetchLemmas.{IsPathCached-fetched}
use Rattle.meta_path.proofs.KeepLemmas.{IsSpilledAt, spilled_or_kept_told}
use Rattle.meta_path.proofs.PathFacts.{its_bank_of, path_at-level}
use Rattle.meta_path.proofs.SetFacts.{holds_slot, victim_contained}
use Rattle.suite.specs.Formulas.{Formulas}
use Rattle.suite.specs.Setup.{Setup}
use Rattle.meta_path.specs.declared.faults.PathFault.{PathFault}
use Rattle.meta_path.specs.declared.faults.PathFault.TheVariants as Path
use Rattle.meta_path.specs.Blocks.{path_at, slots_at, IsOfItsBank, IsPathCached}
use Rattle.meta_path.specs.Fetching.{spilled}
use Rattle.meta_path.specs.FetchPlans.{FetchParts}
use Rattle.meta_path.specs.Work.{told_line}
use Rattle.pmem_engine.specs.declared.fault.Fault.{Fault}
use Rattle.pmem_engine.specs.Outcomes.{fault_of_path}
use Rattle.pmem_engine.specs.Plans.{Chip, with_fetched}
use Rattle.pmem_engine.specs.FetchLaws.{HasWholeCache, HasFetchedLevels, IsStoppedInFetch, IsStoppedBy, setup_of_chip, IsBlockWrittenWhereDue}
use Rattle.pmem_engine.proofs.PlannedCalls.FetchedReads.{Comes, Ends, is_fetched, isnt_fetched}

module _ (f : Formulas) (w : Posted) (first : Chip) (start : Device) (whole : HasWholeCache first.engine)
    (inside : page_of w.at < layout.pages first.engine.shape) where
  abbrev g : Shape
  g = first.engine.shape

  abbrev setup : Setup
  setup = setup_of_chip first f

  abbrev page : ℕ
  page = page_of w.at

  abbrev all : ℕ
  all = g.levels + 1

  -- the place of the page's counter block
  abbrev block_at : ℕ
  block_at = layout.meta_line g (counter_position g page)

  abbrev pub Due : Chip → Device → Type 0
  Due chip now = IsBlockWrittenWhereDue w start.regs.loss first chip start now

  abbrev pub Stop : Chip × Fault → Device → Type 0
  Stop left now = IsStoppedBy w first left.0 start now left.1 × Due left.0 now

  -- ---- places that the fetch doesn't write

  module _ (n at : ℕ) (spilled : IsSpilledAt g first.engine.cache page n at) where
    stands : Contains (slots_at g first.engine.cache spilled.level (path_at g page spilled.level)) spilled.victim
    stands = search (rules, victim_contained)

    its : IsOfItsBank g spilled.level spilled.victim
    its = its_bank_of g first.engine.cache spilled.level (set_index g (path_at g page spilled.level)) spilled.victim whole.its_banks stands

    not_shadow : layout.shadow_line g 0 ≤ at → ⊥
    not_shadow high = let on = its.on_tree in let place = spilled.place in absurd (omega (arith, high, on, place))

    not_block : at ≡ block_at → ⊥
    not_block same =
        let position : counter_position g page ≡ spilled.victim.position = let place = spilled.place in omega (arith, same, place) in
        let last : path_at g page g.levels ≡ counter_position g page = path_of-block g page in
        let level : spilled.level ≡ g.levels =
        sym its.its_bank ∙ ap level_of (sym position ∙ sym last) ∙ path_at-level g page g.levels inside whole.geometry.at_most_six_levels (omega arith) in
        let here : path_at g page spilled.level ≡ spilled.victim.position = ap (path_at g page) level ∙ last ∙ position in
        absurd (false≢true (sym spilled.absent
        ∙ ap (holds (slots_at g first.engine.cache spilled.level (path_at g page spilled.level))) here
        ∙ holds_slot (slots_at g first.engine.cache spilled.level (path_at g page spilled.level)) spilled.victim stands))

  beside_fetch : (n : ℕ) (now : Device) (at : ℕ) → now.lines ≡ redone_told (spilled g first.engine.cache page n) start.lines
      → (IsSpilledAt g first.engine.cache page n at → ⊥) → told_line now.lines at ≡ told_line start.lines at
  beside_fetch n now at is apart = search (rules, spilled_or_kept_told)

  pub shadow_stays : (n : ℕ) (now : Device) (at : ℕ) → now.lines ≡ redone_told (spilled g first.engine.cache page n) start.lines
      → layout.shadow_line g 0 ≤ at → told_line now.lines at ≡ told_line start.lines at
  shadow_stays n now at is high = beside_fetch n now at is (λ gone. not_shadow n at gone high)

  pub block_stays : (n : ℕ) (now : Device) → now.lines ≡ redone_told (spilled g first.engine.cache page n) start.lines
      → told_line now.lines block_at ≡ told_line start.lines block_at
  block_stays n now is = beside_fetch n now block_at is (λ gone. not_block n block_at gone refl)

  -- ---- the fetch

  marks_stay : (parts : FetchParts) (fault : PathFault) (now : Device) → Ends f page first start whole inside (parts, fault) now
      → parts.ledger.marks ≡ first.ledger.marks
  marks_stay parts Path.Cut now it = ap (λ (l : LedgerState). l.marks) it.1
  marks_stay parts (Path.Meta x) now it = ap (λ (l : LedgerState). l.marks) it.1
  marks_stay parts Path.Shown now it = it.shown.marks

  in_fetch : (parts : FetchParts) (fault : PathFault) (now : Device) → Ends f page first start whole inside (parts, fault) now
      → IsStoppedInFetch page first (with_fetched first parts) start now (fault_of_path fault) × Due (with_fetched first parts) now
  in_fetch parts fault now it =
      let got = isnt_fetched f page first start whole inside {A = Ctr} parts fault now it in
      let marks = marks_stay parts fault now it in (
        record {
          levels = got.levels;
          fetched = got.fetched;
          as_far = got.as_far;
          marks = marks;
          unnamed = record { mirror = refl; shadow = λ at high. shadow_stays got.levels now at got.fetched.lines high };
        },
        record {
          made = record { later = []; all_of = marks ∙ sym (append-nil first.ledger.marks) };
          kept = λ lazy none. block_stays got.levels now got.fetched.lines;
        },
      )

  pub isnt_so : (parts : FetchParts) (fault : PathFault) (now : Device) → Ends f page first start whole inside (parts, fault) now
      → Stop (with_fetched first parts, fault_of_path fault) now
  isnt_so parts Path.Cut now it = let got = in_fetch parts Path.Cut now it in (inl got.0, got.1)
  isnt_so parts (Path.Meta x) now it = in_fetch parts (Path.Meta x) now it
  isnt_so parts Path.Shown now it = let got = in_fetch parts Path.Shown now it in (inl got.0, got.1)

  -- the chip once the path is fetched
  pub record IsReady (chip : Chip) (now : Device) : Type 0 where
    pub levels : HasFetchedLevels page all first chip.engine start now
    pub cached : IsPathCached g chip.engine.cache page
    pub shape : chip.engine.shape ≡ g
    pub mirror : chip.engine.mirror ≡ first.engine.mirror
    pub marks : chip.ledger.marks ≡ first.ledger.marks

  pub is_ready : (parts : FetchParts) (now : Device) → Comes f page first start whole inside all parts now → IsReady (with_fetched first parts) now
  is_ready parts now come = search (rules, is_fetched, IsPathCached-fetched)
