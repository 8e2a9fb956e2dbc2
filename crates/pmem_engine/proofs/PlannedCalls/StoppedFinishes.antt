-- What a write comes to from its fetch up to the naming of its path, wherever it ends: its line unsealed, a page finished.
use Rattle.std.proofs.Common.{ℕ, suc, ◌≡◌, ◌<◌, ◌+◌, ◌*◌, ◌∷◌, ◌++◌, [], Bool, List, length, map, Option, Some, None, refl, sym, ap, subst, ◌∙◌, inr, arith}
use Rattle.std.specs.Prelude.{IsOk, ◌==◌, ⊤}
use Rattle.std.proofs.lemmas.List.{append-nil, append_assoc, length-append}
use Rattle.pmem_base.specs.declared.lines.Ctr.{Ctr}
use Rattle.pmem_base.specs.declared.commands.Posted.{Posted}
use Rattle.pmem_base.specs.declared.registers.Regs.{Regs}
use Rattle.pmem_base.specs.declared.answers.Mark.{Mark}
use Rattle.pmem_base.specs.declared.answers.Mark.TheVariants.{Seal}
use Rattle.pmem_base.specs.Layout as layout
use Rattle.pmem_base.specs.Layout.{page_of, index_in_page}
use Rattle.pmem_base.specs.Counts.{risen, risen_times}
use Rattle.pmem_base.specs.Registers.{not_done, without_group}
use Rattle.pmem_base.specs.Shape.{Shape}
use Rattle.bonsai_tree.specs.Positions.{counter_position}
use Rattle.board.specs.Counts.{RisesBy}
use Rattle.board.specs.Device.{Device}
use Rattle.board.proofs.CountLemmas.{RisesBy-then}
use Rattle.call_plan.specs.Plans.{done}
use Rattle.call_plan.specs.Bounds.{IsFront, Leaves}
use Rattle.call_plan.proofs.Leaves.{leaves_bind, leaves_mapped, leaves_more, leaves_if, leaves_repeated}
use Rattle.commit_regs.specs.Plans.{finish_plan}
use Rattle.seal_ledger.specs.Ledger.{LedgerState}
use Rattle.seal_ledger.specs.Notes.{shown}
use Rattle.meta_cache.specs.Banks.{set_of}
use Rattle.meta_path.specs.Blocks.{path_at}
use Rattle.meta_path.specs.Fetching.{spilled, HasFetchedSets}
use Rattle.meta_path.specs.Work.{told_line}
use Rattle.suite.specs.Formulas.{Formulas}
use Rattle.suite.specs.Setup.{Setup}
use Rattle.pmem_engine.specs.declared.fault.Fault.{Fault}
use Rattle.pmem_engine.specs.declared.fault.Fault.TheVariants as Fail
use Rattle.pmem_engine.specs.declared.fault.LineFault.{LineFault}
use Rattle.pmem_engine.specs.declared.fault.LineFault.TheVariants as AtLine
use Rattle.pmem_engine.specs.declared.reading.Unsealed.{Unsealed}
use Rattle.pmem_engine.specs.Engine.{ChipState}
use Rattle.pmem_engine.specs.Flushed.{cache_of}
use Rattle.pmem_engine.specs.Inner.{cached_block}
use Rattle.pmem_engine.specs.CallFacts.{masked, KeepsButPath}
use Rattle.pmem_engine.specs.Committing.{next_seal_of}
use Rattle.pmem_engine.specs.Outcomes.{fault_of_line}
use Rattle.pmem_engine.specs.Writing.{overflow_of, register_to_finish}
use Rattle.pmem_engine.specs.Plans.{Chip, chip_with, with_ledger, with_tags, with_seal, armed, its_counter, unseal_plan, register_at, held_of, commit_plan, seal_anew_plan, reseal_plan}
use Rattle.pmem_engine.specs.WritePlans.{plain_plan, with_next_done, finish_turn, finish_page_plan, finish_found_plan, finish_for_plan}
use Rattle.pmem_engine.specs.FetchLaws.{HasWholeCache, NamesNothing, with_resealed, IsStoppedUnnamed, setup_of_chip}
use Rattle.pmem_engine.proofs.PlannedCalls.FetchedReads.{unseal_leaves}
use Rattle.pmem_engine.proofs.PlannedCalls.GroupEnds.{leaves_both, HasEnded, finish_end}
use Rattle.pmem_engine.proofs.PlannedCalls.LowWrites.{group_leaves, KeepsBeside, keeps_beside, Low, low_finish, ArePages, held_low, pages_done}
use Rattle.pmem_engine.proofs.PlannedCalls.StoppedFetches as fetches

-- one more mark is later
unfoldable pub front_more : (old now : List Mark) (mark : Mark) → IsFront old now → IsFront old (now ++ mark ∷ [])
front_more old now mark made =
    record {
      later = made.later ++ mark ∷ [];
      all_of = ap (λ (marks : List Mark). marks ++ mark ∷ []) made.all_of ∙ append_assoc old made.later (mark ∷ []);
    }

module _ (f : Formulas) (w : Posted) (first : Chip) (start : Device) (whole : HasWholeCache first.engine)
    (inside : page_of w.at < layout.pages first.engine.shape) (c : Chip) (mid : Device)
    (ready : fetches.IsReady f w first start whole inside c mid) where
  abbrev g : Shape
  g = first.engine.shape

  abbrev setup : Setup
  setup = setup_of_chip first f

  abbrev page : ℕ
  page = page_of w.at

  abbrev all : ℕ
  all = g.levels + 1

  -- the place of the page's counter block
  abbrev block_at : ℕ
  block_at = layout.meta_line g (counter_position g page)

  abbrev Due : Chip → Device → Type 0
  Due chip now = fetches.Due f w first start whole inside chip now

  abbrev Stop : Chip × Fault → Device → Type 0
  Stop left now = fetches.Stop f w first start whole inside left now

  -- only data lines and tag lines were written since, and the cache and the copy of the shadow lines stay
  pub record IsUnnamed (chip : Chip) (now : Device) : Type 0 where
    pub engine : chip.engine ≡ c.engine
    pub made : IsFront first.ledger.marks chip.ledger.marks
    pub low : KeepsBeside (Low g) mid now

  names_nothing : (chip : Chip) (now : Device) → IsUnnamed chip now → NamesNothing first.engine chip.engine start now
  names_nothing chip now so =
      record {
        mirror = ap (λ (e : ChipState). e.mirror) so.engine ∙ ready.mirror;
        shadow = λ at high.
            so.low at (λ below. absurd (omega (arith, high, below)))
            ∙ fetches.shadow_stays f w first start whole inside all mid at ready.levels.lines high;
      }

  pub block_so : (now : Device) → KeepsBeside (Low g) mid now → told_line now.lines block_at ≡ told_line start.lines block_at
  block_so now low = low block_at (λ below. absurd (omega (arith, below))) ∙ fetches.block_stays f w first start whole inside all mid ready.levels.lines

  unnamed_due : (chip : Chip) (now : Device) → IsUnnamed chip now → Due chip now
  unnamed_due chip now so = record { made = so.made; kept = λ lazy none. block_so now so.low }

  begins : IsUnnamed c mid
  begins =
      record {
        engine = refl;
        made = record { later = []; all_of = ready.marks ∙ sym (append-nil first.ledger.marks) };
        low = λ at apart. refl;
      }

  pub spent_so : Stop (c, Fail.Spent page) mid
  spent_so = (
    record { levels = all; fetched = ready.levels; as_far = refl; marks = ready.marks; unnamed = names_nothing c mid begins },
    unnamed_due c mid begins,
  )

  -- ---- the counter isn't used up

  module _ (unspent : IsOk (overflow_of (cached_block g c.engine page) page (index_in_page w.at))) where
    -- no block came in or gave way
    pub record IsPast (chip : Chip) (now : Device) : Type 0 where
      pub kept : KeepsButPath g page c.engine.cache chip.engine.cache
      pub due : Due chip now

    pub past_cut : (chip : Chip) (now : Device) → IsPast chip now → Stop (chip, Fail.Cut) now
    past_cut chip now so = (
      inr (record { fetched = c.engine; path_fetched = ready.levels.cache; path_cached = ready.cached; unspent = unspent; kept = so.kept }),
      so.due,
    )

    pub unnamed_past : (chip : Chip) (now : Device) → IsUnnamed chip now → IsPast chip now
    unnamed_past chip now so =
        record {
          kept = λ bank set. ap (λ (e : ChipState). map (masked (path_at g page bank)) (set_of e.cache bank set)) so.engine;
          due = unnamed_due chip now so;
        }

    abbrev AtFault : Chip × LineFault → Device → Type 0
    AtFault left now = Stop (left.0, fault_of_line left.1) now

    still : (chip : Chip) (now new : Device) → new.lines ≡ now.lines → IsUnnamed chip now → IsUnnamed chip new
    still chip now new same so =
        record { engine = so.engine; made = so.made; low = λ at apart. ap (λ lines. told_line lines at) same ∙ so.low at apart }

    cut_so : (chip : Chip) (now new : Device) → new.lines ≡ now.lines → IsUnnamed chip now → Stop (chip, Fail.Cut) new
    cut_so chip now new same so = past_cut chip new (unnamed_past chip new (still chip now new same so))

    -- ---- lines sealed anew since

    -- so many of register n's page
    pub record IsAnew (n lines : ℕ) (chip : Chip) (now : Device) : Type 0 where
      pub unnamed : IsUnnamed chip now
      pub marks : length chip.ledger.marks ≡ length first.ledger.marks + lines
      pub writes : RisesBy (2 * lines) mid.writes now.writes
      pub latches : now.latches ≡ risen_times (2 * lines) start.latches
      pub regs : now.regs ≡ with_resealed n lines start.regs

    -- where there are some, that page has to be finished, and isn't
    record IsNext (n lines : ℕ) : Type 0 where
      found : 0 < lines → register_to_finish start.regs.progress.items page ≡ Some n
      fewer : 0 < lines → lines < length (not_done (register_at start.regs n))

    none_anew : (n : ℕ) (chip : Chip) (now : Device) → IsAnew 0 0 chip now → IsAnew n 0 chip now
    none_anew n chip now so =
        record { unnamed = so.unnamed; marks = so.marks; writes = so.writes; latches = so.latches; regs = so.regs }

    none_next : (n : ℕ) → IsNext n 0
    none_next n = record { found = λ some. absurd (omega (arith, some)); fewer = λ some. absurd (omega (arith, some)) }

    anew_begins : IsAnew 0 0 c mid
    anew_begins =
        record {
          unnamed = begins;
          marks = let none : length first.ledger.marks ≡ length first.ledger.marks + 0 = omega arith in ap (λ (marks : List Mark). length marks) ready.marks ∙ none;
          writes = record { never_falls = omega arith; exact = λ below. omega arith };
          latches = ready.levels.latches;
          regs = ready.levels.regs;
        }

    module _ (n lines : ℕ) (its : IsNext n lines) where
      unnamed_stop : (chip : Chip) (now : Device) → IsAnew n lines chip now → IsStoppedUnnamed page first chip start now
      unnamed_stop chip now so =
          record {
            cache =
                subst (λ (e : ChipState). HasFetchedSets g first.ledger.truth page all (cache_of first.engine) (cache_of e))
                (sym so.unnamed.engine) ready.levels.cache;
            metadata = λ at high.
                so.unnamed.low at (λ below. absurd (omega (arith, high, below))) ∙ ap (λ lines. told_line lines at) ready.levels.lines;
            unnamed = names_nothing chip now so.unnamed;
            resealed =
                record {
                  lines = lines;
                  register = n;
                  found = its.found;
                  fewer = its.fewer;
                  marks = so.marks;
                  latches = so.latches;
                  regs = so.regs;
                };
            writes =
                RisesBy-then (length (spilled g first.engine.cache page all)) (2 * lines) start.writes mid.writes now.writes ready.levels.writes
                so.writes;
          }

      -- a line unsealed
      unsealed_so : (at : ℕ) (ctr : Ctr) (chip : Chip) (now : Device) → IsAnew n lines chip now
          → Leaves (unseal_plan setup at ctr chip) (λ end d. IsAnew n lines end.0 d) AtFault now
      unsealed_so =
          unseal_leaves setup (IsAnew n lines) AtFault
          (λ chip at line now new was so. record {
            unnamed = still chip now new was.lines so.unnamed;
            marks = so.marks;
            writes = subst (λ k. RisesBy (2 * lines) mid.writes k) (sym was.writes) so.writes;
            latches = was.latches ∙ so.latches;
            regs = was.regs ∙ so.regs;
          })
          (λ chip tags now so. other (with_tags chip tags) now so.unnamed.engine so.unnamed.made so.marks so)
          (λ chip now new was off so. cut_so chip now new was.lines so.unnamed)
          (λ chip at now so. (unnamed_stop chip now so, unnamed_due chip now so.unnamed))
          (λ chip exhibit now so.
          let left = with_ledger chip (shown chip.ledger exhibit) in
          let same = other left now so.unnamed.engine so.unnamed.made so.marks so in
          (inr (unnamed_stop left now same), unnamed_due left now same.unnamed))
        where
          other : {before : Chip} (chip : Chip) (now : Device) → chip.engine ≡ c.engine → IsFront first.ledger.marks chip.ledger.marks
              → length chip.ledger.marks ≡ length first.ledger.marks + lines → IsAnew n lines before now → IsAnew n lines chip now
          other chip now engine made marks so =
              record {
                unnamed = record { engine = engine; made = made; low = so.unnamed.low };
                marks = marks;
                writes = so.writes;
                latches = so.latches;
                regs = so.regs;
              }

    pub plain_so : (regs : Regs) → Leaves (plain_plan setup regs w c) (λ end d. IsAnew 0 0 end.0 d) AtFault mid
    unfolding Leaves plain_plan
    plain_so regs =
        leaves_if (λ end d. IsAnew 0 0 end.0 d) AtFault (w.len == 64) (done (c, w.line)) _ mid (λ line. anew_begins)
        (λ part. leaves_mapped _ _ (λ end d. IsAnew 0 0 end.0 d) AtFault _ mid
        (unsealed_so 0 0 (none_next 0) w.at (its_counter setup regs w.at c) c mid anew_begins))

    -- ---- a page finished

    -- the registers that the plan has, beside those of the board
    abbrev AreSame : ℕ → ℕ → Regs → Type 0
    AreSame n lines regs = without_group regs ≡ without_group (with_resealed n lines start.regs)

    module _ (n lines : ℕ) where
      abbrev LedgerAnew : Chip → LedgerState → Device → Type 0
      LedgerAnew chip ledger now = IsAnew n (suc lines) (chip_with chip.engine ledger (risen chip.tags) chip.digests) now

      abbrev LedgerSo : Chip → LedgerState → Device → Type 0
      LedgerSo chip ledger now = IsUnnamed (chip_with chip.engine ledger (risen chip.tags) chip.digests) now

      anew_so : (left : ℕ) (regs : Regs) (before : Chip × Unsealed) (now : Device) → AreSame n lines regs
          → (held_of (register_at regs n)).at < layout.data_lines g → IsAnew n lines before.0 now
          → Leaves (seal_anew_plan setup (held_of (register_at regs n)) left regs before) (λ end d. IsAnew n (suc lines) end.0 d) AtFault now
      unfolding commit_plan
      anew_so left regs before now same low so =
          let held = held_of (register_at regs n) in
          let next = next_seal_of f held.at held.next before.1.plain before.1.tag_line in
          let mark : Mark = Seal next.at next.ctr next.cipher next.tag in
          let made = front_more first.ledger.marks before.0.ledger.marks mark so.unnamed.made in
          let after = with_seal before.0.ledger next in
          leaves_mapped _ _ (λ end d. IsAnew n (suc lines) end.0 d) AtFault _ now
          (leaves_mapped _ _ (λ end d. LedgerAnew before.0 end.0 d)
          (λ end d. AtFault (chip_with before.0.engine end.0 (risen before.0.tags) before.0.digests, AtLine.Cut) d) _ now
          (leaves_more (λ end d. LedgerAnew before.0 end.0 d × (end.1 ≡ without_group (armed g next regs))) (λ end d. LedgerAnew before.0 end.0 d)
          (λ left d. LedgerSo before.0 left.0 d)
          (λ left d. AtFault (chip_with before.0.engine left.0 (risen before.0.tags) before.0.digests, AtLine.Cut) d) _ now
          (λ end d it. it.0)
          (λ left d it. let chip = chip_with before.0.engine left.0 (risen before.0.tags) before.0.digests in past_cut chip d (unnamed_past chip d it))
          (group_leaves (LedgerAnew before.0) (LedgerSo before.0) (armed g next regs) before.0.ledger after now
          (λ new was. record { engine = so.unnamed.engine; made = so.unnamed.made; low = (still before.0 now new was.lines so.unnamed).low })
          (λ later was. leaves_more (λ t d. KeepsBeside (Low g) mid d × HasEnded (armed g next regs) later d) (λ t d. LedgerAnew before.0 after d)
          (λ left d. KeepsBeside (Low g) mid d × ⊤) (λ left d. LedgerSo before.0 after d) (finish_plan (armed g next regs)) later
          (λ t d it. record {
            unnamed = record { engine = so.unnamed.engine; made = made; low = it.0 };
            marks = let one = length-append before.0.ledger.marks (mark ∷ []) in let so_far = so.marks in omega (arith, one, so_far);
            writes =
                let more : 2 * lines + 2 ≡ 2 * suc lines = omega arith in
                subst (λ k. RisesBy k mid.writes d.writes) more
                (RisesBy-then (2 * lines) 2 mid.writes now.writes d.writes so.writes
                (subst (λ k. RisesBy 2 k d.writes) was.writes it.1.writes));
            latches =
                let more : suc (suc (2 * lines)) ≡ 2 * suc lines = omega arith in
                it.1.latches ∙ ap risen (was.latches.is_risen ∙ ap risen so.latches) ∙ ap (λ k. risen_times k start.latches) more;
            regs = it.1.regs ∙ ap (with_next_done n) same;
          })
          (λ left d it. record { engine = so.unnamed.engine; made = made; low = it.0 })
          (leaves_both (λ t d. KeepsBeside (Low g) mid d) (λ t d. HasEnded (armed g next regs) later d) (λ left d. KeepsBeside (Low g) mid d)
          (λ left d. ⊤) (finish_plan (armed g next regs)) later
          (keeps_beside (Low g) mid (finish_plan (armed g next regs)) later (low_finish g (armed g next regs) next low refl)
          (still before.0 now later was.lines so.unnamed).low)
          (finish_end (armed g next regs) later))))))

    -- the registers' pages are of the geometry, and the number is as it was
    record IsFinishing (n lines : ℕ) (at : Chip × Regs) (now : Device) : Type 0 where
      anew : IsAnew n lines at.0 now
      pages : ArePages g at.1.progress.items
      loss : at.1.loss ≡ start.regs.loss
      same : AreSame n lines at.1

    -- the page is finished, where one has to be
    pub record IsFinished (at : Chip × Regs) (now : Device) : Type 0 where
      pub unnamed : IsUnnamed at.0 now
      pub loss : at.1.loss ≡ start.regs.loss

    some_pages : 0 < layout.pages g
    some_pages = omega (arith, inside)

    module _ (n lines : ℕ) (its : IsNext n lines) (at : Chip × Regs) (now : Device) (so : IsFinishing n lines at now) where
      reseal_so : Leaves (reseal_plan setup n at.1 at.0) (λ end d. IsAnew n (suc lines) end.0 d) AtFault now
      unfolding reseal_plan
      reseal_so =
          let held = held_of (register_at at.1 n) in
          let left = length (not_done (register_at at.1 n)) in
          leaves_bind (λ end d. IsAnew n (suc lines) end.0 d) AtFault (unseal_plan setup held.at held.now at.0) (seal_anew_plan setup held left at.1) now
          (leaves_more (λ end d. IsAnew n lines end.0 d)
          (λ end d. Leaves (seal_anew_plan setup held left at.1 end) (λ end d. IsAnew n (suc lines) end.0 d) AtFault d)
          AtFault AtFault (unseal_plan setup held.at held.now at.0) now
          (λ before d anew. anew_so n lines left at.1 before d so.same (held_low g some_pages at.1 n so.pages) anew) (λ left d it. it)
          (unsealed_so n lines its held.at held.now at.0 now so.anew))

      turn_so : Leaves (finish_turn setup n 0 at) (IsFinishing n (lines + 1)) AtFault now
      turn_so =
          let more : suc lines ≡ lines + 1 = omega arith in
          subst (λ k. Leaves (finish_turn setup n 0 at) (IsFinishing n k) AtFault now) more
          (leaves_mapped _ _ (IsFinishing n (suc lines)) AtFault (reseal_plan setup n at.1 at.0) now
          (leaves_more (λ end d. IsAnew n (suc lines) end.0 d) (λ end d. IsFinishing n (suc lines) (end.0, with_next_done n at.1) d) AtFault AtFault
          (reseal_plan setup n at.1 at.0) now
          (λ end d anew. record {
            anew = anew;
            pages = pages_done g at.1.progress.items (held_of (register_at at.1 n)).at so.pages;
            loss = so.loss;
            same = ap (with_next_done n) so.same;
          }) (λ left d it. it) reseal_so))

    module _ (chip : Chip) (now : Device) (pages : ArePages g start.regs.progress.items) (so : IsAnew 0 0 chip now) where
      found_so : (found : Option ℕ) → register_to_finish start.regs.progress.items page ≡ found
          → Leaves (finish_found_plan setup start.regs chip found) IsFinished AtFault now
      unfolding Leaves finish_found_plan finish_page_plan
      found_so None is = record { unnamed = so.unnamed; loss = refl }
      found_so (Some n) is =
          let count = length (not_done (register_at start.regs n)) in
          leaves_more (IsFinishing n count) IsFinished AtFault AtFault _ now (λ at d its. record { unnamed = its.anew.unnamed; loss = its.loss })
          (λ left d it. it)
          (leaves_repeated (IsFinishing n) AtFault (finish_turn setup n) count 0 count (chip, start.regs) now (omega arith)
          (λ i at d low its. turn_so n i (record { found = λ some. is; fewer = λ some. low }) at d its)
          (record { anew = none_anew n chip now so; pages = pages; loss = refl; same = refl }))

      pub finish_so : (overflows : Bool) → Leaves (finish_for_plan setup page overflows start.regs chip) IsFinished AtFault now
      unfolding Leaves finish_for_plan
      finish_so overflows =
          leaves_if IsFinished AtFault overflows (finish_found_plan setup start.regs chip (register_to_finish start.regs.progress.items page))
          (done (chip, start.regs)) now (λ over. found_so (register_to_finish start.regs.progress.items page) refl)
          (λ same. record { unnamed = so.unnamed; loss = refl })
