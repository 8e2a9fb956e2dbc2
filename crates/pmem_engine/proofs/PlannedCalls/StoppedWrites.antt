-- What a write comes to, wherever its plan ends: what a refusal and a cut leave, and when its page's counter block is written.
use Rattle.std.proofs.Common.{ℕ, ◌≡◌, ◌<◌, ◌≤◌, ◌+◌, ◌-◌, ◌^◌, ◌%◌, Bool, true, false, List, length, Result, Ok, Err, refl, sym, ap, subst, ◌∙◌, arith}
use Rattle.std.specs.Prelude.{IsOk, if◌then◌else◌, nat_lt, ◌==◌}
use Rattle.std.proofs.lemmas.Bool.{true≢false, eq-eqb, eqb-true, eqb-false, and_from}
use Rattle.pmem_base.specs.declared.lines.Line.{Line}
use Rattle.pmem_base.specs.declared.lines.Ctr.{Ctr}
use Rattle.pmem_base.specs.declared.commands.Posted.{Posted}
use Rattle.pmem_base.specs.declared.registers.Regs.{Regs}
use Rattle.pmem_base.specs.declared.answers.Mark.{Mark}
use Rattle.pmem_base.specs.declared.answers.Mark.TheVariants.{Begin, Seal}
use Rattle.pmem_base.specs.Layout as layout
use Rattle.pmem_base.specs.Layout.{page_of, index_in_page}
use Rattle.pmem_base.specs.Counts.{risen}
use Rattle.pmem_base.specs.Registers.{IsValidRegs, without_group}
use Rattle.pmem_base.specs.Shape.{Shape}
use Rattle.bonsai_tree.specs.Positions.{counter_position}
use Rattle.bonsai_tree.proofs.PathPositions.{path_of-block}
use Rattle.board.specs.Device.{Device}
use Rattle.call_plan.specs.Plans.{done, lifted}
use Rattle.call_plan.specs.Following.{Follows}
use Rattle.call_plan.specs.Bounds.{MakesOnly, writes_within, Leaves, AtEnd}
use Rattle.call_plan.proofs.Leaves.{leaves, leaves_bind, leaves_mapped, leaves_more, leaves_if}
use Rattle.commit_regs.specs.Plans.{finish_plan, group_plan}
use Rattle.split_counters.specs.declared.Block.{Block}
use Rattle.split_counters.specs.Blocks.{packed, minor_of, next_block}
use Rattle.page_reencrypt.specs.Registers.{begun}
use Rattle.meta_path.specs.Blocks.{cached_line}
use Rattle.meta_path.specs.Plans.{naming_plan}
use Rattle.meta_path.proofs.PathFacts.{path_at-lt}
use Rattle.plain_model.specs.Bounds.{path_length, begun_lines}
use Rattle.suite.specs.Formulas.{Formulas}
use Rattle.suite.specs.Setup.{Setup}
use Rattle.meta_path.specs.Work.{told_line}
use Rattle.pmem_engine.specs.declared.fault.Fault.{Fault}
use Rattle.pmem_engine.specs.declared.fault.Fault.TheVariants as Fail
use Rattle.pmem_engine.specs.declared.fault.LineFault.{LineFault}
use Rattle.pmem_engine.specs.Engine.{ChipState}
use Rattle.pmem_engine.specs.Flushed.{cache_of}
use Rattle.pmem_engine.specs.CallFacts.{grouped_lines}
use Rattle.pmem_engine.specs.Inner.{cached_block}
use Rattle.pmem_engine.specs.Writing.{overflow_of}
use Rattle.pmem_engine.specs.Outcomes.{fault_of_cut, fault_of_line, fault_of_path}
use Rattle.pmem_engine.specs.KeptLaws.{left_at}
use Rattle.pmem_engine.specs.declared.resealing.NextSeal.{NextSeal}
use Rattle.pmem_engine.specs.Committing.{next_seal_of}
use Rattle.pmem_engine.specs.Sealing.{next_counter_of, raised_block}
use Rattle.pmem_engine.specs.Plans.{Chip, chip_with, with_engine, with_mirror, with_tags, with_fetched, fetch_path_plan, name_plan}
use Rattle.pmem_engine.specs.SealPlans.{next_lines, next_root, with_path_digests, with_marked_path, seal_armed, commit_seal_plan, seal_next_plan, begin_armed, begin_page_plan, begin_for_plan}
use Rattle.pmem_engine.specs.WritePlans.{overflow_end, overflow_plan, write_plan}
use Rattle.pmem_engine.specs.FetchLaws.{HasWholeCache, StopsAsTold, setup_of_chip, is_persisting, IsBlockWrittenWhereDue, StoppedWritesAreTold, BlocksAreWrittenWhereDue}
use Rattle.meta_path.proofs.FetchedLevels.{state, fetch_so}
use Rattle.pmem_engine.proofs.PlannedCalls.FetchedReads.{Comes, Ends, fetch_start}
use Rattle.pmem_engine.proofs.PlannedCalls.PostedPlans.{to_plain, to_overflow}
use Rattle.pmem_engine.proofs.Laws.PolicyBounds.{seal_group_none, grouped_undue}
use Rattle.pmem_engine.proofs.Seals.BegunBlocks.{length-path_with}
use Rattle.pmem_engine.proofs.PlannedCalls.TurnLines.{of_all}
use Rattle.pmem_engine.proofs.PlannedCalls.StoppedFetches as fetches
use Rattle.pmem_engine.proofs.PlannedCalls.StoppedFinishes.{front_more}
use Rattle.pmem_engine.proofs.PlannedCalls.StoppedFinishes as finishes
use Rattle.pmem_engine.proofs.PlannedCalls.LowWrites.{group_leaves, none_of, all_pages, KeepsBeside, keeps_beside, Low, low_finish, High, naming_high, ArePages, stored_kept}

module _ (f : Formulas) (w : Posted) (first : Chip) (start : Device) (whole : HasWholeCache first.engine)
    (inside : page_of w.at < layout.pages first.engine.shape) where
  abbrev g : Shape
  g = first.engine.shape

  abbrev setup : Setup
  setup = setup_of_chip first f

  abbrev page : ℕ
  page = page_of w.at

  abbrev all : ℕ
  all = g.levels + 1

  -- the place of the page's counter block
  abbrev block_at : ℕ
  block_at = layout.meta_line g (counter_position g page)

  abbrev Due : Chip → Device → Type 0
  Due chip now = fetches.Due f w first start whole inside chip now

  abbrev Stop : Chip × Fault → Device → Type 0
  Stop left now = fetches.Stop f w first start whole inside left now

  abbrev IsReady : Chip → Device → Type 0
  IsReady chip now = fetches.IsReady f w first start whole inside chip now

  its_line : w.at < layout.data_lines g
  its_line = omega (arith, inside)

  -- ---- after the fetch

  module _ (c : Chip) (mid : Device) (ready : IsReady c mid) where
    abbrev IsUnnamed : Chip → Device → Type 0
    IsUnnamed chip now = finishes.IsUnnamed f w first start whole inside c mid ready chip now

    block_so : (now : Device) → KeepsBeside (Low g) mid now → told_line now.lines block_at ≡ told_line start.lines block_at
    block_so = finishes.block_so f w first start whole inside c mid ready

    -- ---- the counter isn't used up

    module _ (unspent : IsOk (overflow_of (cached_block g c.engine page) page (index_in_page w.at))) where
      abbrev IsPast : Chip → Device → Type 0
      IsPast chip now = finishes.IsPast f w first start whole inside c mid ready unspent chip now

      past_cut : (chip : Chip) (now : Device) → IsPast chip now → Stop (chip, Fail.Cut) now
      past_cut = finishes.past_cut f w first start whole inside c mid ready unspent

      abbrev AtFault : Chip × LineFault → Device → Type 0
      AtFault left now = Stop (left.0, fault_of_line left.1) now

      -- ---- the path named

      name_so : (chip : Chip) (now : Device) → IsUnnamed chip now
          → Leaves (lifted (with_engine chip) fault_of_cut (name_plan page chip.engine)) (λ end d. IsPast end.0 d) Stop now
      unfolding name_plan
      name_so chip now so =
          leaves_mapped _ _ (λ end d. IsPast end.0 d) Stop _ now
          (leaves_mapped _ _ (λ end d. IsPast (with_engine chip end.0) d) (λ left d. Stop (with_engine chip left.0, fault_of_cut left.1) d) _ now
          (leaves_more (λ end d. KeepsBeside (High g) now d) (λ end d. IsPast (with_engine chip (with_mirror chip.engine end.0)) d)
          (λ left d. KeepsBeside (High g) now d) (λ left d. Stop (with_engine chip (with_mirror chip.engine left.0), Fail.Cut) d) _ now
          (λ end d kept. named end.0 d kept) (λ left d kept. past_cut (with_engine chip (with_mirror chip.engine left.0)) d (named left.0 d kept))
          (keeps_beside (High g) now (naming_plan chip.engine.shape chip.engine.cache page chip.engine.mirror) now
          (subst (λ (s : Shape). MakesOnly (writes_within (High g)) (naming_plan s chip.engine.cache page chip.engine.mirror))
          (sym (ap (λ (e : ChipState). e.shape) so.engine ∙ ready.shape)) (naming_high g chip.engine.cache page chip.engine.mirror))
          (λ at apart. refl))))
        where
          not_high : layout.shadow_line g 0 ≤ block_at → ⊥
          not_high high = absurd (omega (arith, high, path_at-lt g page g.levels inside (omega arith), path_of-block g page))

          named : (mirror : List Line) (d : Device) → KeepsBeside (High g) now d → IsPast (with_engine chip (with_mirror chip.engine mirror)) d
          named mirror d kept =
              record {
                kept = (finishes.unnamed_past f w first start whole inside c mid ready unspent chip now so).kept;
                due = record { made = so.made; kept = λ lazy none. kept block_at (λ high. not_high high) ∙ block_so now so.low };
              }

      -- ---- the page begun, and the line sealed

      -- the path's new lines are stored, and a mark is made
      marked_so : (mark : Mark) (grouped : ℕ) (lines : List (ℕ × Line)) (chip : Chip) (now d : Device) → IsPast chip now
          → (g.persist ≡ 0 → is_persisting start.regs.loss w.at mark ≡ false → told_line d.lines block_at ≡ told_line now.lines block_at)
          → IsPast (with_marked_path g mark page grouped lines chip) d
      unfolding front_more
      marked_so mark grouped lines chip now d so same =
          record {
            kept = λ bank set. stored_kept g page grouped lines (path_length g) (cache_of chip.engine) bank set ∙ so.kept bank set;
            due =
                record {
                  made = front_more first.ledger.marks chip.ledger.marks mark so.due.made;
                  kept = λ lazy none.
                      let parts = none_of start.regs.loss w.at so.due.made.later mark none in
                      same lazy parts.1 ∙ so.due.kept lazy parts.0;
                };
          }

      past_still : (chip : Chip) (tags digests : ℕ) (now new : Device) → new.lines ≡ now.lines → IsPast chip now
          → IsPast (chip_with chip.engine chip.ledger tags digests) new
      past_still chip tags digests now new same so =
          record {
            kept = so.kept;
            due = record { made = so.due.made; kept = λ lazy none. ap (λ lines. told_line lines block_at) same ∙ so.due.kept lazy none };
          }

      begin_so : (overflows : Bool) (regs : Regs) (chip : Chip) (now : Device) → regs.loss ≡ start.regs.loss → IsPast chip now
          → Leaves (begin_for_plan setup page overflows regs chip) (λ end d. IsPast end.0 d × (end.1.loss ≡ start.regs.loss)) Stop now
      unfolding Leaves begin_for_plan begin_page_plan
      begin_so overflows regs chip now loss so =
          let counted : Chip = with_path_digests g chip in
          let block = next_block (cached_block g chip.engine page) in
          let lines = next_lines setup chip.engine page block in
          let armed_regs : Regs = begin_armed g (begun page (packed (cached_block g chip.engine page))) lines (next_root setup chip.engine page block) regs in
          let marked = with_marked_path g (Begin page) page (begun_lines g) lines counted in
          leaves_if (λ end d. IsPast end.0 d × (end.1.loss ≡ start.regs.loss)) Stop overflows _ (done (chip, regs)) now
          (λ over. leaves_mapped _ _ (λ end d. IsPast end.0 d × (end.1.loss ≡ start.regs.loss)) Stop _ now
          (leaves_more (λ end d. IsPast end.0 d × (end.1 ≡ without_group armed_regs)) (λ end d. IsPast end.0 d × (end.1.loss ≡ start.regs.loss))
          (λ left d. IsPast left.0 d) (λ left d. Stop (left.0, Fail.Cut) d) (group_plan armed_regs counted marked) now
          (λ end d it. (it.0, ap (λ (r : Regs). r.loss) it.1 ∙ loss)) (λ left d it. past_cut left.0 d it)
          (group_leaves IsPast IsPast armed_regs counted marked now
          (λ new was. past_still chip chip.tags counted.digests now new was.lines so)
          (λ later was. of_all (λ t d. IsPast marked d) (λ left d. IsPast marked d)
          (λ t d. marked_so (Begin page) (begun_lines g) lines counted now d (past_still chip chip.tags counted.digests now now refl so)
          (λ lazy no. absurd (true≢false no)))
          (λ left d. marked_so (Begin page) (begun_lines g) lines counted now d (past_still chip chip.tags counted.digests now now refl so)
          (λ lazy no. absurd (true≢false no)))
          (finish_plan armed_regs) later))))
          (λ same. (so, loss))

      seal_group_so : (next : NextSeal) (grouped : ℕ) (lines : List (ℕ × Line)) (root : List ℕ) (regs : Regs) (chip : Chip) (now : Device)
          → next.at ≡ w.at → grouped ≡ grouped_lines g start.regs.loss next.ctr.minor → length lines ≡ path_length g → IsPast chip now
          → Leaves (commit_seal_plan g next grouped lines root regs chip) (λ end d. IsPast end.0 d) (λ left d. IsPast left.0 d) now
      seal_group_so next grouped lines root regs chip now at is long so =
          leaves_more (λ end d. IsPast end.0 d × (end.1 ≡ without_group armed)) (λ end d. IsPast end.0 d)
          (λ left d. IsPast left.0 d) (λ left d. IsPast left.0 d) _ now (λ end d it. it.0) (λ left d it. it)
          (group_leaves IsPast IsPast armed chip marked now
          (λ new was. past_still chip chip.tags chip.digests now new was.lines so)
          (λ later was. by (g.persist == 0) (next.ctr.minor % start.regs.loss == 0) refl refl later was.lines))
        where
          mark : Mark
          mark = Seal next.at next.ctr next.cipher next.tag

          armed : Regs
          armed = seal_armed g next grouped lines root regs

          marked : Chip
          marked = with_marked_path g mark (page_of next.at) grouped lines chip

          on_page : (d : Device) → (g.persist ≡ 0 → is_persisting start.regs.loss w.at mark ≡ false
              → told_line d.lines block_at ≡ told_line now.lines block_at) → IsPast marked d
          on_page d same =
              subst (λ a. IsPast (with_marked_path g mark (page_of a) grouped lines chip) d) (sym at) (marked_so mark grouped lines chip now d so same)

          persists : (next.ctr.minor % start.regs.loss == 0) ≡ true → is_persisting start.regs.loss w.at mark ≡ true
          persists divides = and_from (next.at == w.at) (next.ctr.minor % start.regs.loss == 0) (eq-eqb next.at w.at at) divides

          by : (lazy due : Bool) → (g.persist == 0) ≡ lazy → (next.ctr.minor % start.regs.loss == 0) ≡ due → (later : Device)
              → later.lines ≡ now.lines → Leaves (finish_plan armed) (λ t d. IsPast marked d) (λ left d. IsPast marked d) later
          by false due strict divides later same =
              of_all _ _ (λ t d. on_page d (λ none. absurd (eqb-false g.persist 0 strict none)))
              (λ left d. on_page d (λ none. absurd (eqb-false g.persist 0 strict none))) (finish_plan armed) later
          by true true lazy divides later same =
              of_all _ _ (λ t d. on_page d (λ none no. absurd (true≢false (sym (persists divides) ∙ no))))
              (λ left d. on_page d (λ none no. absurd (true≢false (sym (persists divides) ∙ no)))) (finish_plan armed) later
          by true false lazy divides later same =
              leaves_more (λ t d. KeepsBeside (Low g) now d) (λ t d. IsPast marked d)
              (λ left d. KeepsBeside (Low g) now d) (λ left d. IsPast marked d) (finish_plan armed) later
              (λ t d kept. on_page d (λ none no. kept block_at (λ below. absurd (omega (arith, below)))))
              (λ left d kept. on_page d (λ none no. kept block_at (λ below. absurd (omega (arith, below)))))
              (keeps_beside (Low g) now (finish_plan armed) later
              (low_finish g armed next (subst (λ a. a < layout.data_lines g) (sym at) its_line)
              (seal_group_none g next grouped lines long
              (is ∙ grouped_undue g start.regs.loss next.ctr.minor (eqb-true g.persist 0 lazy) divides)))
              (λ x apart. ap (λ lines. told_line lines x) same))

      seal_so : (plain : Line) (regs : Regs) (chip : Chip) (now : Device) → regs.loss ≡ start.regs.loss → IsPast chip now
          → Leaves (lifted (λ now. now) fault_of_cut (seal_next_plan setup w.at plain regs chip)) (λ end d. IsPast end.0 d) Stop now
      unfolding Leaves seal_next_plan
      seal_so plain regs chip now loss so =
          let counted : Chip = with_path_digests g chip in
          let ctr = next_counter_of g chip.engine w.at in
          let block = raised_block g chip.engine w.at in
          leaves_mapped _ _ (λ end d. IsPast end.0 d) Stop _ now (
            λ new was off. past_cut counted new (past_still chip chip.tags counted.digests now new was.lines so),
            λ tags mid was its_tags.
                leaves_mapped _ _ (λ end d. IsPast end.0 d) (λ left d. Stop (left.0, fault_of_cut left.1) d) _ mid
                (leaves_more (λ end d. IsPast end.0 d) (λ end d. IsPast end.0 d) (λ left d. IsPast left.0 d) (λ left d. Stop (left.0, Fail.Cut) d) _ mid
                (λ end d it. it) (λ left d it. past_cut left.0 d it)
                (seal_group_so (next_seal_of f w.at ctr plain tags) (grouped_lines g regs.loss ctr.minor) (next_lines setup chip.engine page block)
                (next_root setup chip.engine page block) regs (with_tags counted (risen counted.tags)) mid refl
                (ap (λ n. grouped_lines g n ctr.minor) loss) (length-path_with g f (cached_line g chip.engine.cache) page (packed block)) (past_still chip (risen counted.tags) counted.digests now mid was.lines so))),
          )

      -- ---- from the counter on

      rest_so : (overflows : Bool) → ArePages g start.regs.progress.items → Leaves (to_plain setup start.regs w (c, tt) overflows) (λ end d. Due end.0 d) Stop mid
      rest_so overflows pages =
          leaves_bind _ Stop _ _ mid
          (leaves_mapped _ _ _ Stop _ mid
          (leaves_more (λ made d. finishes.IsAnew f w first start whole inside c mid ready unspent 0 0 made.0 d) _ AtFault AtFault _ mid
          (λ made d anew.
          leaves_bind _ Stop _ _ d
          (leaves_mapped _ _ _ Stop _ d
          (leaves_more (finishes.IsFinished f w first start whole inside c mid ready unspent) _ AtFault AtFault _ d (λ finished d2 its.
          leaves_bind _ Stop _ _ d2
          (leaves_more (λ named d3. IsPast named.0 d3) _ Stop Stop _ d2 (λ named d3 past.
          leaves_bind _ Stop _ _ d3
          (leaves_more (λ begun d4. IsPast begun.0 d4 × (begun.1.loss ≡ start.regs.loss)) _ Stop Stop _ d3 (λ begun d4 it.
          leaves_more (λ end d5. IsPast end.0 d5) (λ end d5. Due end.0 d5) Stop Stop _ d4 (λ end d5 so. so.due) (λ left d5 so. so)
          (seal_so made.1 begun.1 begun.0 d4 it.1 it.0))
          (λ left d4 so. so) (begin_so overflows finished.1 named.0 d3 its.loss past)))
          (λ left d3 so. so) (name_so finished.0 d2 its.unnamed)))
          (λ left d2 so. so) (finishes.finish_so f w first start whole inside c mid ready unspent made.0 d pages anew overflows))))
          (λ left d so. so) (finishes.plain_so f w first start whole inside c mid ready unspent start.regs)))

    -- ---- the counter

    overflow_so : ArePages g start.regs.progress.items → Leaves (to_overflow setup start.regs w (c, tt)) (λ end d. Due end.0 d) Stop mid
    unfolding Leaves overflow_plan
    overflow_so pages =
        leaves_bind (λ end d. Due end.0 d) Stop (overflow_plan setup w.at c) (to_plain setup start.regs w (c, tt)) mid
        (by (nat_lt (minor_of block (index_in_page w.at)) 127) (block.major == 2 ^ 64 - 1) refl refl)
      where
        block : Block
        block = cached_block g c.engine page

        by : (low last : Bool) → nat_lt (minor_of block (index_in_page w.at)) 127 ≡ low → (block.major == 2 ^ 64 - 1) ≡ last
            → Leaves (overflow_end c (if low then Ok false else if last then Err (Fail.Spent page) else Ok true))
            (λ overflows d. Leaves (to_plain setup start.regs w (c, tt) overflows) (λ end d. Due end.0 d) Stop d) Stop mid
        by true last low its =
            rest_so (subst (λ t. IsOk (if t then Ok false else if block.major == 2 ^ 64 - 1 then Err (Fail.Spent page) else Ok true)) (sym low) refl) false pages
        by false true low its = finishes.spent_so f w first start whole inside c mid ready
        by false false low its =
            rest_so (subst (λ t. IsOk (if t then Ok false else if block.major == 2 ^ 64 - 1 then Err (Fail.Spent page) else Ok true)) (sym low)
            (subst (λ t. IsOk (if t then Err (Fail.Spent page) else Ok true)) (sym its) refl)) true pages

  -- ---- the whole

  write_so : ArePages g start.regs.progress.items → Leaves (write_plan setup start.regs w first) (λ end d. Due end.0 d) Stop start
  unfolding write_plan fetch_path_plan
  write_so pages =
      leaves_bind (λ end d. Due end.0 d) Stop _ (to_overflow setup start.regs w) start
      (leaves_mapped _ _ _ Stop _ start
      (leaves_mapped _ _ _ (λ left d. Stop (left.0, fault_of_path left.1) d) _ start
      (leaves_more (λ end d. Comes f page first start whole inside all end.0 d) _ (λ left d. Ends f page first start whole inside left d)
      (λ left d. Stop (with_fetched first left.0, fault_of_path left.1) d) _ start
      (λ end d come. overflow_so (with_fetched first end.0) d (fetches.is_ready f w first start whole inside end.0 d come) pages)
      (λ left d it. fetches.isnt_so f w first start whole inside left.0 left.1 d it)
      (fetch_so g f page (state (cache_of first.engine) start first.digests) first.ledger (fetch_start f page first start whole inside)))))

-- ---- the laws

-- both at once
ends_so : (f : Formulas) (w : Posted) (chip : Chip) (old new : Device) (end : Result (Chip × Ctr) (Chip × Fault)) → HasWholeCache chip.engine
    → IsValidRegs chip.engine.shape old.regs → page_of w.at < layout.pages chip.engine.shape
    → Follows (write_plan (setup_of_chip chip f) old.regs w chip) old new end
    → StopsAsTold w chip old new end × IsBlockWrittenWhereDue w old.regs.loss chip (left_at end) old new
ends_so f w chip old new end whole valid inside it =
    at_end end (leaves (λ end d. Due f w chip old whole inside end.0 d) (Stop f w chip old whole inside)
    (write_so f w chip old whole inside (all_pages chip.engine.shape old.regs valid)) it)
  where
    at_end : (end : Result (Chip × Ctr) (Chip × Fault)) → AtEnd (λ end d. Due f w chip old whole inside end.0 d) (Stop f w chip old whole inside) end new
        → StopsAsTold w chip old new end × IsBlockWrittenWhereDue w old.regs.loss chip (left_at end) old new
    at_end (Ok t) so = (tt, so)
    at_end (Err left) so = so

pub stopped_write : StoppedWritesAreTold
stopped_write f w chip old new end whole valid inside it = (ends_so f w chip old new end whole valid inside it).0

pub block_due : BlocksAreWrittenWhereDue
block_due f w chip old new end whole valid inside it = (ends_so f w chip old new end whole valid inside it).1
