-- The ends of a seal under a line's next counter and of a page's begin, as their plans have them.
use Rattle.std.proofs.Common.{ℕ, ◌≡◌, Bool, true, false, List, Result, Ok, Err, sym, ap, ap₂, subst, ◌∙◌}
use Rattle.std.specs.Prelude.{if◌then◌else◌}
use Rattle.pmem_base.specs.declared.faults.Cut.{Cut}
use Rattle.pmem_base.specs.declared.lines.Line.{Line}
use Rattle.pmem_base.specs.declared.lines.Ctr.{Ctr}
use Rattle.pmem_base.specs.declared.registers.Progress.{Progress}
use Rattle.pmem_base.specs.declared.registers.Regs.{Regs}
use Rattle.pmem_base.specs.Counts.{risen}
use Rattle.pmem_base.specs.Layout as layout
use Rattle.pmem_base.specs.Layout.{page_of}
use Rattle.pmem_base.specs.Lines.{IsLine}
use Rattle.board.specs.Device.{Device}
use Rattle.board.specs.Steps.{HasRead, WasCut}
use Rattle.call_plan.specs.Plans.{Plan, done, mapped_end, the_cut}
use Rattle.call_plan.specs.Following.{Follows}
use Rattle.call_plan.proofs.Steps.{is_done, read_then, read_cut}
use Rattle.call_plan.proofs.Bind.{mapped_follows}
use Rattle.split_counters.specs.declared.Block.{Block}
use Rattle.split_counters.specs.Blocks.{packed, next_block}
use Rattle.bonsai_tree.specs.Paths.{path_with, root_with}
use Rattle.page_reencrypt.specs.Registers.{begun}
use Rattle.meta_path.specs.Blocks.{cached_line}
use Rattle.suite.specs.Setup.{Setup}
use Rattle.pmem_engine.specs.declared.fault.Fault.{Fault}
use Rattle.pmem_engine.specs.declared.resealing.NextSeal.{NextSeal}
use Rattle.pmem_engine.specs.Outcomes.{fault_of_cut}
use Rattle.pmem_engine.specs.CallFacts.{grouped_lines}
use Rattle.pmem_engine.specs.Inner.{cached_block}
use Rattle.pmem_engine.specs.Committing.{next_seal_of}
use Rattle.pmem_engine.specs.Sealing.{next_counter_of, raised_block}
use Rattle.pmem_engine.specs.Plans.{Chip, with_tags}
use Rattle.pmem_engine.specs.SealPlans.{with_path_digests, commit_seal_plan, seal_over_plan, seal_next_plan, commit_begin_plan, begin_page_plan, begin_for_plan}

-- a page's path and root over the cached lines, under this new counter block
module _ (setup : Setup) (chip : Chip) (page : ℕ) where
  abbrev pub lines_over : Line → List (ℕ × Line)
  lines_over block = path_with setup.shape setup.formulas (cached_line setup.shape chip.engine.cache) page block

  abbrev pub root_over : Line → List ℕ
  root_over block = root_with setup.shape setup.formulas (cached_line setup.shape chip.engine.cache) page block

-- ---- a seal under a line's next counter

module _ (setup : Setup) (at : ℕ) (plain : Line) (regs : Regs) (chip : Chip) where
  abbrev digested : Chip
  digested = with_path_digests setup.shape chip

  abbrev its_ctr : Ctr
  its_ctr = next_counter_of setup.shape chip.engine at

  abbrev its_block : Line
  its_block = packed (raised_block setup.shape chip.engine at)

  abbrev its_lines : ℕ
  its_lines = grouped_lines setup.shape regs.loss its_ctr.minor

  abbrev committing : NextSeal → ℕ → List (ℕ × Line) → List ℕ → Plan (Chip × Cut) (Chip × Regs)
  committing next grouped lines root =
      commit_seal_plan setup.shape next grouped lines root regs (with_tags digested (risen chip.tags))

  -- the tag line wasn't read
  pub seal_unread : {old new : Device} → WasCut old new → old.live ≡ false
      → Follows (seal_next_plan setup at plain regs chip) old new (Err (digested, the_cut))
  unfolding seal_next_plan
  seal_unread was off =
      read_cut (digested, the_cut) (layout.tag_line setup.shape at) (seal_over_plan setup at plain regs digested) was off

  module _ (next : NextSeal) (grouped : ℕ) (block : Line) (lines : List (ℕ × Line)) (root : List ℕ) (tags : Line)
      (its_seal : next ≡ next_seal_of setup.formulas at its_ctr plain tags) (grouping : grouped ≡ its_lines)
      (block_is : block ≡ its_block) (lines_are : lines ≡ lines_over setup chip (page_of at) block)
      (root_is : root ≡ root_over setup chip (page_of at) block) where
    same_commit : committing next grouped lines root
        ≡ committing (next_seal_of setup.formulas at its_ctr plain tags) its_lines
        (lines_over setup chip (page_of at) its_block) (root_over setup chip (page_of at) its_block)
    same_commit =
        ap₂ (λ next grouped. committing next grouped lines root) its_seal grouping
        ∙ ap₂ (committing (next_seal_of setup.formulas at its_ctr plain tags) its_lines) lines_are root_is
        ∙ ap
        (λ block. committing (next_seal_of setup.formulas at its_ctr plain tags) its_lines
        (lines_over setup chip (page_of at) block) (root_over setup chip (page_of at) block)) block_is

    -- it was committed, or cut
    pub seal_end : {old mid new : Device} → HasRead old (layout.tag_line setup.shape at) tags mid → IsLine tags
        → (end : Result (Chip × Regs) (Chip × Cut)) → Follows (committing next grouped lines root) mid new end
        → Follows (seal_next_plan setup at plain regs chip) old new (mapped_end (λ left. left) (λ end. (end.0, its_ctr)) end)
    unfolding seal_next_plan
    seal_end {mid = mid} {new = new} first whole end it =
        read_then (digested, the_cut) first whole
        (mapped_follows _ _ (subst (λ (plan : Plan (Chip × Cut) (Chip × Regs)). Follows plan mid new end) same_commit it))

-- ---- a page's begin

module _ (setup : Setup) (page : ℕ) (regs : Regs) (chip : Chip) where
  abbrev its_old : Block
  its_old = cached_block setup.shape chip.engine page

  abbrev beginning : Progress → List (ℕ × Line) → List ℕ → Plan (Chip × Cut) (Chip × Regs)
  beginning register lines root =
      commit_begin_plan setup.shape page register lines root regs (with_path_digests setup.shape chip)

  module _ (register : Progress) (block : Line) (lines : List (ℕ × Line)) (root : List ℕ)
      (its_register : register ≡ begun page (packed its_old)) (block_is : block ≡ packed (next_block its_old))
      (lines_are : lines ≡ lines_over setup chip page block) (root_is : root ≡ root_over setup chip page block) where
    same_begin : beginning register lines root
        ≡ beginning (begun page (packed its_old)) (lines_over setup chip page (packed (next_block its_old)))
        (root_over setup chip page (packed (next_block its_old)))
    same_begin =
        ap (λ register. beginning register lines root) its_register
        ∙ ap₂ (beginning (begun page (packed its_old))) lines_are root_is
        ∙ ap (λ block. beginning (begun page (packed its_old)) (lines_over setup chip page block) (root_over setup chip page block)) block_is

    -- it was committed, or cut
    pub begin_end : {old new : Device} (end : Result (Chip × Regs) (Chip × Cut)) → Follows (beginning register lines root) old new end
        → Follows (begin_page_plan setup page regs chip) old new (mapped_end (λ left. (left.0, fault_of_cut left.1)) (λ end. end) end)
    unfolding begin_page_plan
    begin_end {old = old} {new = new} end it =
        mapped_follows _ _ (subst (λ (plan : Plan (Chip × Cut) (Chip × Regs)). Follows plan old new end) same_begin it)

  -- where the page has to be re-encrypted, or not
  pub begun_where : (overflows : Bool) {old new : Device} {end : Result (Chip × Regs) (Chip × Fault)} → overflows ≡ true
      → Follows (begin_page_plan setup page regs chip) old new end → Follows (begin_for_plan setup page overflows regs chip) old new end
  unfolding begin_for_plan
  begun_where overflows {old = old} {new = new} {end = end} is it =
      subst (λ (b : Bool). Follows {E = Chip × Fault} {T = Chip × Regs} (if b then begin_page_plan setup page regs chip else done (chip, regs)) old new end)
      (sym is) it

  pub unbegun_where : (overflows : Bool) (d : Device) → overflows ≡ false
      → Follows (begin_for_plan setup page overflows regs chip) d d (Ok (chip, regs))
  unfolding begin_for_plan
  unbegun_where overflows d is =
      subst (λ (b : Bool). Follows {E = Chip × Fault} {T = Chip × Regs} (if b then begin_page_plan setup page regs chip else done (chip, regs)) d d (Ok (chip, regs)))
      (sym is) (is_done (chip, regs) d)
