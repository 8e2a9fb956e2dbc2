-- What a seal under a line's next counter and a page's begin do of the board, as plans.
use Rattle.std.specs.Prelude.{ℕ, Bool, List, [], ◌∷◌, ◌++◌, if◌then◌else◌}
use Rattle.pmem_base.specs.declared.faults.Cut.{Cut}
use Rattle.pmem_base.specs.declared.lines.Line.{Line}
use Rattle.pmem_base.specs.declared.lines.Ctr.{Ctr}
use Rattle.pmem_base.specs.declared.registers.Progress.{Progress}
use Rattle.pmem_base.specs.declared.registers.Regs.{Regs}
use Rattle.pmem_base.specs.declared.answers.Mark.{Mark}
use Rattle.pmem_base.specs.declared.answers.Mark.TheVariants.{Begin, Seal}
use Rattle.pmem_base.specs.Counts.{risen, risen_times}
use Rattle.pmem_base.specs.Shape.{Shape}
use Rattle.pmem_base.specs.Layout as layout
use Rattle.pmem_base.specs.Layout.{page_of}
use Rattle.pmem_base.specs.Lines.{put_lines}
use Rattle.call_plan.specs.Plans.{Plan, done, read, mapped, the_cut}
use Rattle.split_counters.specs.declared.Block.{Block}
use Rattle.split_counters.specs.Blocks.{packed, next_block}
use Rattle.bonsai_tree.specs.Paths.{path_with, root_with}
use Rattle.page_reencrypt.specs.Registers.{registers_with_done, begun}
use Rattle.seal_ledger.specs.Ledger.{LedgerState}
use Rattle.seal_ledger.specs.Notes.{noted, with_truth}
use Rattle.suite.specs.Setup.{Setup}
use Rattle.plain_model.specs.Bounds.{path_length, begun_lines}
use Rattle.meta_path.specs.Blocks.{cached_line}
use Rattle.meta_path.specs.Storing.{stored_levels}
use Rattle.pmem_engine.specs.declared.fault.Fault.{Fault}
use Rattle.pmem_engine.specs.declared.resealing.NextSeal.{NextSeal}
use Rattle.pmem_engine.specs.Engine.{ChipState}
use Rattle.pmem_engine.specs.Outcomes.{fault_of_cut}
use Rattle.pmem_engine.specs.CallFacts.{grouped_lines}
use Rattle.pmem_engine.specs.Inner.{cached_block}
use Rattle.pmem_engine.specs.Flushed.{cache_of}
use Rattle.pmem_engine.specs.Committing.{next_seal_of}
use Rattle.pmem_engine.specs.Sealing.{next_counter_of, raised_block, seal_group, begin_group}
use Rattle.commit_regs.specs.Plans.{group_plan}
use Rattle.pmem_engine.specs.Plans.{Chip, chip_with, with_tags, with_cache}

-- ---- a page's new path

-- the path over the cached lines, if the page's counter block is another one
abbrev pub next_lines : Setup → ChipState → ℕ → Block → List (ℕ × Line)
next_lines setup engine page block =
    path_with setup.shape setup.formulas (cached_line setup.shape engine.cache) page (packed block)

-- the root then
abbrev pub next_root : Setup → ChipState → ℕ → Block → List ℕ
next_root setup engine page block =
    root_with setup.shape setup.formulas (cached_line setup.shape engine.cache) page (packed block)

-- the chip once the path is made: a digest for each level
abbrev pub with_path_digests : Shape → Chip → Chip
with_path_digests g chip = chip_with chip.engine chip.ledger chip.tags (risen_times (path_length g) chip.digests)

-- the engine with the path stored in its cache
abbrev pub with_path : Shape → ℕ → ℕ → List (ℕ × Line) → ChipState → ChipState
with_path g page grouped lines engine =
    with_cache engine (stored_levels g page grouped lines (path_length g) (cache_of engine))

-- the ledger once the path's lines are the true ones
abbrev pub with_true_path : List (ℕ × Line) → LedgerState → LedgerState
with_true_path lines ledger = with_truth ledger (put_lines lines ledger.truth)

-- the chip once the mark is made, and the page's new path is stored and told
abbrev pub with_marked_path : Shape → Mark → ℕ → ℕ → List (ℕ × Line) → Chip → Chip
with_marked_path g mark page grouped lines chip =
    chip_with (with_path g page grouped lines chip.engine) (with_true_path lines (noted chip.ledger mark)) chip.tags
    chip.digests

-- ---- a line sealed under its next counter

-- the registers with the new root, the line done, and the seal's group
abbrev pub seal_armed : Shape → NextSeal → ℕ → List (ℕ × Line) → List ℕ → Regs → Regs
seal_armed g next grouped lines root regs =
    record regs {
      root = root;
      group = record { items = seal_group g next grouped lines };
      progress = record { items = registers_with_done regs.progress.items next.at };
    }

abbrev pub commit_seal_plan :
    Shape → NextSeal → ℕ → List (ℕ × Line) → List ℕ → Regs → Chip → Plan (Chip × Cut) (Chip × Regs)
commit_seal_plan g next grouped lines root regs chip =
    group_plan (seal_armed g next grouped lines root regs) chip
    (with_marked_path g (Seal next.at next.ctr next.cipher next.tag) (page_of next.at) grouped lines chip)

-- with its tag line, a tag is made, and the seal is committed
abbrev pub seal_over_plan : Setup → ℕ → Line → Regs → Chip → Line → Plan (Chip × Cut) (Chip × Ctr)
seal_over_plan setup at plain regs chip tags =
    let ctr = next_counter_of setup.shape chip.engine at in
    let block = raised_block setup.shape chip.engine at in
    mapped (λ left. left) (λ end. (end.0, ctr))
    (commit_seal_plan setup.shape (next_seal_of setup.formulas at ctr plain tags)
    (grouped_lines setup.shape regs.loss ctr.minor) (next_lines setup chip.engine (page_of at) block) (next_root setup chip.engine (page_of at) block) regs
    (with_tags chip (risen chip.tags)))

-- the page's path is made again, and the tag line is read; the answer is the counter
unfoldable pub seal_next_plan : Setup → ℕ → Line → Regs → Chip → Plan (Chip × Cut) (Chip × Ctr)
seal_next_plan setup at plain regs chip =
    read (with_path_digests setup.shape chip, the_cut) (layout.tag_line setup.shape at)
    (seal_over_plan setup at plain regs (with_path_digests setup.shape chip))

-- ---- a page begun

-- the registers with the new root, the page's register last, and the begin's group
abbrev pub begin_armed : Shape → Progress → List (ℕ × Line) → List ℕ → Regs → Regs
begin_armed g register lines root regs =
    record regs {
      root = root;
      group = record { items = begin_group g lines };
      progress = record { items = regs.progress.items ++ register ∷ [] };
    }

abbrev pub commit_begin_plan :
    Shape → ℕ → Progress → List (ℕ × Line) → List ℕ → Regs → Chip → Plan (Chip × Cut) (Chip × Regs)
commit_begin_plan g page register lines root regs chip =
    group_plan (begin_armed g register lines root regs) chip
    (with_marked_path g (Begin page) page (begun_lines g) lines chip)

-- the page's path is made again over its next counter block, and the begin is committed
unfoldable pub begin_page_plan : Setup → ℕ → Regs → Chip → Plan (Chip × Fault) (Chip × Regs)
begin_page_plan setup page regs chip =
    let block = cached_block setup.shape chip.engine page in
    let next = next_block block in
    mapped (λ left. (left.0, fault_of_cut left.1)) (λ end. end)
    (commit_begin_plan setup.shape page (begun page (packed block)) (next_lines setup chip.engine page next)
    (next_root setup chip.engine page next) regs (with_path_digests setup.shape chip))

-- if it has to be re-encrypted
unfoldable pub begin_for_plan : Setup → ℕ → Bool → Regs → Chip → Plan (Chip × Fault) (Chip × Regs)
begin_for_plan setup page overflows regs chip =
    if overflows then begin_page_plan setup page regs chip else done (chip, regs)
