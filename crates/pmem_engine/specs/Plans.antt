-- What the engine's calls do of the board, as plans: functions of the state next to it, and of the registers.
use Rattle.std.specs.Prelude.{ℕ, ◌+◌, ◌-◌, ◌==◌, nat_lt, List, [], ◌∷◌, length, slice_index_or, Option, Some, None, if◌then◌else◌}
use Rattle.pmem_base.specs.declared.faults.Cut.{Cut}
use Rattle.pmem_base.specs.declared.lines.Line.{Line}
use Rattle.pmem_base.specs.declared.lines.Ctr.{Ctr}
use Rattle.pmem_base.specs.declared.registers.Progress.{Progress}
use Rattle.pmem_base.specs.declared.registers.Regs.{Regs}
use Rattle.pmem_base.specs.declared.answers.Mark.TheVariants.{Seal}
use Rattle.pmem_base.specs.declared.answers.Exhibit.TheVariants.{Forged}
use Rattle.pmem_base.specs.Counts.{risen}
use Rattle.pmem_base.specs.Shape.{Shape}
use Rattle.pmem_base.specs.Layout as layout
use Rattle.pmem_base.specs.Layout.{page_of}
use Rattle.pmem_base.specs.Lines.{tag_slot}
use Rattle.pmem_base.specs.Marks.{last_seal}
use Rattle.pmem_base.specs.Registers.{not_done, old_major, empty_progress}
use Rattle.call_plan.specs.Plans.{Plan, done, stop, read, latch, bind, mapped, lifted, for_each, the_cut}
use Rattle.split_counters.specs.Blocks.{unpacked, block_counter}
use Rattle.line_seal.specs.Seals.{unsealed}
use Rattle.page_reencrypt.specs.Registers.{registers_with_done, counter_of}
use Rattle.seal_ledger.specs.Ledger.{LedgerState}
use Rattle.seal_ledger.specs.declared.Audit.{Ghosts as AuditOf}
use Rattle.seal_ledger.specs.Notes.{noted, shown, is_cipher_of}
use Rattle.suite.specs.Setup.{Setup}
use Rattle.suite.specs.declared.Suite.{Ghosts as SuiteOf}
use Rattle.meta_cache.specs.State.{CacheState, bank_of}
use Rattle.meta_path.specs.Blocks.{bank_dirty_count}
use Rattle.meta_path.specs.declared.faults.PathFault.{PathFault}
use Rattle.meta_path.specs.FetchPlans.{FetchParts, fetch_parts, fetch_plan}
use Rattle.meta_path.specs.Plans.{naming_plan, write_back_plan, oldest_plan}
use Rattle.commit_regs.specs.Plans.{group_plan}
use Rattle.pmem_engine.specs.declared.fault.Fault.{Fault}
use Rattle.pmem_engine.specs.declared.fault.LineFault.{LineFault}
use Rattle.pmem_engine.specs.declared.fault.LineFault.TheVariants as AtLine
use Rattle.pmem_engine.specs.declared.reading.Unsealed.{Unsealed}
use Rattle.pmem_engine.specs.declared.resealing.HeldLine.{HeldLine}
use Rattle.pmem_engine.specs.declared.resealing.NextSeal.{NextSeal}
use Rattle.pmem_engine.specs.Engine.{ChipState, EngineState, on_chip}
use Rattle.pmem_engine.specs.Parts.{Parts}
use Rattle.pmem_engine.specs.Outcomes.{fault_of_cut, fault_of_line, fault_of_path}
use Rattle.pmem_engine.specs.Inner.{cached_block}
use Rattle.pmem_engine.specs.DirtyOrder.{dirty_order}
use Rattle.pmem_engine.specs.Flushed.{cache_of, with_loss}
use Rattle.pmem_engine.specs.Committing.{next_seal_of, entries_of}
use Rattle.pmem_engine.specs.Resealing.{line_of_page}

-- ---- the state next to the board

-- what the engine keeps on the chip, the ledger, and the suite's counts of tags and digests
pub record Chip : Type 0 where
  pub engine : ChipState
  pub ledger : LedgerState
  pub tags : ℕ
  pub digests : ℕ

abbrev pub chip_with : ChipState → LedgerState → ℕ → ℕ → Chip
chip_with engine ledger tags digests =
    record { engine = engine; ledger = ledger; tags = tags; digests = digests }

-- of an engine; whether it is down isn't told by it
abbrev pub chip_of : EngineState → LedgerState → ℕ → ℕ → Chip
chip_of engine ledger tags digests = chip_with (on_chip engine) ledger tags digests

-- of a call's parts
abbrev pub chip_in : Parts → Chip
chip_in parts = chip_with parts.engine parts.ledger parts.tags parts.digests

-- the same at a moment of a call
module _ {S A : Type 0} (suite : SuiteOf S) (audit : AuditOf A) where
  abbrev pub chip_with_at : ChipState → S → A → Chip
  chip_with_at engine s a = chip_with engine (audit.ledger a) (suite.tags s) (suite.digests s)

  abbrev pub chip_at : EngineState → S → A → Chip
  chip_at engine s a = chip_with_at (on_chip engine) s a

abbrev pub with_engine : Chip → ChipState → Chip
with_engine chip engine = chip_with engine chip.ledger chip.tags chip.digests

abbrev pub with_ledger : Chip → LedgerState → Chip
with_ledger chip ledger = chip_with chip.engine ledger chip.tags chip.digests

abbrev pub with_tags : Chip → ℕ → Chip
with_tags chip tags = chip_with chip.engine chip.ledger tags chip.digests

-- ---- parts that work on the cache, or on the copy of the shadow lines

-- the engine with another cache
abbrev pub with_cache : ChipState → CacheState → ChipState
with_cache engine cache = record engine { cache = cache.banks }

-- the engine with another copy of the shadow lines
abbrev pub with_mirror : ChipState → List Line → ChipState
with_mirror engine mirror = record engine { mirror = mirror }

-- the oldest dirty block is written to its place
unfoldable pub oldest_block_plan : ChipState → Plan (ChipState × Cut) (ChipState × Option ℕ)
oldest_block_plan engine = lifted (with_cache engine) (λ cut. cut) (oldest_plan (cache_of engine))

-- the dirty block at x of a bank is
unfoldable pub block_plan : ℕ → ℕ → ChipState → Plan (ChipState × Cut) (ChipState × Unit {0})
block_plan bank x engine = lifted (with_cache engine) (λ cut. cut) (write_back_plan (cache_of engine) bank x)

-- the page's path is named
unfoldable pub name_plan : ℕ → ChipState → Plan (ChipState × Cut) (ChipState × Unit {0})
name_plan page engine =
    lifted (with_mirror engine) (λ cut. cut) (naming_plan engine.shape engine.cache page engine.mirror)

-- ---- a flush

abbrev pub flush_plan : ChipState → Plan (ChipState × Fault) (ChipState × Option ℕ)
flush_plan engine = lifted (λ now. now) fault_of_cut (oldest_block_plan engine)

-- ---- another stop-loss number

-- the dirty counter blocks, the oldest first
abbrev pub dirty_counter_blocks : ChipState → List ℕ
dirty_counter_blocks engine = dirty_order (bank_of engine.cache engine.shape.levels)

abbrev pub counter_block_turn : ℕ → ChipState × Unit {0} → Plan (ChipState × Cut) (ChipState × Unit {0})
counter_block_turn x before = block_plan before.0.shape.levels x before.0

-- each of them is written to its place, in order; the answer is how many there were
unfoldable pub counter_blocks_plan : ChipState → Plan (ChipState × Cut) (ChipState × ℕ)
counter_blocks_plan engine =
    mapped (λ left. left) (λ end. (end.0, bank_dirty_count engine.shape engine.cache engine.shape.levels))
    (for_each counter_block_turn (dirty_counter_blocks engine) (engine, tt))

-- if the number gets smaller
unfoldable pub make_way_plan : ℕ → Regs → ChipState → Plan (ChipState × Cut) (ChipState × ℕ)
make_way_plan n regs engine = if nat_lt n regs.loss then counter_blocks_plan engine else done (engine, 0)

-- then the number is latched; the answer is how many steps that took
unfoldable pub latch_loss_plan : ℕ → Regs → ChipState → Plan (ChipState × Cut) (ChipState × ℕ)
latch_loss_plan n regs engine =
    if n == regs.loss then done (engine, 0)
    else bind (make_way_plan n regs engine)
    (λ end. latch (end.0, the_cut) (with_loss regs n) (done (end.0, end.1 + 1)))

abbrev pub set_loss_plan : ℕ → Regs → ChipState → Plan (ChipState × Fault) (ChipState × ℕ)
set_loss_plan n regs engine = lifted (λ now. now) fault_of_cut (latch_loss_plan n regs engine)

-- ---- a line unsealed

-- with its right tag, the audit tells the last cipher from another one
abbrev pub opened_plan : ℕ → Ctr → Line → Line → Chip → Option Line → Plan (Chip × LineFault) (Chip × Unsealed)
opened_plan at ctr cipher tags chip None = stop (chip, AtLine.Tag at)
opened_plan at ctr cipher tags chip (Some plain) =
    if is_cipher_of (last_seal chip.ledger.marks at) cipher then
    done (chip, record { plain = plain; tag_line = tags })
    else stop (with_ledger chip (shown chip.ledger (Forged at ctr cipher (tag_slot tags at))), AtLine.Shown)

-- the line and its tag line are read, and a tag is made
unfoldable pub unseal_plan : Setup → ℕ → Ctr → Chip → Plan (Chip × LineFault) (Chip × Unsealed)
unseal_plan setup at ctr chip =
    read (chip, AtLine.Cut) at (λ cipher.
    read (chip, AtLine.Cut) (layout.tag_line setup.shape at) (λ tags.
    opened_plan at ctr cipher tags (with_tags chip (risen chip.tags))
    (unsealed setup.formulas at ctr cipher (tag_slot tags at))))

-- ---- a path fetched, and a line read

abbrev pub fetch_parts_of : Chip → FetchParts
fetch_parts_of chip = fetch_parts (cache_of chip.engine) chip.ledger chip.digests

abbrev pub with_fetched : Chip → FetchParts → Chip
with_fetched chip parts = chip_with (with_cache chip.engine parts.cache) parts.ledger chip.tags parts.digests

-- the page's path is fetched and checked against the root
unfoldable pub fetch_path_plan : Setup → List ℕ → ℕ → Chip → Plan (Chip × PathFault) (Chip × Unit {0})
fetch_path_plan setup root page chip =
    lifted (with_fetched chip) (λ fault. fault) (fetch_plan setup.formulas root page (fetch_parts_of chip))

-- the counter of line `at`, whose page's path is cached
abbrev pub its_counter : Setup → Regs → ℕ → Chip → Ctr
its_counter setup regs at chip =
    counter_of regs.progress.items (cached_block setup.shape chip.engine (page_of at)) at

-- its page's path is fetched, and then the line is unsealed under its counter
unfoldable pub read_plan : Setup → Regs → ℕ → Chip → Plan (Chip × Fault) (Chip × Line)
read_plan setup regs at chip =
    bind (mapped (λ left. (left.0, fault_of_path left.1)) (λ end. end) (fetch_path_plan setup regs.root (page_of at) chip))
    (λ fetched. mapped (λ left. (left.0, fault_of_line left.1)) (λ end. (end.0, end.1.plain))
    (unseal_plan setup at (its_counter setup regs at fetched.0) fetched.0))

-- ---- a held line resealed

-- the registers with the seal's line done, and its group
abbrev pub armed : Shape → NextSeal → Regs → Regs
armed g next regs =
    record regs {
      group = record { items = entries_of g next };
      progress = record { items = registers_with_done regs.progress.items next.at };
    }

-- the ledger with the seal
abbrev pub with_seal : LedgerState → NextSeal → LedgerState
with_seal ledger next = noted ledger (Seal next.at next.ctr next.cipher next.tag)

-- the seal's group is armed, told to the ledger, and finished
unfoldable pub commit_plan : Shape → NextSeal → Regs → LedgerState → Plan (LedgerState × Cut) (LedgerState × Unit {0})
commit_plan g next regs ledger =
    mapped (λ left. left) (λ end. (end.0, tt)) (group_plan (armed g next regs) ledger (with_seal ledger next))

-- the lowest line not done of a register's page
abbrev pub held_of : Progress → HeldLine
held_of register =
    let place = slice_index_or (not_done register) 0 0 in
    record {
      at = line_of_page register place;
      now = block_counter (unpacked register.old) place;
      next = record { major = old_major register + 1; minor = 0 };
    }

-- register n
abbrev pub register_at : Regs → ℕ → Progress
register_at regs n = slice_index_or regs.progress.items n empty_progress

-- a tag is made, and the line's group is committed; the answer is the line, and how many are left
abbrev pub seal_anew_plan : Setup → HeldLine → ℕ → Regs → Chip × Unsealed → Plan (Chip × LineFault) (Chip × (ℕ × ℕ))
seal_anew_plan setup held left regs before =
    mapped (λ end. (chip_with before.0.engine end.0 (risen before.0.tags) before.0.digests, AtLine.Cut))
    (λ end. (chip_with before.0.engine end.0 (risen before.0.tags) before.0.digests, (held.at, left - 1)))
    (commit_plan setup.shape (next_seal_of setup.formulas held.at held.next before.1.plain before.1.tag_line)
    regs before.0.ledger)

-- the lowest line not done of register n's page is unsealed, and then resealed
unfoldable pub reseal_plan : Setup → ℕ → Regs → Chip → Plan (Chip × LineFault) (Chip × (ℕ × ℕ))
reseal_plan setup n regs chip =
    bind (unseal_plan setup (held_of (register_at regs n)).at (held_of (register_at regs n)).now chip)
    (seal_anew_plan setup (held_of (register_at regs n)) (length (not_done (register_at regs n))) regs)

-- ---- a turn

-- the same of the oldest page under re-encryption, if one is
unfoldable pub oldest_page_plan : Setup → Regs → Chip → List Progress → Plan (Chip × LineFault) (Chip × Option (ℕ × ℕ))
oldest_page_plan setup regs chip [] = done (chip, None)
oldest_page_plan setup regs chip (register ∷ others) =
    mapped (λ left. left) (λ end. (end.0, Some end.1)) (reseal_plan setup 0 regs chip)

abbrev pub turn_plan : Setup → Regs → Chip → Plan (Chip × Fault) (Chip × Option (ℕ × ℕ))
turn_plan setup regs chip = lifted (λ now. now) fault_of_line (oldest_page_plan setup regs chip regs.progress.items)
