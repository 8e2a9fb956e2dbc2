-- What the device keeps of each page's true counter block, by each kind of step and over any lines.
use Rattle.std.proofs.Common.{rules, ◌≡◌, ℕ, ◌*◌, ◌<◌, Bool, true, false, List, length}
use Rattle.std.specs.Prelude.{◌==◌, if◌then◌else◌}
use Rattle.pmem_base.specs.declared.lines.Line.{Line}
use Rattle.pmem_base.specs.Layout.{device_lines, meta_lines}
use Rattle.pmem_base.specs.Lines.{line_at}
use Rattle.split_counters.specs.Blocks.{unpacked, IsStoredBlock}
use Rattle.split_counters.proofs.StoredBlocks.{IsStoredBlock-coarser}
use Rattle.bonsai_tree.specs.Positions.{counter_position}
use Rattle.suite.specs.Setup.{Setup}
use Rattle.pmem_engine.specs.Truth.{true_block}
use Rattle.pmem_engine.specs.Invariants.{stored_meta, IsCounterStored}
use Rattle.pmem_engine.specs.Steps.{with_true_line}

-- a counter block that stands true on the device
pub IsCounterStored-true : (setup : Setup) (lines : List Line) (loss : ℕ) (truth : List Line) (page : ℕ)
    → stored_meta setup.shape lines (counter_position setup.shape page)
    ≡ line_at truth (counter_position setup.shape page)
    → IsCounterStored setup lines loss truth page
IsCounterStored-true setup lines loss truth page same = search rules

-- one whose device line and true line are as they were
pub IsCounterStored-same : (setup : Setup) (old new : List Line) (loss : ℕ) (old_truth new_truth : List Line)
    (page : ℕ)
    → stored_meta setup.shape new (counter_position setup.shape page)
    ≡ stored_meta setup.shape old (counter_position setup.shape page)
    → line_at new_truth (counter_position setup.shape page) ≡ line_at old_truth (counter_position setup.shape page)
    → IsCounterStored setup old loss old_truth page → IsCounterStored setup new loss new_truth page
IsCounterStored-same setup old new loss old_truth new_truth page stored same before = search rules

-- under a stop-loss number that is some times as great
pub IsCounterStored-coarser : (setup : Setup) (lines : List Line) (loss times : ℕ) (truth : List Line) (page : ℕ)
    → IsCounterStored setup lines loss truth page → IsCounterStored setup lines (loss * times) truth page
IsCounterStored-coarser setup lines loss times truth page = by (setup.shape.persist == 0)
  where
    by : (lazy : Bool)
        → IsStoredBlock (if lazy then loss else 1) (unpacked (stored_meta setup.shape lines (counter_position setup.shape page)))
        (true_block setup.shape truth page)
        → IsStoredBlock (if lazy then loss * times else 1) (unpacked (stored_meta setup.shape lines (counter_position setup.shape page)))
        (true_block setup.shape truth page)
    by true before = IsStoredBlock-coarser loss times _ _ before
    by false before = before

-- ---- by kinds of steps

-- a true line is written back
pub IsCounterStored-written_back : (setup : Setup) (lines : List Line) (loss : ℕ) (truth : List Line) (page x : ℕ)
    → length lines ≡ device_lines setup.shape → x < meta_lines setup.shape
    → IsCounterStored setup lines loss truth page
    → IsCounterStored setup (with_true_line setup.shape lines truth x) loss truth page
IsCounterStored-written_back setup lines loss truth page x size h before = search rules
