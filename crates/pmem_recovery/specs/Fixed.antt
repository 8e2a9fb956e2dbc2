-- The metadata that recovery makes, from the top down: a doubted block is made again, any other is the device's.
use Rattle.std.specs.Prelude.{ℕ, zero, suc, ◌+◌, ◌-◌, ◌*◌, List, map, slice_get, unwrap_or, if◌then◌else◌}
use Rattle.std.specs.List.{range_with_len}
use Rattle.pmem_base.specs.declared.lines.Line.{Line}
use Rattle.pmem_base.specs.declared.registers.Regs.{Regs}
use Rattle.split_counters.specs.declared.Block.{Block}
use Rattle.split_counters.specs.Blocks.{packed}
use Rattle.bonsai_tree.specs.Positions.{level_of, counter_position}
use Rattle.bonsai_tree.specs.Nodes.{node_over}
use Rattle.suite.specs.Setup.{Setup}
use Rattle.pmem_engine.specs.Invariants.{stored_meta, is_doubted}
use Rattle.pmem_recovery.specs.Trials.{stored_block, tried_minors}

-- the minor of a line by its trials
abbrev pub fixed_minor : Setup → List Line → Regs → ℕ → ℕ
fixed_minor setup lines regs a = unwrap_or (slice_get (tried_minors setup lines regs a) 0) 0

-- the stored block with the minors of the trials
abbrev pub fixed_block : Setup → List Line → Regs → ℕ → Block
fixed_block setup lines regs page =
    record (stored_block setup.shape lines page) {
      minors = map (λ i. fixed_minor setup lines regs (64 * page + i)) (range_with_len 0 64);
    }

-- the line x, which has j levels below it
abbrev pub fixed_line_above : Setup → List Line → Regs → ℕ → ℕ → Line
fixed_line_above setup lines regs zero x =
    if is_doubted setup.shape lines x
    then packed (fixed_block setup lines regs (x - counter_position setup.shape 0))
    else stored_meta setup.shape lines x
fixed_line_above setup lines regs (suc j) x =
    if is_doubted setup.shape lines x
    then node_over setup.formulas x (fixed_line_above setup lines regs j)
    else stored_meta setup.shape lines x

abbrev pub fixed_line : Setup → List Line → Regs → ℕ → Line
fixed_line setup lines regs x =
    fixed_line_above setup lines regs (setup.shape.levels - level_of x) x

-- the root that recovery finds
abbrev pub found_root : Setup → List Line → Regs → List ℕ
found_root setup lines regs = setup.formulas.digest_of 0 (fixed_line setup lines regs 0)
