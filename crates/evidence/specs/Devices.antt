-- Whole devices of the smallest geometry, for recovery's definitions.
use Rattle.std.specs.Prelude.{ℕ, ◌+◌, ◌*◌, List, [], ◌∷◌, ◌++◌, map, replicate, slice_set}
use Rattle.std.specs.List.{range_with_len}
use Rattle.pmem_base.specs.declared.lines.Line.{Line}
use Rattle.pmem_base.specs.declared.registers.Regs.{Regs}
use Rattle.pmem_base.specs.Lines.{line_of, line_at, filled_line, zero_line}
use Rattle.suite.specs.Setup.{Setup}
use Rattle.plain_model.specs.State.{start_state}
use Rattle.plain_model.specs.View.{DeviceView, start_view, view_after_marks, true_lines, true_line}
use Rattle.plain_model.specs.Fits.{sealed_line, sealed_tags}
use Rattle.plain_model.specs.Asked.{seal_mark}
use Rattle.evidence.specs.Samples.{small_shape, weak, blur, ctr}

-- a group that writes line 1, line 0 and line 1 again, and the lines of a device of three before and after it
abbrev pub line_1_twice : List (ℕ × Line)
line_1_twice = (1, filled_line 7) ∷ (0, filled_line 8) ∷ (1, filled_line 9) ∷ []

abbrev pub three_lines : List Line
three_lines = replicate 3 zero_line

abbrev pub three_lines_after : List Line
three_lines_after = filled_line 8 ∷ filled_line 9 ∷ zero_line ∷ []

abbrev pub small_weak : Setup
small_weak = record { shape = small_shape; formulas = weak }

abbrev pub small_blur : Setup
small_blur = record { shape = small_shape; formulas = blur }

-- the device of zero lines whose seals and metadata are those of the view, with these shadow lines
abbrev pub device_with : Setup → DeviceView → List Line → List Line → List Line
device_with setup view metadata shadow =
    map (sealed_line setup.formulas (start_state setup.shape).memory view) (range_with_len 0 256)
    ++ map (λ n. sealed_tags setup.formulas (start_state setup.shape).memory view (4 * n)) (range_with_len 0 64)
    ++ metadata ++ shadow

abbrev pub view_sealed : Setup → DeviceView
view_sealed setup =
    view_after_marks (start_view setup.shape) (seal_mark setup.formulas 0 (ctr 0 1) zero_line ∷ [])

-- a shadow line whose entry 0 names this position
abbrev pub line_naming : ℕ → Line
line_naming x = line_of (0 ∷ 0 ∷ 0 ∷ (x + 1) ∷ replicate 60 0)

-- after one seal of line 0: its block and the top node are stale and named
abbrev pub device_sealed : Setup → List Line
device_sealed setup =
    device_with setup (view_sealed setup) (true_lines setup (start_view setup.shape))
    (line_naming 1 ∷ line_naming 0 ∷ [])

-- the registers then
abbrev pub regs_sealed : Setup → Regs
regs_sealed setup =
    record {
      root = setup.formulas.digest_of 0 (true_line setup (view_sealed setup) 0);
      group = record { items = [] };
      progress = record { items = [] };
      loss = setup.shape.loss;
    }

-- the same device with another tag in line 0's slot, and with no block named
abbrev pub device_wrong_tag : List Line
device_wrong_tag =
    slice_set (device_sealed small_weak) 256
    (line_of (slice_set (line_at (device_sealed small_weak) 256).0 15 0xd1))

abbrev pub device_unnamed : List Line
device_unnamed = slice_set (device_sealed small_weak) 325 zero_line
