-- The lines of a board after one of them was set.
use Rattle.std.proofs.Common.{◌≡◌, ℕ, List, length, ◌∙◌, arith}
use Rattle.std.specs.Prelude.{slice_set}
use Rattle.std.proofs.Math.ListN.{length-set}
use Rattle.pmem_base.specs.declared.lines.Line.{Line}
use Rattle.pmem_base.specs.Lines.{IsLine, line_at}
use Rattle.pmem_base.proofs.LineLemmas.{All-zero_lines, All-lines_set, IsLine-line_at}
use Rattle.board.specs.Device.{AreLinesOf}

-- setting a line leaves the number of lines, and so what is said of other lines as many
pub AreLinesOf-length_set : (lines kept : List Line) (at : ℕ) (line : Line)
    → AreLinesOf (length lines) kept → AreLinesOf (length (slice_set lines at line)) kept
AreLinesOf-length_set lines kept at line h = record { count = omega (arith, h.count, length-set lines at line); each = h.each }

-- the lines stay as many lines where one of them is set to a line
pub AreLinesOf-set : (size : ℕ) (lines : List Line) (at : ℕ) (line : Line)
    → AreLinesOf size lines → IsLine line → AreLinesOf size (slice_set lines at line)
AreLinesOf-set size lines at line whole good =
    record {
      count = length-set lines at line ∙ whole.count;
      each = All-lines_set lines at line good whole.each;
    }

-- each of them has 64 bytes
pub line_at-long : (size : ℕ) (lines : List Line) (d : ℕ) → AreLinesOf size lines → length (line_at lines d).0 ≡ 64
line_at-long size lines d whole = (IsLine-line_at lines d whole.each).long

-- what a new board's lines need
pub ruleset zero_lines = (All-zero_lines)

-- what a board's lines need after one of them was set
pub ruleset set_lines = (All-lines_set, AreLinesOf-length_set)
