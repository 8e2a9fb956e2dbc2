-- Plain memory, where each of its lines is known.
use Rattle.std.proofs.Common.{ℕ, ◌≡◌, ◌<◌, List, Option, sym, ap, ◌∙◌, arith, zero-add}
use Rattle.std.specs.Prelude.{length, map, unwrap_or}
use Rattle.std.specs.List.{range_with_len}
use Rattle.std.proofs.lemmas.List.{ext_get_or}
use Rattle.std.proofs.lemmas.List.FromFn.{length-map-range_with_len, get_or-map-range_with_len}
use Rattle.pmem_base.specs.declared.lines.Line.{Line}
use Rattle.pmem_base.specs.declared.answers.Mark.{Mark}
use Rattle.pmem_base.specs.Layout as layout
use Rattle.pmem_base.specs.Lines.{zero_line}
use Rattle.suite.specs.Setup.{Setup}
use Rattle.plain_model.specs.View.{IsMemoryOf, plain_line, plain_memory}

-- memory is the plain lines of the marks
pub memory_is : (setup : Setup) (marks : List Mark) (memory : List Line) → IsMemoryOf setup marks memory → plain_memory setup marks ≡ memory
unfolding plain_memory
memory_is setup marks memory its =
    let count : length (map plain (range_with_len 0 (layout.data_lines setup.shape))) ≡ layout.data_lines setup.shape =
    length-map-range_with_len plain 0 (layout.data_lines setup.shape) in
    ext_get_or zero_line (map plain (range_with_len 0 (layout.data_lines setup.shape))) memory (count ∙ sym its.count)
    (λ i within.
    let small : i < layout.data_lines setup.shape = omega (arith, within, count) in
    get_or-map-range_with_len plain 0 (layout.data_lines setup.shape) i i zero_line small (zero-add i)
    ∙ ap (λ (found : Option Line). unwrap_or found zero_line) (its.each i small))
  where
    plain : ℕ → Line
    plain a = unwrap_or (plain_line setup.formulas marks a) zero_line
