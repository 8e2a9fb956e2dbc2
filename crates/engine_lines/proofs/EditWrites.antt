-- The engine writes of changes, and memory once the first k of them are done.
use Rattle.std.proofs.Common.{ℕ, zero, suc, ◌≡◌, ◌≤◌, ◌^◌, List, [], ◌∷◌, length, take, refl, ap, ◌∙◌, arith}
use Rattle.std.specs.Prelude.{All}
use Rattle.std.proofs.lemmas.List.Elements.{All-head, All-tail}
use Rattle.pmem_base.specs.Lines.{IsLine, line_at}
use Rattle.pmem_base.proofs.LineLemmas.{IsLine-line_at, All-lines_set}
use Rattle.suite.specs.Formulas.{Formulas}
use Rattle.plain_model.specs.State.{Memory, memory_with}
use Rattle.plain_model.specs.Asked.{Moment, moment_after, moment_after_writes}
use Rattle.engine_lines.specs.declared.edits.Edit.{Edit}
use Rattle.engine_lines.specs.declared.edits.Edit.TheVariants as Make
use Rattle.engine_lines.specs.Edits.{IsEditOf, edited, all_edited}
use Rattle.engine_lines.proofs.EngineLines.{put_whole_line}
use Rattle.engine_lines.proofs.EngineEdits.{posted_of, all_posted}

-- as many writes as changes
pub length-all_posted : (memory : Memory) (edits : List Edit) → length (all_posted memory edits) ≡ length edits
length-all_posted memory [] = refl
length-all_posted memory (edit ∷ edits) = let rest = length-all_posted (memory_with memory (posted_of memory edit)) edits in omega (arith, rest)

module _ (count : ℕ) (small : count ≤ 2 ^ 32) (f : Formulas) where
  edit_put : (lines : Memory) (edit : Edit) → All IsLine lines → IsEditOf count edit → memory_with lines (posted_of lines edit) ≡ edited edit lines
  edit_put lines (Make.Put at line) each fit = let low = fit.0 in put_whole_line lines at line each (omega (arith, low, small)) fit.1
  edit_put lines (Make.Copy source at) each fit =
      let low = fit.1 in put_whole_line lines at (line_at lines source) each (omega (arith, low, small)) (IsLine-line_at lines source each)

  edit_whole : (lines : Memory) (edit : Edit) → All IsLine lines → IsEditOf count edit → All IsLine (edited edit lines)
  edit_whole lines (Make.Put at line) each fit = All-lines_set lines at line fit.1 each
  edit_whole lines (Make.Copy source at) each fit = All-lines_set lines at (line_at lines source) (IsLine-line_at lines source each) each

  pub edits_memory : (edits : List Edit) (k : ℕ) (lines : Memory) (now : Moment) → All IsLine lines → All (IsEditOf count) edits
      → now.memory ≡ lines → (moment_after_writes f now (take k (all_posted lines edits))).memory ≡ all_edited (take k edits) lines
  edits_memory edits zero lines now each fits same = same
  edits_memory [] (suc k) lines now each fits same = same
  edits_memory (edit ∷ edits) (suc k) lines now each fits same =
      let fit = All-head (IsEditOf count) edit edits fits in
      let write = posted_of lines edit in
      let is : memory_with lines write ≡ edited edit lines = edit_put lines edit each fit in
      ap (λ (l : Memory). (moment_after_writes f (moment_after f now write) (take k (all_posted l edits))).memory) is
      ∙ edits_memory edits k (edited edit lines) (moment_after f now write) (edit_whole lines edit each fit) (All-tail (IsEditOf count) edit edits fits)
      (ap (λ m. memory_with m write) same ∙ is)
