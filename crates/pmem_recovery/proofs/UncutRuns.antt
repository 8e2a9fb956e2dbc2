-- Two formats of one device are the same.
use Rattle.std.proofs.Common.{◌≡◌, ℕ, List, Option, sym, ap₂, ◌∙◌}
use Rattle.std.specs.Prelude.{IsNone}
use Rattle.pmem_base.specs.declared.lines.Line.{Line}
use Rattle.pmem_base.specs.declared.answers.Mark.{Mark}
use Rattle.pmem_base.specs.declared.answers.Exhibit.{Exhibit}
use Rattle.seal_ledger.specs.Ledger.{LedgerState}
use Rattle.call_plan.proofs.Determined.{uncut_alike}
use Rattle.call_effects.proofs.ResultLaws.{none_is}
use Rattle.pmem_recovery.specs.Determined.{FormatIsDetermined}

-- a ledger without an exhibit is its marks, its true lines and the number of its lines
same_ledger : (a b : LedgerState) → a.marks ≡ b.marks → a.truth ≡ b.truth → a.data_lines ≡ b.data_lines → IsNone a.exhibit → IsNone b.exhibit → a ≡ b
same_ledger a b marks truth count first second =
    ap₂ (λ (m : List Mark) (t : List Line). record a { marks = m; truth = t }) marks truth
    ∙ ap₂ (λ (n : ℕ) (e : Option Exhibit). record b { data_lines = n; exhibit = e }) count (none_is a.exhibit first ∙ sym (none_is b.exhibit second))

pub formats_alike : FormatIsDetermined
formats_alike setup lines old a b ledger other engine last told live first second = (
  first.engine_new ∙ sym second.engine_new,
  same_ledger ledger other (first.marks ∙ sym second.marks) (first.truth ∙ sym second.truth)
      (first.anchored.of_shape.line_count ∙ sym second.anchored.of_shape.line_count) first.anchored.no_exhibit second.anchored.no_exhibit,
  (uncut_alike lines told (first.live live) (second.live live) first.plan second.plan).1,
)
