-- One byte more, and all of them.
use Rattle.std.proofs.Common.{ℕ, ◌<◌, List, length, get_or, set, ap, ap₂, ◌∙◌, arith}
use Rattle.std.proofs.lemmas.List.{length-set}
use Rattle.std.proofs.lemmas.List.Edits.{fill_by_more}
use Rattle.std.proofs.lemmas.List.FromFn.{fill_by_all}
use Rattle.pmem_base.specs.Lines.{line_of}
use Rattle.write_ports.specs.Seen.{overlaid_byte, overlaid}
use Rattle.write_ports.proofs.seen.overlay.Goals as goal

pub bytes-preserved : goal.bytes-preserved
bytes-preserved c =
    let within : c.bytes.i < length c.bytes.bytes = omega arith in (
      length-set c.bytes.bytes c.from.result c.byte_over.result ∙ c.bytes.invariant.0,
      λ k h.
          ap (λ (bytes : List ℕ). get_or bytes k 0) (ap₂ (set c.bytes.bytes) c.from.ensures c.byte_over.ensures)
          ∙ fill_by_more (λ i. overlaid_byte c.args.line.now c.args.seen.now i) c.bytes.bytes c.bytes.i 0 within
          c.bytes.invariant.1 k h,
    )

pub returns-clause-value : goal.returns-clause-value
unfolding overlaid
returns-clause-value c =
    ap line_of
    (fill_by_all (λ i. overlaid_byte c.args.line.now c.args.seen.now i) c.bytes.bytes 64 0 c.is_whole.ensures.long
    (λ k h. c.bytes.invariant.1 k (omega arith)))
