use Rattle.std.proofs.Common.{◌≡◌, ◌+◌, ◌<◌, ◌≤◌, ℕ, List, false, length, take, drop, get_or, sym, arith, inl, inr}
use Rattle.std.specs.List.{position_or_len}
use Rattle.std.proofs.lemmas.Bool.{eq-eqb, cases_lt}
use Rattle.std.proofs.lemmas.List.Sums.{position_or_len_is}
use Rattle.std.proofs.lemmas.Simd.{run_in_chunk_fails, run_in_chunk_stops}
use Rattle.plain_model.specs.Lines.{is_line_end}
use Rattle.pmem_cli.proofs.lines.length_within.Goals as goal

-- no LF before a place, nor before the first of those that are looked at together
none_so_far : (bytes : List ℕ) (at n : ℕ) → at + 16 ≤ length bytes → n ≡ position_or_len is_line_end (take 16 (drop at bytes))
    → ((k : ℕ) → k < at → is_line_end (get_or bytes k 0) ≡ false)
    → (k : ℕ) → k < at + n → is_line_end (get_or bytes k 0) ≡ false
none_so_far bytes at n room counted none k below = elim (cases_lt k at) [
  | inl before ↦ none k before
  | inr from ↦ run_in_chunk_fails is_line_end bytes at 16 n 0 room counted k from below
]

pub returns-then-length-lt-LANES-clause-count : goal.returns-then-length-lt-LANES-clause-count
returns-then-length-lt-LANES-clause-count c =
    let bytes = c.args.bytes.now in
    let at = c.loop-at.at in
    let n = c.length_within_lanes-length.result in
    let room : at + 16 ≤ length bytes = omega arith in
    let counted = c.length_within_lanes-length.ensures in
    let stops = run_in_chunk_stops is_line_end bytes at 16 n 0 room counted c.if-length-lt-LANES.true in
    sym (position_or_len_is is_line_end bytes (at + n) 0 (omega arith) (none_so_far bytes at n room counted c.loop-at.invariant.none) (λ _. stops))

pub loop-at-preserved : goal.loop-at-preserved
loop-at-preserved c =
    let room : c.loop-at.at + 16 ≤ length c.args.bytes.now = omega arith in
    let none = none_so_far c.args.bytes.now c.loop-at.at _ room c.length_within_lanes-length.ensures c.loop-at.invariant.none in
    record { inside = room; none = λ k below. none k (omega arith) }

pub returns-then-bytes-i-eq10-clause-count : goal.returns-then-bytes-i-eq10-clause-count
returns-then-bytes-i-eq10-clause-count c =
    sym (position_or_len_is is_line_end c.args.bytes.now c.loop-i.i 0 (omega arith) c.loop-i.invariant (λ _. eq-eqb _ _ c.if-bytes-i-eq10.true))

pub returns-clause-count : goal.returns-clause-count
returns-clause-count c =
    sym (position_or_len_is is_line_end c.args.bytes.now (length c.args.bytes.now) 0 (omega arith) (λ k h. c.loop-i.invariant k (omega arith)) (λ h. absurd (omega arith)))
