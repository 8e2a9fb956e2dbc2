-- The lowest place not done, and the counters there.
use Rattle.std.proofs.Common.{ℕ, ◌≡◌, ◌+◌, ◌*◌, sym, ap, ◌∙◌, arith, get_or, Some}
use Rattle.std.specs.Prelude.{slice_get, unwrap_or}
use Rattle.std.proofs.lemmas.Option.{slice_get-get_or}
use Rattle.pmem_base.specs.Registers.{not_done, old_major}
use Rattle.split_counters.specs.Blocks.{block_counter}
use Rattle.page_reencrypt.proofs.Holding.{old_major-unpacked}
use Rattle.page_reencrypt.proofs.DoneBits.{not_done-small}
use Rattle.pmem_engine.proofs.resealing.held_line.Goals as goal

pub overflow_add-result-2 : goal.overflow_add-result-2
overflow_add-result-2 c =
    let old : c.unpack-old.result.major ≡ old_major c.args.register.now =
    ap (λ block. block.major) c.unpack-old.ensures.value ∙ sym (old_major-unpacked c.args.register.now) in
    let below = c.requires.major in
    omega (arith, old, below)

pub returns : goal.returns
returns c =
    let left : ℕ = get_or (not_done c.args.register.now) 0 0 in
    let lowest : slice_get (not_done c.args.register.now) 0 ≡ Some left =
    slice_get-get_or (not_done c.args.register.now) 0 0 c.requires.some_left in
    let place : c.unwrap_or-i.result ≡ left =
    c.unwrap_or-i.ensures ∙ ap (λ found. unwrap_or found 0) (c.next_left.ensures.least ∙ lowest) in
    let first : c.from.result ≡ left = c.from.ensures ∙ place in
    let second : c.from-2.result ≡ left = c.from-2.ensures ∙ place in
    record {
      place = left;
      lowest = lowest;
      inside = not_done-small c.args.register.now 0 0 c.requires.some_left;
      its_line = ap (λ n. 64 * c.args.register.now.page + n) first;
      now =
          ap (block_counter c.unpack-old.result) second
          ∙ ap (λ block. block_counter block left) c.unpack-old.ensures.value;
      next =
          ap (λ n. record { major = n + 1; minor = 0 })
          (ap (λ block. block.major) c.unpack-old.ensures.value ∙ sym (old_major-unpacked c.args.register.now));
    }
