-- The first bank that has one.
use Rattle.std.proofs.Common.{◌≡◌, ◌<◌, ◌+◌, ℕ, List, length, get_or, sym, ap, ◌∙◌, arith, rules}
use Rattle.std.specs.Prelude.{is_some}
use Rattle.std.specs.List.{range_with_len}
use Rattle.std.proofs.lemmas.List.{take_all}
use Rattle.std.proofs.lemmas.List.FromFn.{length-range_with_len, get_or-range_with_len}
use Rattle.meta_cache.specs.State.{dirty_in_bank}
use Rattle.meta_cache.proofs.ListLemmas.{first_answer, no_answer_more}
use Rattle.meta_cache.proofs.cache.Cache.first_dirty.Goals as goal

pub returns-then-is_some : goal.returns-then-is_some
returns-then-is_some c =
    let banks = c.args.self.now.banks in
    let count : length banks ≡ c.levels-bank-end.result + 1 = search rules in
    let numbers : List ℕ = range_with_len 0 (length banks) in
    let low : c.banks.bank < length banks = omega arith in
    let at : get_or numbers c.banks.bank 0 ≡ c.banks.bank = omega (arith, get_or-range_with_len 0 (length banks) c.banks.bank 0 low) in
    let here : c.dirty_in-found.result ≡ dirty_in_bank banks (get_or numbers c.banks.bank 0) = search rules in
    here
    ∙ first_answer (dirty_in_bank banks) numbers c.banks.bank 0 (omega (arith, low, length-range_with_len 0 (length banks)))
    c.banks.invariant (ap is_some (sym here) ∙ sym c.if-is_some.ensures)

pub banks-preserved : goal.banks-preserved
banks-preserved c =
    let banks = c.args.self.now.banks in
    let count : length banks ≡ c.levels-bank-end.result + 1 = search rules in
    let numbers : List ℕ = range_with_len 0 (length banks) in
    let low : c.banks.bank < length banks = omega arith in
    let at : get_or numbers c.banks.bank 0 ≡ c.banks.bank = omega (arith, get_or-range_with_len 0 (length banks) c.banks.bank 0 low) in
    let here : c.dirty_in-found.result ≡ dirty_in_bank banks (get_or numbers c.banks.bank 0) = search rules in
    no_answer_more (dirty_in_bank banks) numbers c.banks.bank 0 (omega (arith, low, length-range_with_len 0 (length banks)))
    c.banks.invariant (ap is_some (sym here) ∙ sym c.if-is_some.ensures)

pub returns : goal.returns
returns c = search (rules, length-range_with_len, take_all)
