use Rattle.std.proofs.Common.{ℕ, Some, true≢false, refl, ap, sym, ◌∙◌, arith, rules}
use Rattle.pmem_base.specs.Registers.{with_done}
use Rattle.page_reencrypt.proofs.DoneBits.{none_left_from_done, not_done-with_done}
use Rattle.page_reencrypt.proofs.LinesLeft.{word_done, word_fits, marked-none, marked-some, some_left_from_word}
use Rattle.page_reencrypt.proofs.mark.Goals as goal

pub returns-then-done-clause-value : goal.returns-then-done-clause-value
returns-then-done-clause-value c =
    sym (marked-none c.args.progress.now c.args.i (sym (word_done c.args.progress.now c.args.i c.requires) ∙ c.if-done.true))

pub returns-then-done-clause-none : goal.returns-then-done-clause-none
returns-then-done-clause-none c = (
  (λ none. none_left_from_done (with_done c.args.progress.now c.args.i) (sym (word_done c.args.progress.now c.args.i c.requires) ∙ c.if-done.true)),
  (λ empty. refl),
)

pub returns-then-done-clause-lines_left : goal.returns-then-done-clause-lines_left
returns-then-done-clause-lines_left c = not_done-with_done c.args.progress.now c.args.i

pub returns-clause-value : goal.returns-clause-value
returns-clause-value c =
    let progress = c.args.progress.now in
    let word = word_done c.args.progress.now c.args.i c.requires in
    ap (λ (done : ℕ). Some (record progress { done = done })) word
    ∙ sym (marked-some progress c.args.i
    (some_left_from_word (with_done progress c.args.i) (word_fits progress c.args.i c.requires (search rules)) (λ full. c.if-done.false (word ∙ full))))

pub returns-clause-none : goal.returns-clause-none
returns-clause-none c =
    let progress = c.args.progress.now in
    let word = word_done c.args.progress.now c.args.i c.requires in
    let some = some_left_from_word (with_done progress c.args.i) (word_fits progress c.args.i c.requires (search rules)) (λ full. c.if-done.false (word ∙ full)) in
    ((λ none. absurd (true≢false none)), (λ empty. absurd (omega (arith, some, empty))))

pub returns-clause-lines_left : goal.returns-clause-lines_left
returns-clause-lines_left c = not_done-with_done c.args.progress.now c.args.i
