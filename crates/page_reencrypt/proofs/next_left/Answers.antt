use Rattle.std.proofs.Common.{◌<◌, ◌+◌, ◌^◌, Some, true≢false, refl, ap, sym, ◌∙◌, arith, rules}
use Rattle.page_reencrypt.proofs.DoneBits.{none_left_from_done}
use Rattle.page_reencrypt.proofs.LinesLeft.{least_left, none_left, some_left_from_word}
use Rattle.page_reencrypt.proofs.next_left.Goals as goal

pub returns-then-progress-clause-least : goal.returns-then-progress-clause-least
returns-then-progress-clause-least c = sym (none_left c.args.progress.now c.if-progress.true)

pub returns-then-progress-clause-none : goal.returns-then-progress-clause-none
returns-then-progress-clause-none c = ((λ none. none_left_from_done c.args.progress.now c.if-progress.true), (λ empty. refl))

pub returns-clause-least : goal.returns-clause-least
returns-clause-least c =
    let fits : c.args.progress.now.done < 2 ^ 64 = search rules in
    let room : c.args.progress.now.done + 1 < 2 ^ 64 = omega (arith, fits, c.if-progress.false) in
    ap Some c.trailing_ones.ensures ∙ sym (least_left c.args.progress.now room)

pub returns-clause-none : goal.returns-clause-none
returns-clause-none c =
    let some = some_left_from_word c.args.progress.now (search rules) c.if-progress.false in
    ((λ none. absurd (true≢false none)), (λ empty. absurd (omega (arith, some, empty))))
