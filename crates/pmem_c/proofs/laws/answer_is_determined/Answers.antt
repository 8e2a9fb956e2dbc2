use Rattle.std.proofs.Common.{◌∙◌, sym}
use Rattle.std.proofs.lemmas.Option.{same_Some}
use Rattle.pmem_c.proofs.AnswerLemmas.{undisturbed}
use Rattle.pmem_c.proofs.laws.answer_is_determined.Goals as goal

pub returns : goal.returns
returns c = λ words trace a b put_a put_b first second.
    let x = first.answered in
    let y = second.answered in
    let alike =
    c.run_is_determined.ensures _ trace _ _ _ x.call y.call x.machine y.machine (undisturbed words trace a put_a first)
    (undisturbed words trace b put_b second) in
    (alike.status, same_Some _ _ (alike.first ∙ sym alike.second))
