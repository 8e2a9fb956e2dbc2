use Rattle.std.proofs.Common.{◌≡◌, ◌∙◌, sym, subst}
use Rattle.std.specs.Prelude.{Ok, Err, Result}
use Rattle.pmem_base.specs.declared.commands.Kind.{Kind}
use Rattle.pmem_base.specs.declared.answers.Answer.{Answer}
use Rattle.plain_model.specs.Texts.{IsAnswerText}
use Rattle.trace_text.proofs.AnswerLemmas.{text_read}
use Rattle.trace_text.proofs.answers.read_answer.Goals as goal

abbrev Read : Type 0
Read = Result Answer Kind

pub returns-in-Err-clause-none : goal.returns-in-Err-clause-none
returns-in-Err-clause-none c answer text =
    let read = text_read c.args.command.now c.args.line.now answer text in
    let failed : ◌≡◌ {A = Read} (Err c.in-Err.field-0) (Ok answer) = sym c.in-Err.is ∙ c.read_loosely.ensures.answer ∙ read in cc

pub returns-in-Err-clause-read_back : goal.returns-in-Err-clause-read_back
returns-in-Err-clause-read_back c answer text =
    let read = text_read c.args.command.now c.args.line.now answer text in
    let failed : ◌≡◌ {A = Read} (Err c.in-Err.field-0) (Ok answer) = sym c.in-Err.is ∙ c.read_loosely.ensures.answer ∙ read in cc

pub returns-then-is_text_of-clause-read_back : goal.returns-then-is_text_of-clause-read_back
returns-then-is_text_of-clause-read_back c answer text =
    let read = text_read c.args.command.now c.args.line.now answer text in
    let both : ◌≡◌ {A = Read} (Ok c.in-Ok.answer) (Ok answer) = sym c.in-Ok.is ∙ c.read_loosely.ensures.answer ∙ read in cc

pub returns-else-is_text_of-clause-none : goal.returns-else-is_text_of-clause-none
returns-else-is_text_of-clause-none c answer text =
    let read = text_read c.args.command.now c.args.line.now answer text in
    let both : ◌≡◌ {A = Read} (Ok c.in-Ok.answer) (Ok answer) = sym c.in-Ok.is ∙ c.read_loosely.ensures.answer ∙ read in
    let same : answer ≡ c.in-Ok.answer = cc in
    let yes = c.is_text_of.ensures.1 (subst (IsAnswerText c.args.command.now c.args.line.now) same text) in
    let no = c.if-is_text_of.false in cc

pub returns-else-is_text_of-clause-read_back : goal.returns-else-is_text_of-clause-read_back
returns-else-is_text_of-clause-read_back c answer text =
    let read = text_read c.args.command.now c.args.line.now answer text in
    let both : ◌≡◌ {A = Read} (Ok c.in-Ok.answer) (Ok answer) = sym c.in-Ok.is ∙ c.read_loosely.ensures.answer ∙ read in
    let same : answer ≡ c.in-Ok.answer = cc in
    let yes = c.is_text_of.ensures.1 (subst (IsAnswerText c.args.command.now c.args.line.now) same text) in
    let no = c.if-is_text_of.false in cc
