use Rattle.std.proofs.Common.{◌≡◌, ◌∙◌, ◌∷◌, sym, ap, rules}
use Rattle.std.specs.Prelude.{map, string_bytes, Option, None, Some}
use Rattle.pmem_cli.specs.declared.options.Choices.{Choices}
use Rattle.pmem_cli.specs.Words.{take_options}
use Rattle.pmem_cli.proofs.WordLemmas.{flag-step, IfNone-fact}
use Rattle.pmem_cli.proofs.options.take_choice.Goals as goal

pub returns-in_err-more-clause-none : goal.returns-in_err-more-clause-none
returns-in_err-more-clause-none c =
    let words = map (string_bytes {Z = Rattle.std.proofs.Common.Global}) c.args.words.now in
    IfNone-fact c.from_residual.result (◌≡◌ {A = Option Choices} (take_options c.args.allowed c.args.choices (c.args.word.now ∷ words)) None)
    (flag-step c.args.allowed c.args.choices c.args.word.now words None (search (rules, c.is_log_flag.ensures, c.if-not-is_log_flag.false)) c.in_err-more.ensures.choices)

pub returns-clause-more : goal.returns-clause-more
returns-clause-more c =
    let words = map (string_bytes {Z = Rattle.std.proofs.Common.Global}) c.args.words.now in
    flag-step c.args.allowed c.args.choices c.args.word.now words (Some c.in_ok-more.more)
    (search (rules, c.is_log_flag.ensures, c.if-not-is_log_flag.false)) c.in_ok-more.ensures.choices
