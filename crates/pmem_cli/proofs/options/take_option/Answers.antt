use Rattle.std.proofs.Common.{◌≡◌, ◌∙◌, ◌∷◌, sym, ap}
use Rattle.std.specs.Prelude.{map, string_bytes, Option, None, Some}
use Rattle.pmem_cli.specs.declared.options.Choices.{Choices}
use Rattle.pmem_cli.specs.Words.{map_some, take_options}
use Rattle.pmem_cli.proofs.WordLemmas.{taken-no_parts, taken-no_value, taken-on, IfNone-fact}
use Rattle.pmem_cli.proofs.options.take_option.Goals as goal

pub returns-in_err-name-clause-none : goal.returns-in_err-name-clause-none
returns-in_err-name-clause-none c =
    let words = map (string_bytes {Z = Rattle.std.proofs.Common.Global}) c.args.words.now in
    IfNone-fact c.from_residual.result (◌≡◌ {A = Option Choices} (take_options c.args.allowed c.args.choices (c.args.word.now ∷ words)) None)
    (taken-no_parts c.args.allowed c.args.choices c.args.word.now words c.requires.valued (rw c.as_bytes.ensures.value at c.in_err-name.ensures))

pub returns-in_err-value-clause-none : goal.returns-in_err-value-clause-none
returns-in_err-value-clause-none c =
    let words = map (string_bytes {Z = Rattle.std.proofs.Common.Global}) c.args.words.now in
    IfNone-fact c.from_residual-in_err-value.result (◌≡◌ {A = Option Choices} (take_options c.args.allowed c.args.choices (c.args.word.now ∷ words)) None)
    (taken-no_value c.args.allowed c.args.choices c.args.word.now words c.in_ok-name.name.now (map_some (λ value. value.now) c.in_ok-name.own) c.requires.valued
    (rw c.as_bytes.ensures.value at c.in_ok-name.ensures) c.in_err-value.ensures.value)

pub returns-in_err-more-clause-none : goal.returns-in_err-more-clause-none
returns-in_err-more-clause-none c =
    let words = map (string_bytes {Z = Rattle.std.proofs.Common.Global}) c.args.words.now in
    IfNone-fact c.from_residual-in_err-more.result (◌≡◌ {A = Option Choices} (take_options c.args.allowed c.args.choices (c.args.word.now ∷ words)) None)
    (taken-on c.args.allowed c.args.choices c.args.word.now words (map (string_bytes {Z = Rattle.std.proofs.Common.Global}) c.in_ok-value.rest.now) c.in_ok-name.name.now c.in_ok-value.value.now
    (map_some (λ value. value.now) c.in_ok-name.own) None c.requires.valued
    (rw c.as_bytes.ensures.value at c.in_ok-name.ensures) c.in_ok-value.ensures.value c.in_err-more.ensures.choices)

pub returns-clause-more : goal.returns-clause-more
returns-clause-more c =
    let words = map (string_bytes {Z = Rattle.std.proofs.Common.Global}) c.args.words.now in
    taken-on c.args.allowed c.args.choices c.args.word.now words (map (string_bytes {Z = Rattle.std.proofs.Common.Global}) c.in_ok-value.rest.now) c.in_ok-name.name.now c.in_ok-value.value.now
    (map_some (λ value. value.now) c.in_ok-name.own) (Some c.in_ok-more.more) c.requires.valued
    (rw c.as_bytes.ensures.value at c.in_ok-name.ensures) c.in_ok-value.ensures.value c.in_ok-more.ensures.choices
