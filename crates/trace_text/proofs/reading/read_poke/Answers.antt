use Rattle.std.proofs.Common.{◌≡◌, ◌∙◌, sym, ap}
use Rattle.std.specs.Prelude.{Err}
use Rattle.pmem_base.specs.declared.commands.Kind.TheVariants.{Count}
use Rattle.collision_witness.specs.Words.{words_of}
use Rattle.plain_model.specs.Grammar.{poke_values}
use Rattle.trace_text.proofs.LineLemmas.{poke_by_line, poked}
use Rattle.trace_text.proofs.reading.read_poke.Goals as goal
use Rattle.trace_text.proofs.reading.read_poke.Goals.{in-Err-Count, in_default-matches, in_default-matches-2}

pub returns-then-matches : goal.returns-then-matches
returns-then-matches c = elim c.match-matches.branch [
  | in-Err-Count w ↦
      let at = c.in-Some.at.now in
      let words = words_of c.in-Some.rest.now in
      let kind : w.in-Err-Count.field-0 ≡ Count = rw w.in-Err-Count.is at w.in-Err-Count.field-0-is in
      sym (ap poke_values c.in-Some.ensures.some ∙ poke_by_line at words ∙ ap (poked at) (sym c.read_one_line-line.ensures ∙ w.in-Err-Count.is ∙ ap Err kind))
  | in_default-matches w ↦ cc
  | in_default-matches-2 w ↦ cc
]
