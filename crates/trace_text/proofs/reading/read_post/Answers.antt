use Rattle.std.proofs.Common.{◌≡◌, ◌∙◌, ◌∷◌, ℕ, sym, ap}
use Rattle.std.specs.Prelude.{Result, Ok, Err}
use Rattle.pmem_base.specs.declared.commands.Command.{Command}
use Rattle.pmem_base.specs.declared.commands.Command.TheVariants as Do
use Rattle.pmem_base.specs.declared.commands.Kind.{Kind}
use Rattle.pmem_base.specs.declared.lines.Line.{Line}
use Rattle.pmem_base.specs.declared.commands.Kind.TheVariants.{Count}
use Rattle.collision_witness.specs.Words.{words_of, ◌>>=◌}
use Rattle.plain_model.specs.Grammar.{post_with}
use Rattle.trace_text.proofs.LineLemmas.{post_by_line, posted}
use Rattle.trace_text.proofs.reading.read_post.Goals as goal
use Rattle.trace_text.proofs.reading.read_post.Goals.{in-Err-Count, in_default-matches, in_default-matches-2}

abbrev as_command : Result (ℕ × ℕ × Line) Kind → Result Command Kind
as_command found = found >>= λ found. Ok (Do.Post found.0 found.1 found.2)

pub returns-then-matches-clause-command : goal.returns-then-matches-clause-command
returns-then-matches-clause-command c = elim c.match-matches.branch [
  | in-Err-Count w ↦
      let port = c.in-Some.port.now in
      let at = c.in-Some-next_word.at.now in
      let words = words_of c.in-Some-next_word.rest.now in
      let kind : w.in-Err-Count.field-0 ≡ Count = rw w.in-Err-Count.is at w.in-Err-Count.field-0-is in
      sym (ap (post_with c.args.most) (c.in-Some.ensures.some ∙ ap (λ ws. port ∷ ws) c.in-Some-next_word.ensures.some)
      ∙ ap as_command (post_by_line c.args.most port at words)
      ∙ ap (λ line. as_command (posted c.args.most port at line)) (sym c.read_one_line-line.ensures ∙ w.in-Err-Count.is ∙ ap Err kind))
  | in_default-matches w ↦ cc
  | in_default-matches-2 w ↦ cc
]
