-- A trace's bytes with its steps.
use Rattle.std.specs.Prelude.{ℕ, List, [], ◌∷◌, ◌++◌, codes, replicate}
use Rattle.pmem_base.specs.declared.commands.Command.TheVariants as Do
use Rattle.pmem_base.specs.declared.answers.Answer.TheVariants as Say
use Rattle.pmem_base.specs.Lines.{zero_line}
use Rattle.plain_model.specs.Run.{Step}
use Rattle.evidence.specs.Rows.{zero_post, plain, drained_reply}

-- 64 bytes 0 in hex
abbrev pub hex_zeros : List ℕ
hex_zeros = replicate 128 0x30

abbrev pub first_trace : List ℕ
first_trace = codes "post 0 0 " ++ hex_zeros ++ codes "\n# then\ndrain 0\r\n\nread 0 0\n"

-- its lines
abbrev pub first_lines : List (List ℕ)
first_lines =
    (codes "post 0 0 " ++ hex_zeros) ∷ codes "# then" ∷ codes "drain 0\r" ∷ [] ∷ codes "read 0 0" ∷ []

-- the drain seals its line, in seven steps
abbrev pub first_steps : List Step
first_steps =
    record { command = zero_post; reply = plain Say.Ok }
    ∷ record { command = Do.Drain 0; reply = drained_reply }
    ∷ record { command = Do.Read 0 0; reply = plain (Say.Got zero_line 0) }
    ∷ []
