-- Sample traces: their commands are made of the words of a generator, SplitMix64.
use Rattle.std.specs.Prelude.{ℕ, zero, suc, ◌+◌, ◌/◌, ◌%◌, ◌^◌, ◌==◌, nat_le, List, [], ◌∷◌, ◌++◌, if◌then◌else◌}
use Rattle.std.specs.List.{flat_map}
use Rattle.std.specs.Int.{w64, from_le_bytes, to_le_bytes}
use Rattle.rand_xoshiro.specs.SplitMix64.{mix_u64}
use Rattle.pmem_base.specs.declared.commands.Command.{Command}
use Rattle.pmem_base.specs.declared.commands.Command.TheVariants as Do
use Rattle.pmem_base.specs.Lines.{filled_line}
use Rattle.plain_model.specs.Texts.{as_line, command_text}

-- ---- the parts of a word, whose bit 0 is the lowest

-- bits 4 to 6
abbrev pub sample_port : ℕ → ℕ
sample_port word = word / 2 ^ 4 % 8

-- a data line by the bits from 8 on: one of the first four if bit 40 is set, else one of 1,024
abbrev pub sample_place : ℕ → ℕ
sample_place word = if word / 2 ^ 40 % 2 == 1 then word / 2 ^ 8 % 4 else word / 2 ^ 8 % 1024

-- bits 48 to 55
abbrev pub sample_byte : ℕ → ℕ
sample_byte word = word / 2 ^ 48 % 256

-- ---- one command

-- a line of equal bytes is posted
abbrev pub sample_post : ℕ → ℕ → Command
sample_post port word = Do.Post port (sample_place word) (filled_line (sample_byte word))

-- the lowest four bits tell the command
unfoldable pub common_command : ℕ → Command
common_command word =
    if nat_le (word % 16) 6 then sample_post (sample_port word) word
    else if nat_le (word % 16) 11 then Do.Drain (sample_port word)
    else if nat_le (word % 16) 13 then Do.Read (sample_port word) (sample_place word)
    else if word % 16 == 14 then Do.Turn
    else Do.Flush

-- Command number i, counted from 1: of 512 in a row, five cut power in a fence and recover.
unfoldable pub sample_command : ℕ → ℕ → Command
sample_command i word =
    if i % 512 == 508 then Do.Cut (word / 2 ^ 8 % 4)
    else if i % 512 == 509 then sample_post 0 word
    else if i % 512 == 510 then Do.Fence 0
    else if i % 512 == 511 then Do.Off
    else if i % 512 == 0 then Do.On
    else common_command word

-- ---- the words

-- the generator's state that a seed stands for, by its eight bytes, the lowest first
abbrev pub state_of_seed : ℕ → ℕ
state_of_seed seed = from_le_bytes w64 (to_le_bytes w64 seed)

-- the word that a state gives
unfoldable pub word_at : ℕ → ℕ
word_at state = (mix_u64 state).0

-- the state after it
unfoldable pub state_after_word : ℕ → ℕ
state_after_word state = (mix_u64 state).1

-- ---- traces

-- that many commands from number i on, with one word for each
abbrev pub commands_from : ℕ → ℕ → ℕ → List Command
commands_from state i zero = []
commands_from state i (suc count) =
    sample_command i (word_at state) ∷ commands_from (state_after_word state) (i + 1) count

-- the sample trace of a seed and a count: that many commands, and the counts
unfoldable pub sample_trace : ℕ → ℕ → List Command
sample_trace seed count = commands_from (state_of_seed seed) 1 count ++ Do.Stat ∷ []

-- the text of commands, each with LF
abbrev pub commands_text : List Command → List ℕ
commands_text commands = flat_map (λ command. as_line (command_text command)) commands

-- ---- a maker of commands

pub record Making : Type 0 where
  -- the generator's state
  pub state : ℕ
  -- the number of the next command, counted from 1; it goes from 2^64 - 1 on to 0, and 512 divides 2^64
  pub number : ℕ
