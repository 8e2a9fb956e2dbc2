-- The run of a small trace.
use Rattle.std.proofs.Common.{rules, refl, [], ◌∷◌, ◌++◌}
use Rattle.std.specs.Prelude.{◌≡◌, ℕ, List, codes, All, IsOk, true, false, not}
use Rattle.std.specs.List.{list_all}
use Rattle.std.proofs.lemmas.List.Elements.{All-nil, All-cons}
use Rattle.std.proofs.lemmas.Bool.{not-true, and_parts}
use Rattle.pmem_base.specs.Lines.{zero_line}
use Rattle.pmem_base.specs.WaitingWrites.{no_writes}
use Rattle.hex.specs.Hex.{decode_pairs}
use Rattle.plain_model.specs.Defaults.{default_shape, default_keys}
use Rattle.plain_model.specs.State.{no_flags, start_state}
use Rattle.plain_model.specs.View.{start_view}
use Rattle.collision_witness.specs.Words.{words_of, without_return, number_up_to, hex_bytes}
use Rattle.plain_model.specs.Lines.{lines_of, is_line_end, IsWithin}
use Rattle.plain_model.specs.Words.{port_of}
use Rattle.plain_model.specs.Grammar.{command_of, command_among, reading_of_words, reading_among, reading_of}
use Rattle.plain_model.specs.Run.{start, machine_after, Step, IsRunFrom}
use Rattle.plain_model.specs.Answers.{is_shown}
use Rattle.evidence.specs.Rows.{weak_setup}
use Rattle.evidence.specs.Runs.{hex_zeros, first_steps}
use Rattle.evidence.specs.Runs.{first_lines}

-- each element of a list of these has the fact
all_of_five : {X : Type 0} (P : X → Type 0) (a b c d e : X) → P a → P b → P c → P d → P e
    → All P (a ∷ b ∷ c ∷ d ∷ e ∷ [])
all_of_five P a b c d e has_a has_b has_c has_d has_e =
    All-cons P a (b ∷ c ∷ d ∷ e ∷ []) has_a
    (All-cons P b (c ∷ d ∷ e ∷ []) has_b
    (All-cons P c (d ∷ e ∷ []) has_c (All-cons P d (e ∷ []) has_d (All-cons P e [] has_e (All-nil P)))))

all_of_three : {X : Type 0} (P : X → Type 0) (a b c : X) → P a → P b → P c → All P (a ∷ b ∷ c ∷ [])
all_of_three P a b c has_a has_b has_c =
    All-cons P a (b ∷ c ∷ []) has_a (All-cons P b (c ∷ []) has_b (All-cons P c [] has_c (All-nil P)))

abbrev IsLineInGrammar : List ℕ → Type 0
IsLineInGrammar line = IsOk (reading_of line)

abbrev IsNotShown : Step → Type 0
IsNotShown step = is_shown step.reply.answer ≡ false

pub first_run : IsRunFrom weak_setup (start weak_setup) first_lines first_steps
unfolding zero_line decode_pairs default_shape default_keys no_flags no_writes start_state start_view lines_of without_return words_of number_up_to port_of hex_bytes command_of command_among reading_of_words reading_among start machine_after
first_run =
    record {
      in_grammar = all_of_five IsLineInGrammar _ _ _ _ _ refl refl refl refl refl;
      commands_in_order = refl;
      answered = search rules;
      none_shown = all_of_three IsNotShown _ _ _ refl refl refl;
    }

-- no byte of these is an LF
within_of : (bytes : List ℕ) → list_all (λ byte. not (is_line_end byte)) bytes ≡ true → IsWithin bytes
within_of [] h = All-nil (λ byte. is_line_end byte ≡ false)
within_of (byte ∷ bytes) h =
    let parts = and_parts (not (is_line_end byte)) (list_all (λ b. not (is_line_end b)) bytes) h in
    All-cons (λ b. is_line_end b ≡ false) byte bytes (not-true (is_line_end byte) parts.0) (within_of bytes parts.1)

pub first_lines_within : All IsWithin first_lines
first_lines_within =
    all_of_five IsWithin _ _ _ _ _ (within_of (codes "post 0 0 " ++ hex_zeros) refl) (within_of (codes "# then") refl)
    (within_of (codes "drain 0\r") refl) (within_of [] refl) (within_of (codes "read 0 0") refl)

pub rest_within : IsWithin (codes "re")
rest_within = within_of (codes "re") refl
