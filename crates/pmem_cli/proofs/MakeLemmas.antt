-- Sample traces, command by command.
use Rattle.std.proofs.Common.{◌≡◌, ◌∙◌, ◌+◌, ◌<◌, ℕ, zero, suc, List, [], ◌∷◌, ◌++◌, refl, sym, ap, subst, arith, append_assoc, append-nil}
use Rattle.std.proofs.lemmas.List.Concat.{flat_map-append}
use Rattle.pmem_base.specs.declared.commands.Command.TheVariants as Do
use Rattle.plain_model.specs.Texts.{as_line, command_text}
use Rattle.pmem_cli.specs.Printed.{Output, Prints, PrintsFront}
use Rattle.pmem_cli.proofs.PrintLemmas.{Prints-trans, PrintsFront-trans, PrintsFront-more}
use Rattle.trace_text.specs.Samples.{sample_command, word_at, state_after_word, state_of_seed, commands_from, commands_text, sample_trace}

-- a number above 0
pub one_more : (n : ℕ) → 0 < n → (m : ℕ) × (n ≡ m + 1)
one_more zero more = absurd (omega arith)
one_more (suc m) more = (m, omega arith)

-- one more command of a sample was printed
pub sample-step : (so_far whole : List ℕ) (state number left m : ℕ) → left ≡ m + 1 → so_far ++ commands_text (commands_from state number left) ≡ whole
    → (so_far ++ as_line (command_text (sample_command number (word_at state)))) ++ commands_text (commands_from (state_after_word state) (number + 1) m) ≡ whole
sample-step so_far whole state number left m more same =
    let line = as_line (command_text (sample_command number (word_at state))) in
    let rest = commands_text (commands_from (state_after_word state) (number + 1) m) in
    let count : left ≡ suc m = omega (arith, more) in
    let cut : commands_text (commands_from state number left) ≡ line ++ rest = rw count refl in
    append_assoc so_far line rest ∙ ap (λ l. so_far ++ l) (sym cut) ∙ same

-- a sample ends with the counts
pub sample-ends : (seed count : ℕ) → commands_text (sample_trace seed count) ≡ commands_text (commands_from (state_of_seed seed) 1 count) ++ as_line (command_text Do.Stat)
unfolding sample_trace
sample-ends seed count =
    flat_map-append (λ command. as_line (command_text command)) (commands_from (state_of_seed seed) 1 count) (Do.Stat ∷ [])
    ∙ ap (λ l. commands_text (commands_from (state_of_seed seed) 1 count) ++ l) (append-nil (as_line (command_text Do.Stat)))

-- where no command is left, all were printed
pub sample-done : (so_far whole : List ℕ) (state number left : ℕ) → left ≡ 0 → so_far ++ commands_text (commands_from state number left) ≡ whole → so_far ≡ whole
sample-done so_far whole state number left none same =
    let nothing : commands_text (commands_from state number left) ≡ [] = rw none refl in
    sym (append-nil so_far) ∙ ap (λ l. so_far ++ l) (sym nothing) ∙ same

-- what was printed to its end
pub sample-whole : (a b c : Output) (so_far : List ℕ) (seed count state number left : ℕ) → left ≡ 0
    → so_far ++ commands_text (commands_from state number left) ≡ commands_text (commands_from (state_of_seed seed) 1 count)
    → Prints a b so_far → Prints b c (as_line (command_text Do.Stat)) → Prints a c (commands_text (sample_trace seed count))
sample-whole a b c so_far seed count state number left none same first second =
    let whole = sample-done so_far (commands_text (commands_from (state_of_seed seed) 1 count)) state number left none same in
    let text : so_far ++ as_line (command_text Do.Stat) ≡ commands_text (sample_trace seed count) =
    ap (λ l. l ++ as_line (command_text Do.Stat)) whole ∙ sym (sample-ends seed count) in
    subst (Prints a c) text (Prints-trans a b c so_far (as_line (command_text Do.Stat)) first second)

-- the sink failed at the last command
pub sample-end_front : (a b c : Output) (so_far : List ℕ) (seed count state number left : ℕ) → left ≡ 0
    → so_far ++ commands_text (commands_from state number left) ≡ commands_text (commands_from (state_of_seed seed) 1 count)
    → Prints a b so_far → PrintsFront b c (as_line (command_text Do.Stat)) → PrintsFront a c (commands_text (sample_trace seed count))
sample-end_front a b c so_far seed count state number left none same first second =
    let whole = sample-done so_far (commands_text (commands_from (state_of_seed seed) 1 count)) state number left none same in
    let text : so_far ++ as_line (command_text Do.Stat) ≡ commands_text (sample_trace seed count) =
    ap (λ l. l ++ as_line (command_text Do.Stat)) whole ∙ sym (sample-ends seed count) in
    subst (PrintsFront a c) text (PrintsFront-trans a b c so_far (as_line (command_text Do.Stat)) first second)

-- the sink failed at some command
pub sample-front : (a b c : Output) (so_far : List ℕ) (seed count state number left m : ℕ) → left ≡ m + 1
    → so_far ++ commands_text (commands_from state number left) ≡ commands_text (commands_from (state_of_seed seed) 1 count)
    → Prints a b so_far → PrintsFront b c (as_line (command_text (sample_command number (word_at state)))) → PrintsFront a c (commands_text (sample_trace seed count))
sample-front a b c so_far seed count state number left m more same first second =
    let line = as_line (command_text (sample_command number (word_at state))) in
    let rest = commands_text (commands_from (state_after_word state) (number + 1) m) in
    let stat = as_line (command_text Do.Stat) in
    let next = sample-step so_far (commands_text (commands_from (state_of_seed seed) 1 count)) state number left m more same in
    let text : (so_far ++ line) ++ (rest ++ stat) ≡ commands_text (sample_trace seed count) =
    sym (append_assoc (so_far ++ line) rest stat) ∙ ap (λ l. l ++ stat) next ∙ sym (sample-ends seed count) in
    subst (PrintsFront a c) text (PrintsFront-more a c (so_far ++ line) (rest ++ stat) (PrintsFront-trans a b c so_far line first second))
