use Rattle.std.proofs.Common.{map, ◌+◌, ◌<◌, ◌≡◌, ◌∙◌, ℕ, zero, suc, true, false, List, [], ◌∷◌, ◌++◌, length, take, drop, refl, sym, ap, subst, arith, inl, inr}
use Rattle.std.specs.Prelude.{◌⊎◌, codes}
use Rattle.std.proofs.lemmas.Bool.{true≢false}
use Rattle.std.proofs.Math.Seq.{take-append_seam, drop-append_seam}
use Rattle.pmem_base.specs.declared.commands.Command.{Command}
use Rattle.hex.specs.Hex.{decode_pairs}
use Rattle.collision_witness.specs.Words.{words_of, without_return, number_up_to, hex_bytes}
use Rattle.plain_model.specs.Lines.{lines_of}
use Rattle.plain_model.specs.Words.{port_of}
use Rattle.plain_model.specs.Grammar.{command_of, command_among, reading_of_words, reading_among}
use Rattle.plain_model.specs.Run.{start, IsRunFrom, IsMemoryWanted}
use Rattle.evidence.specs.Rows.{weak_setup}
use Rattle.evidence.specs.Runs.{first_lines, first_steps}
use Rattle.evidence.proofs.runs.starved_run_refuted.Goals as goal

abbrev starved_lines : List (List ℕ)
starved_lines = first_lines ++ codes "reed 0 0" ∷ codes "drain 0" ∷ []

-- three steps have three commands
not_fewer : (commands : List Command) (k : ℕ) → map (λ step. step.command) first_steps ≡ commands → length commands ≡ k → k < 3 → ⊥
not_fewer commands k same count few = let three : 3 ≡ length commands = ap length same in omega (arith, three, count, few)

-- fewer lines have fewer commands, the next line is malformed, and more lines aren't in the grammar
not_starved : (k n : ℕ) → IsRunFrom weak_setup (start weak_setup) (take k starved_lines) first_steps → (k ≡ 0) ⊎ IsMemoryWanted n (drop k starved_lines) → ⊥
unfolding decode_pairs words_of without_return number_up_to hex_bytes port_of command_of command_among reading_of_words reading_among
not_starved zero n run wanted = not_fewer _ 0 run.commands_in_order refl (omega arith)
not_starved (suc zero) n run wanted = not_fewer _ 1 run.commands_in_order refl (omega arith)
not_starved (suc (suc zero)) n run wanted = not_fewer _ 1 run.commands_in_order refl (omega arith)
not_starved (suc (suc (suc zero))) n run wanted = not_fewer _ 2 run.commands_in_order refl (omega arith)
not_starved (suc (suc (suc (suc zero)))) n run wanted = not_fewer _ 2 run.commands_in_order refl (omega arith)
not_starved (suc (suc (suc (suc (suc zero))))) n run (inl none) = absurd (omega arith)
not_starved (suc (suc (suc (suc (suc zero))))) n run (inr wanted) = wanted.0
not_starved (suc (suc (suc (suc (suc (suc k)))))) n run wanted =
    let bad : false ≡ true = run.in_grammar 5 [] (omega arith) in absurd (true≢false (sym bad))

pub returns : goal.returns
unfolding lines_of
returns c ends =
    let n = length ends.front.before in
    let cut : starved_lines ≡ ends.front.before ++ ends.front.behind = ends.front.cut in
    let front : take n starved_lines ≡ ends.front.before = ap (take n) cut ∙ take-append_seam ends.front.before ends.front.behind in
    let rest : drop n starved_lines ≡ ends.front.behind = ap (drop n) cut ∙ drop-append_seam ends.front.before ends.front.behind in
    not_starved n (0 + n) (subst (λ ls. IsRunFrom weak_setup (start weak_setup) ls first_steps) (sym front) ends.front.run)
    (elim ends.wanting [ inl none ↦ inl (omega (arith, none)) | inr wanted ↦ inr (subst (IsMemoryWanted (0 + n)) (sym rest) wanted) ])
