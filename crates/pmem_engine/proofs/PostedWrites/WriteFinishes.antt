-- The page that a write finishes first: its marks, and that none is a seal of the written line.
use Rattle.std.proofs.Common.{rules, ℕ, zero, suc, ◌≡◌, ◌≢◌, ◌<◌, ◌≤◌, ◌+◌, ◌*◌, Bool, true, false, cond, List, [], ◌∷◌, length, map, get_or, Option, Some, None, Result, refl, sym, ap, ap₂, subst, ◌∙◌, arith}
use Rattle.std.specs.Prelude.{◌||◌, All, IsOk}
use Rattle.std.proofs.lemmas.Bool.{or_parts, ne_eqb}
use Rattle.std.proofs.lemmas.List.{length-map}
use Rattle.std.proofs.lemmas.List.Folds.{list_any-append}
use Rattle.std.proofs.lemmas.List.Elements.{All-nil, All-head, All-tail}
use Rattle.std.proofs.lemmas.List.Sums.{sum_by-cons}
use Rattle.pmem_base.specs.declared.registers.Progress.{Progress}
use Rattle.pmem_base.specs.declared.answers.Mark.{Mark}
use Rattle.pmem_base.specs.Layout as layout
use Rattle.pmem_base.specs.Layout.{page_of, index_in_page}
use Rattle.pmem_base.specs.Registers.{is_done, not_done, empty_progress}
use Rattle.page_reencrypt.specs.Registers.{is_holding, register_held}
use Rattle.page_reencrypt.proofs.DoneBits.{not_done-small, not_done-not_done}
use Rattle.board.specs.Device.{Device}
use Rattle.meta_path.specs.Work.{told_line}
use Rattle.suite.specs.Formulas.{Formulas}
use Rattle.suite.specs.Setup.{Setup}
use Rattle.plain_model.specs.State.{Memory}
use Rattle.plain_model.specs.Asked.{Moment, reseal_mark}
use Rattle.plain_model.specs.Bounds.{is_seal, seal_count}
use Rattle.pmem_engine.specs.declared.fault.LineFault.{LineFault}
use Rattle.pmem_engine.specs.Parts.{Parts, regs_of, AreTrusted, AreSound}
use Rattle.pmem_engine.specs.Outcomes.{of_line, outcome_of, is_seal_of, is_sealed_by, TakesSteps, TakesAtMost}
use Rattle.pmem_engine.specs.CallFacts.{IsMemory, IsUnrefused, moment_in, IsWork, reseal_work, KeepsMetaLines, IsUnderMinorZero, AreUnderMinorZero}
use Rattle.pmem_engine.specs.Resealing.{register_in}
use Rattle.pmem_engine.specs.Writing.{HasLeftOut, reseals_of, IsFrontOf, HasFinishMarks, AnswersFinish, CountsFinish, HasFinishedPage, HasFinishedWhere, HasFinishedFor, register_to_finish}
use Rattle.pmem_engine.proofs.PostedWrites.WriteAsks.{marks_of_finish}
use Rattle.pmem_engine.proofs.PostedWrites.WriteParts.{IsWritePart, alone_part}
use Rattle.pmem_engine.proofs.PostedWrites.WritePremises.{few_left}
use Rattle.pmem_engine.proofs.PostedWrites.WriteSteps.{steps_most, more_most}
use Rattle.pmem_engine.proofs.CallEnds.ExactWork.{work_alone}

-- ---- none of the marks is the written line's

held_none : (registers : List Progress) (a : ℕ) → register_held registers a ≡ None → (n : ℕ) (d : Progress) → n < length registers
    → is_holding (get_or registers n d) a ≡ false
held_none [] a none n d inside = absurd (omega (arith, inside))
held_none (register ∷ registers) a none zero d inside = go (is_holding register a) refl
  where
    go : (b : Bool) → is_holding register a ≡ b → is_holding register a ≡ false
    go v0 is = search rules
held_none (register ∷ registers) a none (suc n) d inside = held_none registers a (go (is_holding register a) refl) n d (omega (arith, inside))
  where
    go : (b : Bool) → is_holding register a ≡ b → register_held registers a ≡ None
    go v0 is = search rules

-- the lines not done of a register that doesn't hold the line are others
other_places : (register : Progress) (at : ℕ) → is_holding register at ≡ false
    → All (λ i. 64 * register.page + i ≢ at) (not_done register)
other_places register at free k d inside same =
    let i = get_or (not_done register) k d in
    let small : i < 64 = not_done-small register k d inside in
    let open_ : is_done register i ≡ false = not_done-not_done register k d inside in
    let its_page : register.page ≡ page_of at = omega (arith, small, same) in
    let its_place : i ≡ index_in_page at = omega (arith, small, same) in
    search rules

other_reseals : (f : Formulas) (now : Moment) (page at : ℕ) (places : List ℕ) → All (λ i. 64 * page + i ≢ at) places
    → is_sealed_by (map (reseal_mark f now page) places) at ≡ false
other_reseals f now page at [] all = refl
other_reseals f now page at (i ∷ places) all =
    ap₂ (λ s t. s || t) (ne_eqb (64 * page + i) at (All-head (λ j. 64 * page + j ≢ at) i places all))
    (other_reseals f now page at places (All-tail (λ j. 64 * page + j ≢ at) i places all))

-- ---- all of them are seals

seals_counted : (f : Formulas) (now : Moment) (page : ℕ) (places : List ℕ)
    → seal_count (map (reseal_mark f now page) places) ≡ length (map (reseal_mark f now page) places)
seals_counted f now page [] = refl
seals_counted f now page (i ∷ places) =
    omega (
      arith,
      seals_counted f now page places,
      sum_by-cons (λ m. cond (is_seal m) 1 0) (reseal_mark f now page i) (map (reseal_mark f now page) places),
    )

-- ---- the marks made are a front

pub finish_front : (asked made : List Mark) (answer : Result Unit LineFault) → HasFinishMarks asked made answer → IsFrontOf asked made
finish_front asked made v2 it = search rules

-- ---- the register is one of them

found_inside : (registers : List Progress) (page n : ℕ) → register_to_finish registers page ≡ Some n → n < length registers
found_inside registers page n found = search rules

-- ---- a page finished, or none

-- the marks that the finishing asks for
abbrev pub finish_asked : Bool → Setup → ℕ → Parts → Memory → List Mark
finish_asked true setup page old memory =
    marks_of_finish setup memory old (register_to_finish (regs_of old).progress.items page)
finish_asked false setup page old memory = []

pub record HasFinishedSome (setup : Setup) (at : ℕ) (asked : Memory → List Mark) (old new : Parts) (answer : Result Unit LineFault) :
    Type 0 where
  pub made : List Mark
  pub part : IsWritePart setup at (outcome_of (of_line answer)) made old new
  pub marks :
      AreTrusted setup old → (memory : Memory) → IsMemory setup memory old → HasFinishMarks (asked memory) made answer
  pub answered :
      AreTrusted setup old → (memory : Memory) → IsMemory setup memory old
      → AnswersFinish setup (asked memory) made new answer
  pub unrefused : AreSound setup old → IsUnrefused (of_line answer)
  pub counts :
      AreTrusted setup old → (memory : Memory) → IsMemory setup memory old
      → CountsFinish (length (asked memory)) made old new answer
  pub seals : (memory : Memory) → seal_count (asked memory) ≡ length (asked memory)
  pub few : length made ≤ 64
  pub minors : AreUnderMinorZero made
  pub made_seals : IsOk answer → seal_count made ≡ length made
  pub work : IsOk answer → IsWork (reseal_work (length made)) old new
  pub meta_lines : IsOk answer → KeepsMetaLines setup.shape old.device.lines new.device.lines
  pub few_steps : TakesAtMost 256 old.device new.device
  pub engine : new.engine ≡ old.engine

module _ (setup : Setup) (at : ℕ) (old new : Parts) (answer : Result Unit LineFault) (within : at < layout.data_lines setup.shape) where
  finish_part : (n : ℕ) → n < length (regs_of old).progress.items
      → (AreTrusted setup old → register_held (regs_of old).progress.items at ≡ None)
      → (it : HasFinishedPage setup n old new answer) → IsWritePart setup at (outcome_of (of_line answer)) it.made old new
  finish_part n inside free it =
      record {
        done = it.done;
        memory_kept = it.memory_kept;
        sealed_before = it.sealed_before;
        not_own =
            λ trusted memory was.
            let asked = reseals_of setup.formulas (moment_in setup memory old) (register_in old n) in
            let front = finish_front asked it.made answer (it.marks trusted memory was) in
            let none : is_sealed_by asked at ≡ false =
            other_reseals setup.formulas (moment_in setup memory old) (register_in old n).page at (not_done (register_in old n))
            (other_places (register_in old n) at
            (held_none (regs_of old).progress.items at (free trusted) n empty_progress inside)) in
            (or_parts (is_sealed_by it.made at) (is_sealed_by front.left at)
            (sym (list_any-append (is_seal_of at) it.made front.left)
            ∙ ap (λ ms. is_sealed_by ms at) (sym front.front) ∙ none)).0;
      }

  left_out : HasLeftOut old new answer → HasFinishedSome setup at (λ memory. []) old new answer
  left_out it =
      subst (HasFinishedSome setup at (λ memory. []) old new) (sym it.answered)
      (record {
        made = [];
        part = alone_part setup at old new it.alone;
        marks = λ trusted memory was. refl;
        answered = λ trusted memory was. tt;
        unrefused = λ sound. tt;
        counts = λ trusted memory was. none;
        seals = λ memory. refl;
        few = omega arith;
        minors = All-nil IsUnderMinorZero;
        made_seals = λ ok. refl;
        work = λ ok. work_alone (reseal_work 0) old new (omega arith) (omega arith) (omega arith) (omega arith) refl it.alone;
        meta_lines =
            λ ok x within.
            ap (λ (d : Device). told_line d.lines (layout.meta_line setup.shape x)) it.alone.device;
        few_steps = more_most 0 256 old.device new.device (omega arith) (steps_most 0 old.device new.device none);
        engine = it.alone.engine;
      })
    where
      none : TakesSteps (4 * 0) old.device new.device
      none = search rules

  finished_page : (n : ℕ) → n < length (regs_of old).progress.items
      → (AreTrusted setup old → register_held (regs_of old).progress.items at ≡ None)
      → HasFinishedPage setup n old new answer
      → HasFinishedSome setup at (λ memory. marks_of_finish setup memory old (Some n)) old new answer
  finished_page n inside free it =
      record {
        made = it.made;
        part = finish_part n inside free it;
        marks = it.marks;
        answered = it.answered;
        unrefused = it.unrefused;
        counts =
            λ trusted memory was.
            subst (λ number. CountsFinish number it.made old new answer)
            (sym (length-map (not_done (register_in old n))
            (reseal_mark setup.formulas (moment_in setup memory old) (register_in old n).page)))
            (it.counts trusted memory was);
        seals =
            λ memory.
            seals_counted setup.formulas (moment_in setup memory old) (register_in old n).page (not_done (register_in old n));
        few = let few = it.few in let all = few_left (register_in old n) in omega (arith, few, all);
        minors = it.minors;
        made_seals = it.seals;
        work = it.work;
        meta_lines = it.meta_lines;
        few_steps =
            more_most (4 * length (not_done (register_in old n))) 256 old.device new.device
            (let all = few_left (register_in old n) in omega (arith, all)) it.few_steps;
        engine = it.engine;
      }

  finished_where : (found : Option ℕ) → register_to_finish (regs_of old).progress.items (page_of at) ≡ found
      → (AreTrusted setup old → register_held (regs_of old).progress.items at ≡ None)
      → HasFinishedWhere setup found old new answer
      → HasFinishedSome setup at (λ memory. marks_of_finish setup memory old found) old new answer
  finished_where None is free it = left_out it
  finished_where (Some n) is free it =
      finished_page n (found_inside (regs_of old).progress.items (page_of at) n is) free it

  pub finished_for : (overflows : Bool)
      → (overflows ≡ true → AreTrusted setup old → register_held (regs_of old).progress.items at ≡ None)
      → HasFinishedFor overflows setup (page_of at) old new answer
      → HasFinishedSome setup at (finish_asked overflows setup (page_of at) old) old new answer
  finished_for true free it =
      finished_where (register_to_finish (regs_of old).progress.items (page_of at)) refl (free refl) it
  finished_for false free it = left_out it
