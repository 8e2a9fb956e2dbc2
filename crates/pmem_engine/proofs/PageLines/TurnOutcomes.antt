-- The exits of a turn: no page is open, or the oldest page's lowest line was to be sealed anew.
use Rattle.std.proofs.Common.{rules, ℕ, ◌≡◌, ◌<◌, ◌+◌, ◌*◌, inl, inr, List, [], ◌∷◌, length, map, get_or, Option, Some, None, Ok, Err, refl, sym, ap, subst, ◌∙◌, arith}
use Rattle.std.specs.Prelude.{Result, is_some, option_map, MatchOption, IfOk, IsOk, IsSome}
use Rattle.std.specs.Option.{option_and_then}
use Rattle.std.proofs.lemmas.Bool.{true≢false}
use Rattle.pmem_base.specs.declared.registers.Progress.{Progress}
use Rattle.pmem_base.specs.declared.answers.Place.{Place}
use Rattle.pmem_base.specs.Registers.{not_done, empty_progress}
use Rattle.suite.specs.Setup.{Setup}
use Rattle.plain_model.specs.State.{Memory}
use Rattle.plain_model.specs.Asked.{first_of, reseal_mark, mark_of_page_turn}
use Rattle.plain_model.specs.Fits.{IsLeftAfterTurn, IsLowestLeft, IsTurnMark, oldest_page}
use Rattle.pmem_engine.specs.declared.fault.Fault.{Fault}
use Rattle.pmem_engine.specs.declared.fault.LineFault.{LineFault}
use Rattle.pmem_engine.specs.declared.fault.LineFault.TheVariants as AtLine
use Rattle.pmem_engine.specs.Invariants.{register_page}
use Rattle.pmem_engine.specs.Parts.{Parts, regs_of, AreTrusted}
use Rattle.pmem_engine.specs.Outcomes.{fault_of_line, of_line, outcome_of, OneLossEffect}
use Rattle.pmem_engine.specs.CallFacts.{IsDownAnswer, IsUnrefused, moment_in, AreMarksOfTurn, IsAnswerOfTurn, AnswersTurn, IsTurnWork, CountsTurn}
use Rattle.pmem_engine.specs.Calls.{HasTurned}
use Rattle.call_plan.specs.Plans.{ended}
use Rattle.call_plan.specs.Following.{Follows}
use Rattle.pmem_engine.specs.Plans.{chip_in, turn_plan}
use Rattle.pmem_engine.specs.Resealing.{HasResealMarks, HasSealedHeld, CountsReseal, AnswersReseal, HasResealed, register_in, line_of_page}
use Rattle.pmem_engine.proofs.CallEnds.StillParts.{nothing_done, left_alone}

-- ---- no page is open

pub turned_idle : (setup : Setup) (parts : Parts) → (regs_of parts).progress.items ≡ []
    → Follows (turn_plan setup (regs_of parts) (chip_in parts)) parts.device parts.device (Ok (chip_in parts, None))
    → HasTurned setup parts parts (Ok None)
turned_idle setup parts none planned =
    record {
      plan = planned;
      made = [];
      not_down = λ is. is;
      done = nothing_done setup parts;
      marks = λ trusted memory was. (refl, trusted.anchored.open_pages ∙ ap (map register_page) none);
      idle = (λ idle. none, λ is. refl);
      memory_kept = λ trusted memory was. was;
      answered = λ trusted. tt;
      unrefused = λ sound. tt;
      sealed_before = λ trusted a within made. absurd (true≢false (sym made));
      counts = left_alone parts;
      work = λ some. absurd (true≢false (sym some));
      possible = tt;
      cache = refl;
      digests = refl;
    }

-- ---- a line was to be sealed

-- a reseal's answer as a turn's
abbrev pub turned_of : Result (ℕ × ℕ) LineFault → Result (Option (ℕ × ℕ)) Fault
turned_of (Ok sealed) = Ok (Some sealed)
turned_of (Err fault) = Err (fault_of_line fault)

pub turned_outcome : (answer : Result (ℕ × ℕ) LineFault) → outcome_of (turned_of answer) ≡ outcome_of (of_line answer)
turned_outcome v0 = search rules

-- by the answer as the engine's
pub turned_by_seal : (answer : Result (ℕ × ℕ) LineFault) (sealed : ℕ × ℕ) → of_line answer ≡ Ok sealed → turned_of answer ≡ Ok (Some sealed)
turned_by_seal v0 sealed it = search rules

pub turned_by_fault : (answer : Result (ℕ × ℕ) LineFault) (fault : Fault) → of_line answer ≡ Err fault → turned_of answer ≡ Err fault
turned_by_fault v0 fault it = search rules

-- no element
pub none_from_length : {X : Type 0} (xs : List X) → length xs ≡ 0 → xs ≡ []
none_from_length [] none = refl
none_from_length (x ∷ xs) none = absurd (omega (arith, none))

first_is : (registers : List Progress) → 0 < length registers
    → first_of (map register_page registers) ≡ Some (register_page (get_or registers 0 empty_progress))
first_is [] some = absurd (omega (arith, some))
first_is (first ∷ registers) some = refl

module _ (setup : Setup) (old new : Parts) (answer : Result (ℕ × ℕ) LineFault)
    (some : 0 < length (regs_of old).progress.items) (it : HasResealed setup 0 old new answer) where
  abbrev register : Progress
  register = register_in old 0

  -- the oldest page, and the mark that is asked
  oldest : AreTrusted setup old → (memory : Memory) → oldest_page (moment_in setup memory old) ≡ Some (register_page register)
  oldest trusted memory = ap first_of trusted.anchored.open_pages ∙ first_is (regs_of old).progress.items some

  is_mark : AreTrusted setup old → (memory : Memory)
      → it.made ≡ reseal_mark setup.formulas (moment_in setup memory old) register.page it.place ∷ []
      → IsTurnMark setup.formulas (moment_in setup memory old) it.made
  is_mark trusted memory made =
      subst (λ o. MatchOption o ⊥ (λ mark. it.made ≡ mark ∷ []))
      (sym
      (ap (option_and_then (mark_of_page_turn setup.formulas (moment_in setup memory old))) (oldest trusted memory)
      ∙ ap (option_map (reseal_mark setup.formulas (moment_in setup memory old) register.page)) it.lowest))
      made

  is_lowest : AreTrusted setup old → (memory : Memory) (b : ℕ) → b ≡ line_of_page register it.place
      → IsLowestLeft (oldest_page (moment_in setup memory old)) (Place.Line b)
  is_lowest trusted memory b same =
      subst (λ o. IsLowestLeft o (Place.Line b)) (sym (oldest trusted memory))
      (subst (λ o. MatchOption o ⊥ (λ i. b ≡ 64 * register.page + i)) (sym it.lowest) same)

  turn_marks : (reply : Result (ℕ × ℕ) LineFault) → AreTrusted setup old → (memory : Memory)
      → HasResealMarks setup.formulas (moment_in setup memory old) register.page it.place it.made reply
      → IfOk reply (HasSealedHeld (line_of_page register it.place) (length (not_done register)) old new)
      → AnswersReseal setup (line_of_page register it.place) old new reply
      → AreMarksOfTurn setup.formulas (moment_in setup memory old) it.made (turned_of reply)
  turn_marks (Ok sealed) trusted memory made line says = (
    is_mark trusted memory made,
    is_lowest trusted memory sealed.0 line.at,
    subst (λ o. IsLeftAfterTurn o sealed.1) (sym (oldest trusted memory)) (sym line.left),
  )
  turn_marks (Err AtLine.Cut) trusted memory (inl none) line says = (ap is_some (oldest trusted memory), inl none)
  turn_marks (Err AtLine.Cut) trusted memory (inr made) line says = (ap is_some (oldest trusted memory), inr (is_mark trusted memory made))
  turn_marks (Err (AtLine.Tag b)) trusted memory made line says = (made, is_lowest trusted memory b says.0)
  turn_marks (Err AtLine.Shown) trusted memory made line says = (made, ap is_some (oldest trusted memory))

  turn_answered : (reply : Result (ℕ × ℕ) LineFault) → AreTrusted setup old
      → AnswersReseal setup (line_of_page register it.place) old new reply → AnswersTurn setup old new (turned_of reply)
  turn_answered (Ok sealed) trusted says = tt
  turn_answered (Err AtLine.Cut) trusted says = tt
  turn_answered (Err (AtLine.Tag b)) trusted says = says.1
  turn_answered (Err AtLine.Shown) trusted says =
      record {
        at = line_of_page register it.place;
        lowest = is_lowest trusted [] (line_of_page register it.place) refl;
        forged = says;
      }

  turn_unrefused : (reply : Result (ℕ × ℕ) LineFault) → IsUnrefused (of_line reply) → IsUnrefused (turned_of reply)
  turn_unrefused v0 it = search rules

  turn_counts : (reply : Result (ℕ × ℕ) LineFault) → CountsReseal old new reply → CountsTurn old new (turned_of reply)
  turn_counts v0 it = search rules

  turn_work : (reply : Result (ℕ × ℕ) LineFault) → (IsOk reply → IsTurnWork old new)
      → IfOk (turned_of reply) (λ turned. IsSome turned → IsTurnWork old new)
  turn_work (Ok sealed) given = λ some. given refl
  turn_work (Err fault) given = tt

  turn_possible : (reply : Result (ℕ × ℕ) LineFault) → IsAnswerOfTurn (turned_of reply)
  turn_possible v0 = search rules

  turned_busy : (reply : Result (ℕ × ℕ) LineFault) → turned_of reply ≡ Ok None → ⊥
  turned_busy v0 is = search (rules, true≢false)

  turned_not_down : (reply : Result (ℕ × ℕ) LineFault) → IsDownAnswer (turned_of reply) → ⊥
  turned_not_down v0 is = search rules

  pub turned : Follows (turn_plan setup (regs_of old) (chip_in old)) old.device new.device (ended (turned_of answer) (chip_in new))
      → HasTurned setup old new (turned_of answer)
  turned planned =
      record {
        plan = planned;
        made = it.made;
        not_down = turned_not_down answer;
        done = subst (λ outcome. OneLossEffect setup outcome it.made old new) (sym (turned_outcome answer)) it.done;
        marks =
            λ trusted memory was.
            turn_marks answer trusted memory (it.marks trusted memory was) it.line_sealed (it.answered trusted);
        idle = (λ is. absurd (turned_busy answer is), λ none. absurd (omega (arith, some, ap length none)));
        memory_kept = λ trusted memory was. it.memory_kept trusted memory was;
        answered = λ trusted. turn_answered answer trusted (it.answered trusted);
        unrefused = λ sound. turn_unrefused answer (it.unrefused sound);
        sealed_before = it.sealed_before;
        counts = turn_counts answer it.counts;
        work = turn_work answer it.work;
        possible = turn_possible answer;
        cache = ap (λ e. e.cache) it.engine;
        digests = it.digests;
      }
