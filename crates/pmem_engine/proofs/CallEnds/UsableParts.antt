-- After a call the parts are usable again, whatever it answered.
use Rattle.std.proofs.Common.{rules, ℕ, ◌≡◌, ◌++◌, Bool, true, false, not, List, [], ◌∷◌, Option, None, refl, sym, ap, subst, ◌∙◌}
use Rattle.std.specs.Prelude.{is_some, IsSome}
use Rattle.std.proofs.lemmas.Bool.{true≢false}
use Rattle.pmem_base.specs.declared.answers.Mark.{Mark}
use Rattle.pmem_base.specs.Shape.{Shape}
use Rattle.pmem_base.specs.Marks.{SealOf, seal_of, later_of, last_seal}
use Rattle.pmem_base.specs.Lines.{zero_line}
use Rattle.suite.specs.Setup.{Setup}
use Rattle.seal_ledger.specs.Ledger.{LedgerState}
use Rattle.pmem_engine.specs.Parts.{Parts}
use Rattle.call_effects.specs.Outcomes.{Outcome, going, cut_short, shown, is_going}
use Rattle.pmem_engine.specs.Outcomes.{CallEffect}
use Rattle.pmem_engine.specs.CallFacts.{IsReadyWith, IsUsableWith}

-- a line that was sealed still is, whatever marks follow
pub still_sealed : (marks more : List Mark) (a : ℕ) → IsSome (last_seal marks a) → IsSome (last_seal (marks ++ more) a)
still_sealed [] more a it = absurd (true≢false (sym it))
still_sealed (mark ∷ marks) more a it = go (seal_of mark a) (last_seal marks a) refl it (still_sealed marks more a)
  where
    go : (earlier later : Option SealOf) → last_seal marks a ≡ later → is_some (later_of earlier later) ≡ true
        → (IsSome (last_seal marks a) → IsSome (last_seal (marks ++ more) a))
        → is_some (later_of earlier (last_seal (marks ++ more) a)) ≡ true
    go earlier v1 same it again = search rules

-- some setup of a shape and some ledger, for what is promised without either
abbrev pub some_setup : Shape → Setup
some_setup g =
    record {
      shape = g;
      formulas = record { pad_of = λ at ctr. zero_line; tag_of = λ at ctr cipher. []; digest_of = λ position line. [] };
    }

abbrev pub some_ledger : LedgerState
some_ledger = record { marks = []; truth = []; data_lines = 0; exhibit = None }

-- a call that leaves the engine up wasn't cut
still_going : (outcome : Outcome) → not (is_going outcome) ≡ false → outcome ≡ cut_short → ⊥
still_going going up is = true≢false (ap is_going is)
still_going cut_short up is = true≢false up
still_going shown up is = true≢false up

-- the board is ready again
pub ready_after : (setup : Setup) (outcome : Outcome) (made : List Mark) (old new : Parts) (later : Bool)
    → CallEffect setup outcome made old new → later ≡ not (is_going outcome)
    → IsReadyWith setup.shape false old.device → IsReadyWith setup.shape later new.device
ready_after setup outcome made old new later gone after ready =
    record {
      its_size = gone.size ∙ ready.its_size;
      valid_regs = gone.valid ready.valid_regs;
      no_group =
          λ up. ap (λ group. group.items) (gone.group (still_going outcome (sym after ∙ up))) ∙ ready.no_group refl;
    }

-- so are the ledger and the engine
pub usable_after : (setup : Setup) (outcome : Outcome) (made : List Mark) (old new : Parts) (later : Bool)
    → CallEffect setup outcome made old new → later ≡ not (is_going outcome)
    → IsUsableWith setup.shape false old.device old.ledger → IsUsableWith setup.shape later new.device new.ledger
usable_after setup outcome made old new later gone after usable =
    record {
      ready = ready_after setup outcome made old new later gone after usable.ready;
      true_lines = gone.true_lines ∙ usable.true_lines;
      line_count = gone.data_lines ∙ usable.line_count;
      each_sealed =
          λ a within.
          subst (λ marks. IsSome (last_seal marks a)) (sym gone.marks) (still_sealed old.ledger.marks made a (usable.each_sealed a within));
    }
