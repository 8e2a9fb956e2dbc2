-- A line that was told with its log before it, as the answer to a command.
use Rattle.std.proofs.Common.{◌≡◌, ℕ, List, [], Option, None, Some, refl, subst, inl, inr}
use Rattle.std.specs.Prelude.{◌-◌}
use Rattle.pmem_base.specs.declared.answers.Exhibit.{Exhibit}
use Rattle.pmem_base.specs.declared.answers.Answer.TheVariants as Say
use Rattle.collision_witness.specs.Texts.{exhibit_text}
use Rattle.board.specs.declared.access.Access.{Access}
use Rattle.plain_model.specs.declared.Stop.{Stop}
use Rattle.plain_model.specs.declared.Stop.TheVariants.{Memory, WriteFault, Shown}
use Rattle.plain_model.specs.Texts.{answer_text}
use Rattle.trace_text.specs.Talks.{Sort, asked}
use Rattle.trace_text.specs.Conversations.{Protocol, talk_protocol}
use Rattle.pmem_cli.specs.Printed.{Output}
use Rattle.pmem_cli.specs.Telling.{Told, told_protocol, TellsLine}
use Rattle.pmem_cli.specs.Turns.{AnswersLine}

-- as it was told, by the counts and the text in other words
pub told_as : (stop : Option Stop) (log : Option (List Access)) (before after its_before its_after : ℕ × ℕ) (text its_text : List ℕ) (from to : Output)
    → before ≡ its_before → after ≡ its_after → text ≡ its_text → TellsLine stop log (after.0 - before.0) (after.1 - before.1) text from to
    → TellsLine stop log (its_after.0 - its_before.0) (its_after.1 - its_before.1) its_text from to
told_as stop log before after its_before its_after text its_text from to first last same it =
    subst (λ (n : ℕ × ℕ). TellsLine stop log (its_after.0 - n.0) (its_after.1 - n.1) its_text from to) first
    (subst (λ (n : ℕ × ℕ). TellsLine stop log (n.0 - before.0) (n.1 - before.1) its_text from to) last
    (subst (λ t. TellsLine stop log (after.0 - before.0) (after.1 - before.1) t from to) same it))

pub shown_is : (exhibit : Exhibit) → exhibit_text exhibit ≡ answer_text (Say.Shown exhibit)
unfolding answer_text
shown_is exhibit = refl

module _ {S : Type 0} (sort_of : List ℕ → Sort) (answers : S → List ℕ → List ℕ → S → Type 0) (shows : S → List ℕ → Exhibit → S → Type 0) (wants_memory : S → List ℕ → Type 0)
    (logs : S → List ℕ → Option (List Access) → Option (List Access) → S → Type 0) (work : S → ℕ × ℕ) where
  abbrev protocol : Protocol S (Told (List ℕ))
  protocol = told_protocol (talk_protocol sort_of answers shows wants_memory) logs work

  -- an answer goes on, unless it couldn't be told
  pub answered_line : (stop : Option Stop) (line : List ℕ) (number : ℕ) (old new : S) (log : Option (List Access)) (text : List ℕ) (from to : Output)
      → sort_of line ≡ asked → answers old line text new → logs old line (Some []) log new
      → TellsLine stop log ((work new).0 - (work old).0) ((work new).1 - (work old).1) text from to → AnswersLine protocol stop line number old new from to
  answered_line None line number old new (Some accesses) text from to its_sort answered logged it = (
    tt,
    inr (
      record { said = text; accesses = accesses; tags = (work new).0 - (work old).0; digests = (work new).1 - (work old).1 },
      its_sort,
      (answered, record { accessed = logged; tags = refl; digests = refl }),
      it,
    ),
  )
  answered_line (Some WriteFault) line number old new (Some accesses) text from to its_sort answered logged it = (
    record { said = text; accesses = accesses; tags = (work new).0 - (work old).0; digests = (work new).1 - (work old).1 },
    its_sort,
    inl (answered, record { accessed = logged; tags = refl; digests = refl }),
    it,
  )
  answered_line (Some Memory) line number old new None text from to its_sort answered logged it = (its_sort, inr (new, logged), it)
  answered_line stop line number old new log text from to its_sort answered logged it = absurd it

  -- an exhibit ends all
  module _ (line : List ℕ) (number : ℕ) (old new : S) (log : Option (List Access)) (exhibit : Exhibit) (from to : Output) (its_sort : sort_of line ≡ asked)
      (shown : shows old line exhibit new) (logged : logs old line (Some []) log new) where
    pub exhibited : TellsLine None log ((work new).0 - (work old).0) ((work new).1 - (work old).1) (answer_text (Say.Shown exhibit)) from to
        → AnswersLine protocol (Some Shown) line number old new from to
    exhibited it = go log logged it
      where
        go : (kept : Option (List Access)) → logs old line (Some []) kept new
            → TellsLine None kept ((work new).0 - (work old).0) ((work new).1 - (work old).1) (answer_text (Say.Shown exhibit)) from to
            → AnswersLine protocol (Some Shown) line number old new from to
        go (Some accesses) told it = (
          record { said = answer_text (Say.Shown exhibit); accesses = accesses; tags = (work new).0 - (work old).0; digests = (work new).1 - (work old).1 },
          its_sort,
          ((exhibit, refl, shown), record { accessed = told; tags = refl; digests = refl }),
          it,
        )
        go None told it = absurd it

    pub exhibit_untold : (stop : Stop) → TellsLine (Some stop) log ((work new).0 - (work old).0) ((work new).1 - (work old).1) (answer_text (Say.Shown exhibit)) from to
        → AnswersLine protocol (Some stop) line number old new from to
    exhibit_untold stop it = go stop log logged it
      where
        go : (stop : Stop) (kept : Option (List Access)) → logs old line (Some []) kept new
            → TellsLine (Some stop) kept ((work new).0 - (work old).0) ((work new).1 - (work old).1) (answer_text (Say.Shown exhibit)) from to
            → AnswersLine protocol (Some stop) line number old new from to
        go WriteFault (Some accesses) told it = (
          record { said = answer_text (Say.Shown exhibit); accesses = accesses; tags = (work new).0 - (work old).0; digests = (work new).1 - (work old).1 },
          its_sort,
          inr ((exhibit, refl, shown), record { accessed = told; tags = refl; digests = refl }),
          it,
        )
        go Memory None told it = (its_sort, inr (new, told), it)
        go stop kept told it = absurd it
