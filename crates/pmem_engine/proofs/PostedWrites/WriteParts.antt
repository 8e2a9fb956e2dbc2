-- What each part of a write keeps, up to the seal of its own line, and what two of them keep together.
use Rattle.std.proofs.lemmas.Grind.{common_steps}
use Rattle.std.proofs.Common.{rules, ℕ, ◌≡◌, ◌<◌, ◌++◌, Bool, true, false, List, [], IsTrue, Result, refl, sym, ap, ap₂, ◌∙◌, arith}
use Rattle.std.specs.Prelude.{◌||◌, option_map}
use Rattle.std.proofs.lemmas.Bool.{true≢false}
use Rattle.std.proofs.lemmas.List.Folds.{list_any-append}
use Rattle.pmem_base.specs.declared.faults.Cut.{Cut}
use Rattle.pmem_base.specs.declared.lines.Line.{Line}
use Rattle.pmem_base.specs.declared.answers.Mark.{Mark}
use Rattle.pmem_base.specs.declared.commands.Posted.{Posted}
use Rattle.pmem_base.specs.Layout as layout
use Rattle.pmem_base.specs.Layout.{page_of}
use Rattle.pmem_base.specs.Lines.{line_at, tag_slot}
use Rattle.pmem_base.specs.Marks.{SealOf, last_seal}
use Rattle.meta_path.specs.declared.faults.PathFault.{PathFault}
use Rattle.suite.specs.Setup.{Setup}
use Rattle.plain_model.specs.State.{Memory}
use Rattle.plain_model.specs.View.{plain_line, plain_of_seal}
use Rattle.pmem_engine.specs.declared.fault.Fault.{Fault}
use Rattle.pmem_engine.specs.declared.fault.LineFault.{LineFault}
use Rattle.pmem_engine.specs.Invariants.{IsSealStored}
use Rattle.pmem_engine.specs.Parts.{Parts, regs_of, lines_redone, AreTrusted, HoldsSeal}
use Rattle.call_effects.specs.Outcomes.{Outcome, going}
use Rattle.pmem_engine.specs.Outcomes.{of_path, of_line, of_cut, outcome_of, is_seal_of, is_sealed_by, OneLossEffect}
use Rattle.pmem_engine.specs.CallFacts.{IsMemory, IsLeftAlone}
use Rattle.pmem_engine.specs.Inner.{HasFetched, HasNamedPath}
use Rattle.pmem_engine.specs.Sealing.{HasBegunPage}
use Rattle.pmem_engine.specs.Writing.{HasMadePlain}
pub use Rattle.pmem_engine.proofs.Laws.PlainLines.{last_seal-unsealed}
use Rattle.call_effects.proofs.ToldLines.{told_cases}
use Rattle.commit_regs.proofs.GroupLemmas.{told_redone}
use Rattle.pmem_engine.proofs.CallEnds.CallChains.{done_chained}

-- a part of a write of line `at`, its own seal aside
pub record IsWritePart (setup : Setup) (at : ℕ) (outcome : Outcome) (made : List Mark) (old new : Parts) : Type 0 where
  pub done : OneLossEffect setup outcome made old new
  pub memory_kept :
      AreTrusted setup old → (memory : Memory) → IsMemory setup memory old → IsMemory setup memory new
  pub sealed_before :
      AreTrusted setup old → (a : ℕ) → a < layout.data_lines setup.shape → IsTrue (is_sealed_by made a)
      → HoldsSeal setup.shape old a
  pub not_own :
      AreTrusted setup old → (memory : Memory) → IsMemory setup memory old → is_sealed_by made at ≡ false

-- ---- lines that aren't sealed

-- marks that seal none of a line leave its plain line
pub plain_line-unsealed : (setup : Setup) (marks made : List Mark) (a : ℕ) → is_sealed_by made a ≡ false
    → plain_line setup.formulas (marks ++ made) a ≡ plain_line setup.formulas marks a
plain_line-unsealed setup marks made a it =
    ap (option_map (plain_of_seal setup.formulas a)) (last_seal-unsealed marks made a it)

-- where a part made no seal of a line, what is stored of it afterwards was stored before
pub held_back : (setup : Setup) (outcome : Outcome) (made : List Mark) (old new : Parts) → OneLossEffect setup outcome made old new
    → AreTrusted setup old → (a : ℕ) → a < layout.data_lines setup.shape → is_sealed_by made a ≡ false
    → HoldsSeal setup.shape new a → HoldsSeal setup.shape old a
held_back setup outcome made old new done trusted a within unsealed =
    told_cases (λ lines. IsSealStored setup.shape lines new.ledger.marks a)
    (λ lines. IsSealStored setup.shape lines old.ledger.marks a) (lines_redone new) (lines_redone old)
    (told_redone (regs_of old).group.items old.device.lines ∙ sym done.gone.told
    ∙ sym (told_redone (regs_of new).group.items new.device.lines))
    (λ lines before is was stored.
    record {
      cipher =
          ap (option_map (λ (seal : SealOf). seal.cipher)) (sym last_same)
          ∙ stored.cipher
          ∙ sym (ap (option_map (λ ls. line_at ls a)) is)
          ∙ (done.gone.places trusted).data_lines a within unsealed
          ∙ ap (option_map (λ ls. line_at ls a)) was;
      tag =
          ap (option_map (λ (seal : SealOf). seal.tag)) (sym last_same)
          ∙ stored.tag
          ∙ sym (ap (option_map (λ ls. tag_slot (line_at ls (layout.tag_line setup.shape a)) a)) is)
          ∙ (done.gone.places trusted).tag_slots a within unsealed
          ∙ ap (option_map (λ ls. tag_slot (line_at ls (layout.tag_line setup.shape a)) a)) was;
    })
  where
    last_same : last_seal new.ledger.marks a ≡ last_seal old.ledger.marks a
    last_same =
        ap (λ ms. last_seal ms a) done.gone.marks ∙ last_seal-unsealed old.ledger.marks made a unsealed

-- ---- two parts

pub part_chained : (setup : Setup) (at : ℕ) (outcome : Outcome) (made more : List Mark) (old mid new : Parts)
    → IsWritePart setup at going made old mid → IsWritePart setup at outcome more mid new
    → IsWritePart setup at outcome (made ++ more) old new
part_chained setup at outcome made more old mid new first second =
    record {
      done = done_chained setup outcome made more old mid new first.done second.done;
      memory_kept =
          λ trusted memory was. second.memory_kept (mid_trusted trusted) memory (first.memory_kept trusted memory was);
      sealed_before = λ trusted a within sealed. before trusted a within sealed (is_sealed_by made a) refl;
      not_own =
          λ trusted memory was.
          list_any-append (is_seal_of at) made more
          ∙ ap₂ (λ s t. s || t) (first.not_own trusted memory was)
          (second.not_own (mid_trusted trusted) memory (first.memory_kept trusted memory was));
    }
  where
    mid_trusted : AreTrusted setup old → AreTrusted setup mid
    mid_trusted trusted = first.done.gone.trusted trusted

    before : AreTrusted setup old → (a : ℕ) → a < layout.data_lines setup.shape → IsTrue (is_sealed_by (made ++ more) a)
        → (b : Bool) → is_sealed_by made a ≡ b → HoldsSeal setup.shape old a
    before trusted a within sealed true is = first.sealed_before trusted a within is
    before trusted a within sealed false is =
        held_back setup going made old mid first.done trusted a within is
        (second.sealed_before (mid_trusted trusted) a within
        (ap (λ t. t || is_sealed_by more a) (sym is) ∙ sym (list_any-append (is_seal_of a) made more) ∙ sealed))

-- ---- each part

pub alone_done : (setup : Setup) (old new : Parts) → IsLeftAlone old new → OneLossEffect setup going [] old new
alone_done setup old new alone = search rules

-- a part that was left out
pub alone_part : (setup : Setup) (at : ℕ) (old new : Parts) → IsLeftAlone old new → IsWritePart setup at going [] old new
alone_part setup at old new alone = search rules

pub fetch_part : (setup : Setup) (at : ℕ) (old new : Parts) (answer : Result Unit PathFault)
    → HasFetched setup (page_of at) old new answer → IsWritePart setup at (outcome_of (of_path answer)) [] old new
fetch_part setup at old new answer it = search rules

pub plain_part : (setup : Setup) (write : Posted) (old new : Parts) (answer : Result Line LineFault)
    → HasMadePlain setup write old new answer → IsWritePart setup write.at (outcome_of (of_line answer)) [] old new
plain_part setup write old new answer it = search rules

pub name_part : (setup : Setup) (at : ℕ) (old new : Parts) (answer : Result Unit Cut) → at < layout.data_lines setup.shape
    → HasNamedPath setup (page_of at) old new answer
    → IsWritePart setup at (outcome_of (of_cut answer)) [] old new
name_part setup at old new answer inside it = grind (arith, common_steps)

pub begin_part : (setup : Setup) (at : ℕ) (old new : Parts) (answer : Result Unit Fault)
    → (it : HasBegunPage setup (page_of at) old new answer) → IsWritePart setup at (outcome_of answer) it.made old new
begin_part setup at old new answer it = search (rules, true≢false, plain_line-unsealed)
