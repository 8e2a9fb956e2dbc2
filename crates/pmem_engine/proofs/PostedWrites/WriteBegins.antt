-- The page that a write begins, or none, and the line's next counter then.
use Rattle.std.proofs.Common.{rules, ℕ, ◌≡◌, ◌<◌, ◌≤◌, ◌+◌, ◌++◌, ◌⊎◌, inl, inr, Bool, true, false, List, [], ◌∷◌, length, Result, Ok, Err, refl, sym, ap, subst, ◌∙◌, arith}
use Rattle.std.specs.Prelude.{IsOk}
use Rattle.std.proofs.lemmas.List.Elements.{All-nil, All-cons}
use Rattle.pmem_base.specs.declared.lines.Ctr.{Ctr}
use Rattle.pmem_base.specs.declared.answers.Mark.{Mark}
use Rattle.pmem_base.specs.declared.answers.Mark.TheVariants.{Begin}
use Rattle.pmem_base.specs.Layout.{page_of, index_in_page, meta_line}
use Rattle.split_counters.specs.declared.Block.{Block}
use Rattle.split_counters.specs.Blocks.{minor_of}
use Rattle.split_counters.proofs.Packing.{zero_minors-zero}
use Rattle.board.specs.Device.{Device}
use Rattle.meta_path.specs.Work.{told_line}
use Rattle.suite.specs.Setup.{Setup}
use Rattle.plain_model.specs.Bounds.{begun_lines}
use Rattle.pmem_engine.specs.declared.fault.Fault.{Fault}
use Rattle.pmem_engine.specs.declared.fault.Fault.TheVariants as Fail
use Rattle.pmem_engine.specs.Parts.{Parts, AreTrusted}
use Rattle.pmem_engine.specs.Engine.{ChipState}
use Rattle.pmem_engine.specs.Outcomes.{outcome_of, TakesSteps, TakesAtMost, TakesFewer}
use Rattle.pmem_engine.specs.CallFacts.{IsWork, begin_work, KeepsButPath, KeepsOtherMeta, IsUnderMinorZero, AreUnderMinorZero}
use Rattle.pmem_engine.specs.Inner.{cached_block}
use Rattle.pmem_engine.specs.Sealing.{next_counter_of, HasBeginMarks, TakesBeginSteps, HasBegunPage}
use Rattle.pmem_engine.specs.Writing.{HasLeftOut, IsFrontOf, HasBegunFor}
use Rattle.pmem_engine.proofs.Seals.KeptSlots.{kept_same}
use Rattle.pmem_engine.proofs.PostedWrites.WriteParts.{IsWritePart, alone_part, begin_part}
use Rattle.pmem_engine.proofs.PostedWrites.WriteSteps.{begin_asked, begin_steps, steps_most, fewer_most, more_most}
use Rattle.pmem_engine.proofs.CallEnds.ExactWork.{work_alone}

-- the counter that the write's own seal gets
abbrev pub begin_counter : Bool → Setup → ℕ → Parts → Ctr
begin_counter true setup at old = record { major = (cached_block setup.shape old.engine (page_of at)).major + 1; minor = 1 }
begin_counter false setup at old = next_counter_of setup.shape old.engine at

-- the marks, by the answer
abbrev pub HasBegunMarks : List Mark → List Mark → Result Unit Fault → Type 0
HasBegunMarks asked made (Ok value) = made ≡ asked
HasBegunMarks asked made (Err Fail.Cut) = IsFrontOf asked made
HasBegunMarks asked made (Err fault) = ⊥

abbrev pub CountsBegun : ℕ → Parts → Parts → Result Unit Fault → Type 0
CountsBegun steps old new (Ok value) = TakesSteps steps old.device new.device
CountsBegun steps old new (Err fault) = TakesFewer steps old.device new.device

pub record HasBegunSome (setup : Setup) (at : ℕ) (asked : List Mark) (ctr : Ctr) (old new : Parts) (answer : Result Unit Fault) :
    Type 0 where
  pub made : List Mark
  pub part : IsWritePart setup at (outcome_of answer) made old new
  pub marks : HasBegunMarks asked made answer
  pub counts : CountsBegun (begin_steps setup.shape asked) old new answer
  pub few : length made ≤ 1
  pub minors : AreUnderMinorZero made
  pub few_steps : TakesAtMost (2 + begun_lines setup.shape) old.device new.device
  pub work : IsOk answer → IsWork (begin_work setup.shape (length asked)) old new
  pub cache : KeepsButPath setup.shape (page_of at) old.engine.cache new.engine.cache
  pub meta_lines : IsOk answer → KeepsOtherMeta setup.shape (page_of at) old.device.lines new.device.lines
  pub next : IsOk answer → AreTrusted setup old → next_counter_of setup.shape new.engine at ≡ ctr

module _ (setup : Setup) (at : ℕ) (old new : Parts) (answer : Result Unit Fault) where
  left_out : HasLeftOut old new answer
      → HasBegunSome setup at [] (next_counter_of setup.shape old.engine at) old new answer
  left_out it =
      subst (HasBegunSome setup at [] (next_counter_of setup.shape old.engine at) old new) (sym it.answered)
      (record {
        made = [];
        part = alone_part setup at old new it.alone;
        marks = refl;
        counts = none;
        few = omega arith;
        minors = All-nil IsUnderMinorZero;
        few_steps = more_most 0 (2 + begun_lines setup.shape) old.device new.device (omega arith) (steps_most 0 old.device new.device none);
        work =
            λ ok.
            work_alone (begin_work setup.shape 0) old new refl (omega arith) (omega arith) refl (omega arith) it.alone;
        cache =
            kept_same setup.shape (page_of at) old.engine.cache new.engine.cache
            (ap (λ (e : ChipState). e.cache) it.alone.engine);
        meta_lines =
            λ ok x within apart.
            ap (λ (d : Device). told_line d.lines (meta_line setup.shape x)) it.alone.device;
        next = λ ok trusted. ap (λ engine. next_counter_of setup.shape engine at) it.alone.engine;
      })
    where
      none : TakesSteps 0 old.device new.device
      none = search rules

  begun_page : HasBegunPage setup (page_of at) old new answer
      → HasBegunSome setup at (Begin (page_of at) ∷ []) (begin_counter true setup at old) old new answer
  begun_page it =
      record {
        made = it.made;
        part = begin_part setup at old new answer it;
        marks = marks answer it.marks;
        counts = counts answer it.marks it.steps;
        few = few answer it.marks;
        minors = minors answer it.marks;
        few_steps = few_steps answer it.steps;
        work = it.work;
        cache = it.cache;
        meta_lines = it.meta_lines;
        next =
            λ ok trusted.
            ap (λ (b : Block). record { major = b.major; minor = minor_of b (index_in_page at) + 1 }) ((it.opened ok).block trusted)
            ∙ ap (λ n. record { major = (cached_block setup.shape old.engine (page_of at)).major + 1; minor = n + 1 })
            (zero_minors-zero (index_in_page at) (omega arith));
      }
    where
      marks : (reply : Result Unit Fault) → HasBeginMarks (page_of at) it.made reply
          → HasBegunMarks (Begin (page_of at) ∷ []) it.made reply
      marks (Ok value) made = made
      marks (Err Fail.Cut) (inl none) = record { left = Begin (page_of at) ∷ []; front = sym (ap (λ ms. ms ++ Begin (page_of at) ∷ []) none) }
      marks (Err Fail.Cut) (inr one) = record { left = []; front = sym (ap (λ ms. ms ++ []) one) }
      marks (Err Fail.Down) made = made
      marks (Err (Fail.Meta x)) made = made
      marks (Err (Fail.Tag b)) made = made
      marks (Err (Fail.Spent page)) made = made
      marks (Err Fail.Shown) made = made

      either : (reply : Result Unit Fault) → HasBeginMarks (page_of at) it.made reply
          → (it.made ≡ []) ⊎ (it.made ≡ Begin (page_of at) ∷ [])
      either (Ok value) made = inr made
      either (Err Fail.Cut) made = made
      either (Err Fail.Down) made = absurd made
      either (Err (Fail.Meta x)) made = absurd made
      either (Err (Fail.Tag b)) made = absurd made
      either (Err (Fail.Spent page)) made = absurd made
      either (Err Fail.Shown) made = absurd made

      few : (reply : Result Unit Fault) → HasBeginMarks (page_of at) it.made reply → length it.made ≤ 1
      few reply made =
          elim (either reply made) [
            | inl none ↦ let long : length it.made ≡ 0 = ap length none in omega (arith, long)
            | inr one ↦ let long : length it.made ≡ 1 = ap length one in omega (arith, long)
          ]

      minors : (reply : Result Unit Fault) → HasBeginMarks (page_of at) it.made reply → AreUnderMinorZero it.made
      minors reply made =
          elim (either reply made) [
            | inl none ↦ subst AreUnderMinorZero (sym none) (All-nil IsUnderMinorZero)
            | inr one ↦
                subst AreUnderMinorZero (sym one)
                (All-cons IsUnderMinorZero (Begin (page_of at)) [] tt (All-nil IsUnderMinorZero))
          ]

      few_steps : (reply : Result Unit Fault) → TakesBeginSteps setup.shape old new reply
          → TakesAtMost (2 + begun_lines setup.shape) old.device new.device
      few_steps (Ok value) steps = steps_most (2 + begun_lines setup.shape) old.device new.device steps
      few_steps (Err fault) steps = fewer_most (2 + begun_lines setup.shape) old.device new.device steps

      counts : (reply : Result Unit Fault) → HasBeginMarks (page_of at) it.made reply → TakesBeginSteps setup.shape old new reply
          → CountsBegun (2 + begun_lines setup.shape) old new reply
      counts (Ok value) made steps = steps
      counts (Err fault) made steps = steps

  pub begun_for : (overflows : Bool) → HasBegunFor overflows setup (page_of at) old new answer
      → HasBegunSome setup at (begin_asked overflows (page_of at)) (begin_counter overflows setup at old) old new answer
  begun_for true it = begun_page it
  begun_for false it = left_out it

-- its minor is above 0
pub begin_minor : (b : Bool) (setup : Setup) (at : ℕ) (parts : Parts) → 0 < (begin_counter b setup at parts).minor
begin_minor true setup at parts = omega arith
begin_minor false setup at parts = omega arith
