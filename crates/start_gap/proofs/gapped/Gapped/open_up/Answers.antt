-- The number of logical lines, and the wear that was read.
use Rattle.std.proofs.lemmas.Grind.{common_steps}
use Rattle.std.proofs.Common.{Result, ℕ, ◌≡◌, ◌-◌, ◌+◌, refl, ap, sym, subst, ◌∙◌, arith, rules}
use Rattle.start_gap.proofs.Common.{Line, Fault, Shape, Setup, Parts, HasReadLine, data_lines, up_after, least_lines, recorded, logical_lines}
use Rattle.pmem_base.specs.Geo.{shape_of}
use Rattle.start_gap.proofs.Records.{recorded-IsWear}
use Rattle.start_gap.proofs.LevelledPlans.{not_read, no_record, found_record}
use Rattle.start_gap.proofs.gapped.Gapped.open_up.Goals as goal

-- the number of logical lines
logical_in : (lines : ℕ) (g shape : Shape) → lines ≡ data_lines g → g ≡ shape → lines - 2 ≡ logical_lines shape
logical_in lines g shape e same = ap (λ k. k - 2) (e ∙ ap data_lines same)

pub overflow_sub-lines : goal.overflow_sub-lines
overflow_sub-lines g c = let least = least_lines (shape_of c.geo.result.now) in omega (arith, c.lines-lines.ensures.value, least)

pub read-requires-clause-line : goal.read-requires-clause-line
read-requires-clause-line g c = search (rules, least_lines)

pub invariant_of-result : goal.invariant_of-result
invariant_of-result g c =
    let same : data_lines c.read.new.self.shape ≡ data_lines (shape_of c.geo.result.now) =
    ap data_lines (c.in-Ok.ensures.shape ∙ sym c.geo.ensures) in
    let least = least_lines (shape_of c.geo.result.now) in
    record {
      its_lines = omega (arith, c.lines-lines.ensures.value, least, same);
      few_lines = omega (arith, c.lines-lines.ensures.bound);
      its_wear = recorded-IsWear (c.lines-lines.result - 2) c.in-Ok.line c.in-Some.wear (sym c.read_wear.ensures ∙ c.in-Some.is);
      not_due = c.requires.every;
    }

pub returns-in-Err-clause-plan : goal.returns-in-Err-clause-plan
returns-in-Err-clause-plan g c =
    (c.read.new.self, not_read _ _ _ _ _ _ (logical_in _ _ _ c.lines-lines.ensures.value c.geo.ensures) (c.in-Err.ensures.read.did c.requires.up).plan)

pub returns-in-None-clause-plan : goal.returns-in-None-clause-plan
returns-in-None-clause-plan g c = (
  c.read.new.self,
  no_record _ _ _ _ _ _ (logical_in _ _ _ c.lines-lines.ensures.value c.geo.ensures)
      (sym c.read_wear.ensures ∙ c.in-None.is) (c.in-Ok.ensures.read.did c.requires.up).plan,
)

pub returns-in-Some-clause-plan : goal.returns-in-Some-clause-plan
returns-in-Some-clause-plan g c =
    found_record _ _ _ _ _ _ _ (logical_in _ _ _ c.lines-lines.ensures.value c.geo.ensures)
    (sym c.read_wear.ensures ∙ c.in-Some.is) (c.in-Ok.ensures.read.did c.requires.up).plan

pub returns-in-Some-clause-up : goal.returns-in-Some-clause-up
returns-in-Some-clause-up g c = up_after c.in-Ok.ensures.read c.requires.up refl

pub returns-in-Err-clause-opened : goal.returns-in-Err-clause-opened
returns-in-Err-clause-opened g c = grind (arith, common_steps, logical_in)

-- a read of the line after them
read_after : (setup : Setup) (n m : ℕ) (old new : Parts) (answer : Result Line Fault) → n ≡ m → HasReadLine setup (n + 1) old new answer
    → HasReadLine setup (m + 1) old new answer
read_after setup n m old new answer same it = subst (λ (k : ℕ). HasReadLine setup (k + 1) old new answer) same it

pub returns-in-None-clause-opened : goal.returns-in-None-clause-opened
returns-in-None-clause-opened g c =
    let same = logical_in _ _ _ c.lines-lines.ensures.value c.geo.ensures in (
      c.read.new.self,
      read_after _ _ _ _ _ _ same (c.in-Ok.ensures.read.did c.requires.up),
      sym (ap (λ (n : ℕ). recorded n c.in-Ok.line) same) ∙ sym c.read_wear.ensures ∙ c.in-None.is,
    )

pub returns-in-Some-clause-opened : goal.returns-in-Some-clause-opened
returns-in-Some-clause-opened g c = grind (arith, common_steps, logical_in)
