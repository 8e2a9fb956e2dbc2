-- What holds of the state and of the device at every end of a plan: done, stopped or cut.
use Rattle.std.proofs.Common.{ℕ, ◌≡◌, ◌<◌, Bool, true, false, Option, Some, None, Result, Ok, Err, arith, rules}
use Rattle.std.specs.Prelude.{if◌then◌else◌}
use Rattle.pmem_base.specs.declared.lines.Line.{Line}
use Rattle.pmem_base.specs.declared.lines.Ctr.{Ctr}
use Rattle.board.specs.Device.{Device}
use Rattle.suite.specs.Setup.{Setup}
use Rattle.call_plan.specs.Plans.{Plan, bind, mapped, repeated}
use Rattle.call_plan.specs.Following.{Follows}
use Rattle.call_plan.specs.Bounds.{Leaves, AtEnd}
use Rattle.call_plan.proofs.Leaves.{leaves, leaves_bind, leaves_mapped, leaves_more, leaves_repeated}
use Rattle.pmem_engine.specs.Engine.{ChipState}
use Rattle.pmem_engine.specs.Plans.{Chip, opened_plan, unseal_plan}
use Rattle.pmem_engine.specs.KeptLaws.{left_at}

module _ {S : Type 0} (holds : S → Device → Type 0) where
  abbrev pub Ends : {A F : Type 0} → Plan (S × F) (S × A) → Device → Type 0
  Ends plan now = Leaves plan (λ end d. holds end.0 d) (λ left d. holds left.0 d) now

  pub ends_if : {A F : Type 0} (b : Bool) (first second : Plan (S × F) (S × A)) (now : Device) → Ends first now → Ends second now
      → Ends (if b then first else second) now
  ends_if true first second now one two = one
  ends_if false first second now one two = two

  pub ends_bind : {A B F : Type 0} (plan : Plan (S × F) (S × A)) (next : S × A → Plan (S × F) (S × B)) (now : Device) → Ends plan now
      → ((t : S × A) (d : Device) → holds t.0 d → Ends (next t) d) → Ends (bind plan next) now
  ends_bind plan next now it rest = search (rules, leaves_bind, leaves_more)

  pub ends_repeated : {A F : Type 0} (turn : ℕ → S × A → Plan (S × F) (S × A)) (n : ℕ) (t : S × A) (now : Device) → holds t.0 now
      → ((i : ℕ) (t : S × A) (d : Device) → i < n → holds t.0 d → Ends (turn i t) d) → Ends (repeated turn 0 n t) now
  ends_repeated turn n t now so each = leaves_repeated (λ i end d. holds end.0 d) (λ left d. holds left.0 d) turn n 0 n t now (omega arith) each so

  -- at the end of a run
  pub holds_at : {A F : Type 0} {plan : Plan (S × F) (S × A)} {old new : Device} (end : Result (S × A) (S × F)) → Ends plan old → Follows plan old new end
      → holds (left_at end) new
  holds_at {A = A} {F = F} {new = new} end it follows = at_end end (leaves (λ end d. holds end.0 d) (λ left d. holds left.0 d) it follows)
    where
      at_end : (end : Result (S × A) (S × F)) → AtEnd (λ end d. holds end.0 d) (λ left d. holds left.0 d) end new → holds (left_at end) new
      at_end (Ok t) it = it
      at_end (Err left) it = it

-- a plan over a part of the state, or with other words for what an end leaves
pub ends_mapped : {S P A B F G : Type 0} (holds : S → Device → Type 0) (more : P → Device → Type 0) (f : S × F → P × G) (h : S × A → P × B)
    (plan : Plan (S × F) (S × A)) (now : Device) → ((t : S × A) (d : Device) → holds t.0 d → more (h t).0 d)
    → ((left : S × F) (d : Device) → holds left.0 d → more (f left).0 d) → Ends holds plan now → Ends more (mapped f h plan) now
ends_mapped holds more f h plan now ok left it = search (rules, leaves_mapped, leaves_more)

-- ---- a line unsealed

-- what a read and a cut keep of the engine, the unsealing keeps
module _ (setup : Setup) (holds : ChipState → Device → Type 0)
    (later : (engine : ChipState) (now new : Device) → new.lines ≡ now.lines → new.regs ≡ now.regs → new.latches ≡ now.latches → holds engine now
    → holds engine new) where
  abbrev OfChip : Chip → Device → Type 0
  OfChip chip now = holds chip.engine now

  opened_ends : (at : ℕ) (ctr : Ctr) (cipher tags : Line) (chip : Chip) (plain : Option Line) (now : Device) → OfChip chip now
      → Ends OfChip (opened_plan at ctr cipher tags chip plain) now
  unfolding Leaves
  opened_ends at ctr cipher tags chip None now so = so
  opened_ends at ctr cipher tags chip (Some plain) now so = search (rules, ends_if)

  pub unseal_ends : (at : ℕ) (ctr : Ctr) (chip : Chip) (now : Device) → OfChip chip now → Ends OfChip (unseal_plan setup at ctr chip) now
  unfolding Leaves unseal_plan
  unseal_ends at ctr chip now so = search (rules, opened_ends)
