-- Changes that were made followed their plans.
use Rattle.std.proofs.Common.{ℕ, ◌≡◌, List, Result, Ok, Err, sym, subst}
use Rattle.pmem_base.specs.declared.lines.Line.{Line}
use Rattle.pmem_base.specs.declared.lines.Ctr.{Ctr}
use Rattle.pmem_base.specs.declared.registers.Regs.{Regs}
use Rattle.pmem_base.specs.Shape.{Shape}
use Rattle.board.specs.Device.{Device}
use Rattle.call_plan.specs.Plans.{ended}
use Rattle.call_plan.specs.Following.{Follows}
use Rattle.call_plan.proofs.Bind.{bind_ok, bind_err, mapped_follows}
use Rattle.suite.specs.Formulas.{Formulas}
use Rattle.suite.specs.Setup.{Setup}
use Rattle.pmem_engine.specs.declared.fault.Fault.{Fault}
use Rattle.pmem_engine.specs.Calls.{whole_write}
use Rattle.commit_regs.specs.Plans.{ended_with}
use Rattle.pmem_engine.specs.Plans.{Chip, read_plan}
use Rattle.pmem_engine.specs.WritePlans.{write_plan}
use Rattle.engine_lines.specs.declared.edits.Edit.{Edit}
use Rattle.engine_lines.specs.declared.edits.Edit.TheVariants as Make
use Rattle.engine_lines.specs.Lines.{done_as}
use Rattle.engine_lines.specs.Plans.{put_plan, edit_plan, edits_plan}
use Rattle.engine_lines.proofs.EngineLines.{setup_under}
use Rattle.engine_lines.proofs.RegisterPlans.{done_with_regs, stopped_with_regs}

module _ (setup : Setup) (chip : Chip) {old new : Device} where
  -- a write of the engine, whatever it answers
  pub put_follows : (at : ℕ) (line : Line) (made : Result Ctr Fault) (after : Chip)
      → Follows (write_plan setup old.regs (whole_write at line) chip) old new (ended made after)
      → Follows (put_plan setup at line chip old.regs) old new (ended_with (done_as made) after new.regs)
  put_follows at line (Ok ctr) after it = mapped_follows (λ left. left) (λ end. (end.0.0, end.1)) (done_with_regs it)
  put_follows at line (Err fault) after it = mapped_follows (λ left. left) (λ end. (end.0.0, end.1)) (stopped_with_regs it)

  pub as_put : (at : ℕ) (line : Line) (answer : Result (Unit {0}) Fault) (after : Chip)
      → Follows (put_plan setup at line chip old.regs) old new (ended_with answer after new.regs)
      → Follows (edit_plan setup (Make.Put at line) (chip, old.regs)) old new (ended_with answer after new.regs)
  unfolding edit_plan
  as_put at line answer after it = it

  -- the line wasn't read
  pub copy_stopped : (from at : ℕ) (fault : Fault) (after : Chip)
      → Follows (read_plan setup old.regs from chip) old new (Err (after, fault))
      → Follows (edit_plan setup (Make.Copy from at) (chip, old.regs)) old new (Err (after, fault))
  unfolding edit_plan
  copy_stopped from at fault after it =
      bind_err (λ found. put_plan setup at found.0.1 found.0.0 found.1) (stopped_with_regs it)

  -- it was, and then written
  pub copied : (from at : ℕ) (line : Line) {mid : Device} (found : Chip) (answer : Result (Unit {0}) Fault) (after : Chip)
      → Follows (read_plan setup old.regs from chip) old mid (Ok (found, line))
      → Follows (put_plan setup at line found mid.regs) mid new (ended_with answer after new.regs)
      → Follows (edit_plan setup (Make.Copy from at) (chip, old.regs)) old new (ended_with answer after new.regs)
  unfolding edit_plan
  copied from at line found answer after was_read was_put =
      bind_ok (λ found. put_plan setup at found.0.1 found.0.0 found.1) (done_with_regs was_read) was_put

-- the same changes, and the same change, in other words
pub edit_as : (setup : Setup) (edit made : Edit) (before : Chip × Regs) {old new : Device} {end : Result (Chip × Regs) (Chip × Fault)} → edit ≡ made
    → Follows (edit_plan setup made before) old new end → Follows (edit_plan setup edit before) old new end
edit_as setup edit made before {old = old} {new = new} {end = end} same it =
    subst (λ (e : Edit). Follows (edit_plan setup e before) old new end) (sym same) it

pub edits_as : (setup : Setup) (edits made : List Edit) (before : Chip × Regs) {old new : Device} {end : Result (Chip × Regs) (Chip × Fault)}
    → edits ≡ made → Follows (edits_plan setup edits before) old new end → Follows (edits_plan setup made before) old new end
edits_as setup edits made before {old = old} {new = new} {end = end} same it =
    subst (λ (es : List Edit). Follows (edits_plan setup es before) old new end) same it

-- ---- a later call is of the same geometry and keys

module _ (formulas_of : List ℕ → Formulas) (g g' : Shape) (keys keys' : List ℕ) (same : g' ≡ g) (same_keys : keys' ≡ keys) where
  under : (P : Setup → Type 0) → P (setup_under formulas_of g' keys') → P (setup_under formulas_of g keys)
  under P it =
      subst (λ (k : List ℕ). P (setup_under formulas_of g k)) same_keys (subst (λ (s : Shape). P (setup_under formulas_of s keys')) same it)

  pub put_follows_under : (at : ℕ) (line : Line) (chip : Chip) (regs : Regs) {old new : Device} {end : Result (Chip × Regs) (Chip × Fault)}
      → Follows (put_plan (setup_under formulas_of g' keys') at line chip regs) old new end
      → Follows (put_plan (setup_under formulas_of g keys) at line chip regs) old new end
  put_follows_under at line chip regs {old = old} {new = new} {end = end} it =
      under (λ (s : Setup). Follows (put_plan s at line chip regs) old new end) it

  pub edit_follows_under : (edit : Edit) (before : Chip × Regs) {old new : Device} {end : Result (Chip × Regs) (Chip × Fault)}
      → Follows (edit_plan (setup_under formulas_of g' keys') edit before) old new end
      → Follows (edit_plan (setup_under formulas_of g keys) edit before) old new end
  edit_follows_under edit before {old = old} {new = new} {end = end} it =
      under (λ (s : Setup). Follows (edit_plan s edit before) old new end) it

  pub edits_follow_under : (edits : List Edit) (before : Chip × Regs) {old new : Device} {end : Result (Chip × Regs) (Chip × Fault)}
      → Follows (edits_plan (setup_under formulas_of g' keys') edits before) old new end
      → Follows (edits_plan (setup_under formulas_of g keys) edits before) old new end
  edits_follow_under edits before {old = old} {new = new} {end = end} it =
      under (λ (s : Setup). Follows (edits_plan s edits before) old new end) it
