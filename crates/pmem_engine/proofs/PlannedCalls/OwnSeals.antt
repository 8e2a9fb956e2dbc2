-- A cut while a write's line is sealed: before the seal is made, or with its group armed.
use Rattle.std.proofs.Common.{ℕ, ◌≡◌, ◌≢◌, [], List, length, refl, sym, ap, ◌∙◌, inl, inr, arith, ◌⊎◌}
use Rattle.std.specs.Prelude.{⊤}
use Rattle.pmem_base.specs.declared.faults.Cut.{Cut}
use Rattle.pmem_base.specs.declared.lines.Line.{Line}
use Rattle.pmem_base.specs.declared.registers.Regs.{Regs}
use Rattle.pmem_base.specs.Counts.{risen}
use Rattle.pmem_base.specs.Registers.{without_group}
use Rattle.pmem_base.specs.Shape.{Shape}
use Rattle.board.specs.Device.{Device}
use Rattle.call_plan.specs.Plans.{latch, done, the_cut}
use Rattle.call_plan.specs.Bounds.{Leaves}
use Rattle.call_plan.proofs.Leaves.{leaves, leaves_bind, leaves_mapped, leaves_more, leaves_for_each}
use Rattle.commit_regs.specs.Plans.{line_plan, lines_plan, finish_plan}
use Rattle.suite.specs.Setup.{Setup}
use Rattle.pmem_engine.specs.declared.resealing.NextSeal.{NextSeal}
use Rattle.pmem_engine.specs.CallFacts.{grouped_lines}
use Rattle.pmem_engine.specs.Committing.{next_seal_of}
use Rattle.pmem_engine.specs.Sealing.{next_counter_of, raised_block, seal_group}
use Rattle.pmem_engine.specs.Plans.{Chip, with_tags}
use Rattle.pmem_engine.specs.SealPlans.{next_lines, next_root, with_path_digests, with_marked_path, seal_armed, commit_seal_plan, seal_next_plan}
use Rattle.pmem_engine.specs.SealLaws.{IsCutUnsealedOrArmed, OwnSealsStayArmed}
use Rattle.pmem_engine.proofs.PlannedCalls.LowWrites.{group_leaves}
use Rattle.pmem_base.specs.Layout.{page_of}
use Rattle.pmem_base.specs.declared.answers.Mark.TheVariants.{Seal}

-- while an armed group is finished the registers are the armed ones
armed_until : (armed : Regs) (now : Device) → now.regs ≡ armed
    → Leaves (finish_plan armed) (λ t d. ⊤) (λ left d. d.regs ≡ armed) now
unfolding Leaves
armed_until armed now is =
    leaves_bind (λ t d. ⊤) (λ left d. d.regs ≡ armed) (lines_plan armed.group.items) (λ written. latch the_cut (without_group armed) (done (tt {0}))) now
    (leaves_more (λ t d. d.regs ≡ armed) (λ t d. Leaves (latch the_cut (without_group armed) (done (tt {0}))) (λ t d. ⊤) (λ left d. d.regs ≡ armed) d)
    (λ left d. d.regs ≡ armed) (λ left d. d.regs ≡ armed) (lines_plan armed.group.items) now
    (λ t d its. (λ new was. was.regs ∙ its, λ new was. tt)) (λ left d its. its)
    (leaves_for_each (λ later t d. d.regs ≡ armed) (λ left d. d.regs ≡ armed) line_plan armed.group.items tt now
    (λ entry later t d its. (λ new was. was.regs ∙ its, λ new was. was.regs ∙ its)) is))

-- a seal's group has lines
pub filled : (g : Shape) (next : NextSeal) (grouped : ℕ) (lines : List (ℕ × Line)) → seal_group g next grouped lines ≢ []
filled g next grouped lines is = absurd (omega (arith, ap length is))

module _ (chip : Chip) (old : Device) where
  abbrev Ends : Chip × Cut → Device → Type 0
  Ends left new = IsCutUnsealedOrArmed chip old new left

  commit_so : (g : Shape) (next : NextSeal) (grouped : ℕ) (lines : List (ℕ × Line)) (root : List ℕ) (regs : Regs) (before : Chip)
      (now : Device) → before.ledger ≡ chip.ledger → now.regs ≡ old.regs
      → Leaves (commit_seal_plan g next grouped lines root regs before) (λ end d. ⊤) Ends now
  commit_so g next grouped lines root regs before now same is =
      let armed : Regs = seal_armed g next grouped lines root regs in
      leaves_more (λ end d. ⊤ × (end.1 ≡ without_group armed)) (λ end d. ⊤)
      (λ left d. ((left.0.ledger ≡ chip.ledger) × (d.regs ≡ old.regs)) ⊎ (d.regs.group.items ≢ [])) Ends _ now (λ end d it. tt) (λ left d it. it)
      (group_leaves (λ s d. ⊤) (λ s d. ((s.ledger ≡ chip.ledger) × (d.regs ≡ old.regs)) ⊎ (d.regs.group.items ≢ [])) armed before
      (with_marked_path g (Seal next.at next.ctr next.cipher next.tag) (page_of next.at) grouped lines before) now
      (λ new was. inl (same, was.regs ∙ is))
      (λ mid was. leaves_more (λ t d. ⊤) (λ t d. ⊤) (λ left d. d.regs ≡ armed)
      (λ left d. (((with_marked_path g (Seal next.at next.ctr next.cipher next.tag) (page_of next.at) grouped lines before).ledger ≡ chip.ledger)
      × (d.regs ≡ old.regs)) ⊎ (d.regs.group.items ≢ [])) (finish_plan armed) mid (λ t d it. tt)
      (λ left d its. inr (λ none. filled g next grouped lines (ap (λ (r : Regs). r.group.items) (sym its) ∙ none)))
      (armed_until armed mid was.regs)))

  seal_so : (setup : Setup) (at : ℕ) (plain : Line) (regs : Regs) → Leaves (seal_next_plan setup at plain regs chip) (λ end d. ⊤) Ends old
  unfolding Leaves seal_next_plan
  seal_so setup at plain regs =
      let ctr = next_counter_of setup.shape chip.engine at in
      let block = raised_block setup.shape chip.engine at in (
        λ new was off. inl (refl, was.regs),
        λ tags mid was whole.
            leaves_mapped _ _ (λ end d. ⊤) Ends _ mid
            (commit_so setup.shape (next_seal_of setup.formulas at ctr plain tags) (grouped_lines setup.shape regs.loss ctr.minor)
            (next_lines setup chip.engine (page_of at) block) (next_root setup chip.engine (page_of at) block) regs
            (with_tags (with_path_digests setup.shape chip) (risen chip.tags)) mid refl was.regs),
      )

pub own_armed : OwnSealsStayArmed
own_armed setup at plain regs chip old new left it = leaves (λ end d. ⊤) (λ left d. Ends chip old left d) (seal_so chip old setup at plain regs) it
