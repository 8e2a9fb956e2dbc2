-- A held line sealed anew is one commit.
use Rattle.std.proofs.Common.{rules, ℕ, ◌≡◌, ◌<◌, ◌+◌, [], length, Some, refl, sym, ap, subst, ◌∙◌}
use Rattle.pmem_base.specs.declared.lines.Line.{Line}
use Rattle.pmem_base.specs.declared.registers.Progress.{Progress}
use Rattle.pmem_base.specs.declared.answers.Mark.{Mark}
use Rattle.pmem_base.specs.declared.answers.Mark.TheVariants.{Seal}
use Rattle.pmem_base.specs.Shape.{counter_window}
use Rattle.pmem_base.specs.Layout as layout
use Rattle.pmem_base.specs.Lines.{zero_line}
use Rattle.pmem_base.specs.Registers.{IsGroup, old_major}
use Rattle.board.specs.Device.{Device, IsDevice}
use Rattle.board.specs.Steps.{Tells}
use Rattle.line_seal.specs.Seals.{with_tag}
use Rattle.page_reencrypt.specs.Registers.{register_held}
use Rattle.seal_ledger.specs.Ledger.{LedgerState}
use Rattle.suite.specs.Setup.{Setup}
use Rattle.pmem_engine.specs.declared.resealing.NextSeal.{NextSeal}
use Rattle.pmem_engine.specs.Engine.{ChipState}
use Rattle.pmem_engine.specs.Invariants.{IsTrusted}
use Rattle.pmem_engine.specs.Sealed.{IsResealed}
use Rattle.pmem_engine.specs.Parts.{parts_with}
use Rattle.pmem_engine.specs.Outcomes.{NeverFalls}
use Rattle.pmem_engine.specs.Committing.{entries_of}
use Rattle.pmem_engine.specs.Resealing.{HasLineSealed}
use Rattle.pmem_engine.proofs.Laws.AnchoredSeals.{valid_regs-done}
use Rattle.pmem_engine.proofs.Laws.FreshSeals.{anchored-resealed, held-next_major}
use Rattle.pmem_engine.proofs.Laws.DeviceSteps.{none_written, entries_step}
use Rattle.pmem_engine.proofs.Laws.TruthSteps.{IsTruthStep, truth_stays}
use Rattle.pmem_engine.proofs.Laws.PolicyBounds.{two_few}
use Rattle.pmem_engine.proofs.Seals.GroupCommits.{IsCommit}

-- the seal about to be committed is one of a held line, under its page's next major and 0
pub record IsResealing (setup : Setup) (next : NextSeal) (register : Progress) (old : Device) : Type 0 where
  pub its_line : next.at < layout.data_lines setup.shape
  pub held : register_held old.regs.progress.items next.at ≡ Some register
  pub its_counter : next.ctr ≡ record { major = old_major register + 1; minor = 0 }
  pub tagged : setup.formulas.tag_of next.at next.ctr next.cipher ≡ next.tag
  pub tags : Line
  pub tags_read : Tells old.lines (layout.tag_line setup.shape next.at) tags
  pub tag_line : next.tag_line ≡ with_tag tags next.at next.tag
  pub unarmed : old.regs.group.items ≡ []
  pub whole : IsDevice old
  pub size : old.size ≡ layout.device_lines setup.shape

module _ (setup : Setup) (next : NextSeal) (register : Progress) (engine : ChipState) (old new : Device) (before after : LedgerState)
    (tags digests tags_now digests_now : ℕ) (it : IsResealing setup next register old)
    (done : HasLineSealed setup.shape next old new before after) where
  abbrev mark : Mark
  mark = Seal next.at next.ctr next.cipher next.tag

  is_resealed : IsTrusted setup engine old.regs before → IsGroup (layout.device_lines setup.shape) new.regs.group.items
      → IsResealed setup next.at next.cipher next.tag old.regs new.regs before after
  is_resealed trusted group = search (rules, held-next_major)

  -- it is one commit, which writes no metadata line
  pub resealing : NeverFalls tags tags_now → NeverFalls digests digests_now
      → IsCommit setup (entries_of setup.shape next) mark none_written (λ x. zero_line) (parts_with engine old before tags digests)
      (parts_with engine new after tags_now digests_now)
  resealing never_tags never_digests =
      record {
        unarmed = it.unarmed;
        short = two_few setup.shape;
        is_group = done.is_group;
        whole = it.whole;
        size = it.size;
        shape = refl;
        lines = [];
        noted =
            record {
              marks = done.mark.marks;
              truth = done.mark.truth;
              count = ap length done.mark.truth;
              data_lines = done.mark.data_lines;
              exhibit = done.mark.exhibit;
            };
        loss = done.line_done.loss;
        valid =
            λ group valid.
            valid_regs-done setup.shape old.regs new.regs next.at done.line_done.progress done.line_done.loss group valid;
        tags = never_tags;
        digests = never_digests;
        device =
            λ told is whole.
            entries_step setup.shape next before.marks (λ x. zero_line) told whole it.its_line done.fits.its_tag.long
            (it.tag_line
            ∙ ap (λ line. with_tag line next.at next.tag)
            (subst (λ o. Tells o (layout.tag_line setup.shape next.at) it.tags) is it.tags_read));
        truth =
            λ trusted.
            subst
            (λ truth. IsTruthStep setup mark none_written (λ x. zero_line) (counter_window setup.shape old.regs.loss) engine engine
            before.truth truth)
            (sym done.mark.truth)
            (truth_stays setup mark (λ x. zero_line) (counter_window setup.shape old.regs.loss) engine old.regs before trusted);
        anchored =
            λ trusted group.
            anchored-resealed setup next.at register next.cipher next.tag old.regs new.regs before after trusted.anchored it.held
            (is_resealed trusted group);
      }
