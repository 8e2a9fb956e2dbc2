-- A page begun with its new path is one commit.
use Rattle.std.proofs.Common.{ℕ, ◌≡◌, ◌<◌, ◌-◌, ◌^◌, ◌++◌, false, List, [], ◌∷◌, None, refl, sym, ap, subst, ◌∙◌, arith}
use Rattle.std.specs.Prelude.{◌||◌}
use Rattle.std.proofs.lemmas.Bool.{eq-eqb}
use Rattle.pmem_base.specs.declared.lines.Line.{Line}
use Rattle.pmem_base.specs.declared.registers.Progress.{Progress}
use Rattle.pmem_base.specs.declared.answers.Mark.{Mark}
use Rattle.pmem_base.specs.declared.answers.Mark.TheVariants.{Begin}
use Rattle.pmem_base.specs.Shape.{counter_window}
use Rattle.pmem_base.specs.Layout as layout
use Rattle.pmem_base.specs.Lines.{line_at}
use Rattle.pmem_base.specs.Registers.{IsGroup}
use Rattle.pmem_base.proofs.LineLemmas.{IsLine-line_at}
use Rattle.suite.specs.Setup.{Setup}
use Rattle.split_counters.specs.declared.Block.{Block}
use Rattle.split_counters.specs.Blocks.{packed, next_block, IsBlock}
use Rattle.split_counters.proofs.Packing.{unpacked-packed, packed-unpacked}
use Rattle.bonsai_tree.specs.Positions.{counter_position, level_of}
use Rattle.bonsai_tree.specs.Paths.{IsTreeWith}
use Rattle.meta_path.specs.Storing.{new_line}
use Rattle.meta_path.proofs.StoreLemmas.{length-path_lines}
use Rattle.plain_model.specs.Bounds.{begun_lines}
use Rattle.board.specs.Device.{Device, IsDevice}
use Rattle.page_reencrypt.specs.Registers.{register_of, begun}
use Rattle.seal_ledger.specs.Ledger.{LedgerState}
use Rattle.pmem_engine.specs.Engine.{ChipState}
use Rattle.pmem_engine.specs.Truth.{true_block}
use Rattle.pmem_engine.specs.Invariants.{IsTrusted}
use Rattle.pmem_engine.specs.Sealed.{IsBegun}
use Rattle.pmem_engine.specs.Parts.{parts_with}
use Rattle.pmem_engine.specs.Outcomes.{NeverFalls}
use Rattle.pmem_engine.specs.Inner.{cached_block}
use Rattle.pmem_engine.specs.CallFacts.{is_grouped}
use Rattle.pmem_engine.specs.Sealing.{begin_group, HasPageBegun}
use Rattle.pmem_engine.proofs.Laws.PolicyBounds.{begun_some, begun_persist, path_entries_few}
use Rattle.pmem_engine.proofs.Laws.AnchoredBegins.{anchored-begun, valid_regs-begun}
use Rattle.pmem_engine.proofs.Laws.DeviceSteps.{begin_group_step}
use Rattle.pmem_engine.proofs.Seals.StoredPaths.{IsRenewing, new_tree, old_block_true, new_path_step}
use Rattle.pmem_engine.proofs.Seals.GroupCommits.{IsCommit}

-- the begin about to be committed is one of a closed page, with its path made anew
pub record IsBeginning (setup : Setup) (page : ℕ) (lines : List (ℕ × Line)) (root : List ℕ) (engine : ChipState) (old : Device) :
    Type 0 where
  pub path : IsRenewing setup page (next_block (cached_block setup.shape engine page)) lines root engine
  pub closed : register_of old.regs.progress.items page ≡ None
  pub major : (cached_block setup.shape engine page).major < 2 ^ 64 - 1
  pub valid : IsBlock (cached_block setup.shape engine page)
  pub unarmed : old.regs.group.items ≡ []
  pub whole : IsDevice old
  pub size : old.size ≡ layout.device_lines setup.shape

module _ (setup : Setup) (page : ℕ) (lines : List (ℕ × Line)) (root : List ℕ) (engine engine_now : ChipState) (old new : Device)
    (before after : LedgerState) (tags digests tags_now digests_now : ℕ) (it : IsBeginning setup page lines root engine old)
    (done : HasPageBegun setup.shape page (begun page (packed (cached_block setup.shape engine page))) lines root engine engine_now old.regs new.regs before after) where
  abbrev mark : Mark
  mark = Begin page

  abbrev cached : Block
  cached = cached_block setup.shape engine page

  abbrev register : Progress
  register = begun page (packed (cached_block setup.shape engine page))

  module _ (trusted : IsTrusted setup engine old.regs before) where
    block_true : cached_block setup.shape engine page ≡ true_block setup.shape before.truth page
    block_true =
        old_block_true setup page (next_block cached) lines root mark (begun_lines setup.shape) engine engine_now old.regs before after
        it.path done.stored done.noted trusted (begun_persist setup.shape)

    is_begun : IsGroup (layout.device_lines setup.shape) new.regs.group.items → IsBegun setup page old.regs new.regs before after
    is_begun group =
        record {
          kept = record { data_lines = done.noted.data_lines; exhibit = done.noted.exhibit; loss = done.loss; group = group };
          its_page = it.path.inside;
          closed = it.closed;
          can_roll = subst (λ b. b.major < 2 ^ 64 - 1) block_true it.major;
          marks = done.noted.marks;
          truth =
              subst (λ b. IsTreeWith setup.shape setup.formulas page (packed (next_block b)) new.regs.root before.truth after.truth)
              block_true
              (new_tree setup page (next_block cached) lines root mark (begun_lines setup.shape) engine engine_now old.regs before
              after it.path done.stored done.noted trusted (begun_persist setup.shape) new.regs.root done.root_now);
          progress =
              done.progress
              ∙ ap (λ line. old.regs.progress.items ++ begun page line ∷ [])
              (ap packed block_true
              ∙ packed-unpacked (line_at before.truth (counter_position setup.shape page))
              (IsLine-line_at before.truth (counter_position setup.shape page) trusted.anchored.of_shape.truth_lines));
        }

  -- it is one commit
  pub beginning : NeverFalls tags tags_now → NeverFalls digests digests_now
      → IsCommit setup (begin_group setup.shape lines) mark (is_grouped setup.shape page (begun_lines setup.shape))
      (λ x. new_line lines (level_of x)) (parts_with engine old before tags digests) (parts_with engine_now new after tags_now digests_now)
  beginning never_tags never_digests =
      record {
        unarmed = it.unarmed;
        short =
            omega (
              arith,
              path_entries_few setup.shape (begun_lines setup.shape) lines (length-path_lines setup.shape page lines done.stored.path),
            );
        is_group = done.is_group;
        whole = it.whole;
        size = it.size;
        shape = done.stored.shape;
        lines = lines;
        noted = done.noted;
        loss = done.loss;
        valid =
            λ group valid.
            valid_regs-begun setup.shape old.regs new.regs page (packed cached) it.path.inside
            (subst (λ b. b.major < 2 ^ 64 - 1) (sym (unpacked-packed cached it.valid)) it.major) it.closed done.progress done.loss
            group valid;
        tags = never_tags;
        digests = never_digests;
        device = λ told is whole. begin_group_step setup.shape before.marks page lines told it.path.few done.stored.path whole;
        truth =
            λ trusted.
            new_path_step setup page (next_block cached) lines root mark (begun_lines setup.shape) engine engine_now old.regs before
            after it.path done.stored done.noted trusted (begun_persist setup.shape) (counter_window setup.shape old.regs.loss) (ap (λ b. b || false) (eq-eqb page page refl))
            (λ none. absurd (omega (arith, none, begun_some setup.shape)));
        anchored = λ trusted group. anchored-begun setup page old.regs new.regs before after trusted.anchored (is_begun trusted group);
      }
