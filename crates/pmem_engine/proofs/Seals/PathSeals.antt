-- A line sealed under its next counter together with its page's new path is one commit.
use Rattle.std.proofs.Common.{rules, ℕ, ◌≡◌, ◌≢◌, ◌<◌, ◌≤◌, ◌+◌, ◌%◌, false, List, [], ◌∷◌, length, IsTrue, refl, sym, ap, ap₂, subst, ◌∙◌, arith}
use Rattle.std.specs.Prelude.{◌&&◌, ◌||◌}
use Rattle.std.specs.List.{list_any}
use Rattle.std.proofs.lemmas.Bool.{eq-eqb, lt-ltb}
use Rattle.pmem_base.specs.declared.lines.Line.{Line}
use Rattle.pmem_base.specs.declared.lines.Ctr.{Ctr}
use Rattle.pmem_base.specs.declared.answers.Mark.{Mark}
use Rattle.pmem_base.specs.declared.answers.Mark.TheVariants.{Seal}
use Rattle.pmem_base.specs.Shape.{counter_window}
use Rattle.pmem_base.specs.Layout as layout
use Rattle.pmem_base.specs.Layout.{page_of, index_in_page}
use Rattle.pmem_base.specs.Registers.{IsGroup}
use Rattle.suite.specs.Setup.{Setup}
use Rattle.split_counters.specs.declared.Block.{Block}
use Rattle.split_counters.specs.Blocks.{packed, minor_of, with_minor, IsBlock, IsBumpedBlock, IsStoredBlock}
use Rattle.split_counters.proofs.Packing.{with_minor-IsBlock, with_minor-same}
use Rattle.split_counters.proofs.StoredBlocks.{IsBumpedBlock-with_minor, IsStoredBlock-bumped}
use Rattle.stop_loss.proofs.Windows.{is_loss_pos}
use Rattle.bonsai_tree.specs.Positions.{level_of}
use Rattle.bonsai_tree.specs.Paths.{IsTreeWith}
use Rattle.meta_path.specs.Storing.{new_line}
use Rattle.meta_path.proofs.StoreLemmas.{length-path_lines}
use Rattle.plain_model.specs.Bounds.{begun_lines, group_bound}
use Rattle.board.specs.Device.{Device, IsDevice}
use Rattle.board.specs.Steps.{Tells}
use Rattle.line_seal.specs.Seals.{with_tag}
use Rattle.seal_ledger.specs.Ledger.{LedgerState}
use Rattle.pmem_engine.specs.declared.resealing.NextSeal.{NextSeal}
use Rattle.pmem_engine.specs.Engine.{ChipState}
use Rattle.pmem_engine.specs.Truth.{true_block}
use Rattle.pmem_engine.specs.Invariants.{IsTrusted}
use Rattle.pmem_engine.specs.Sealed.{sealed_counter, sealed_block, IsSealed}
use Rattle.pmem_engine.specs.Parts.{parts_with}
use Rattle.pmem_engine.specs.Outcomes.{is_touching, NeverFalls}
use Rattle.pmem_engine.specs.Committing.{next_seal_of}
use Rattle.pmem_engine.specs.Inner.{cached_block}
use Rattle.pmem_engine.specs.CallFacts.{is_grouped}
use Rattle.pmem_engine.specs.Sealing.{next_counter_of, raised_block, seal_group, HasPathSealed}
use Rattle.pmem_engine.proofs.Laws.PolicyBounds.{lazy_window, length-seal_group}
use Rattle.pmem_engine.proofs.Laws.AnchoredSeals.{true_block-IsBlock, true_block-new, valid_regs-done}
use Rattle.pmem_engine.proofs.Laws.FreshSeals.{anchored-raised}
use Rattle.pmem_engine.proofs.Laws.DeviceSteps.{seal_group_step}
use Rattle.pmem_engine.proofs.Seals.StoredPaths.{IsRenewing, new_tree, old_block_true, new_path_step}
use Rattle.pmem_engine.proofs.Seals.GroupCommits.{IsCommit}

-- the seal about to be committed is one of a line under its next counter, with its page's path made anew
pub record IsPathSealing (setup : Setup) (at : ℕ) (tag_line : Line) (grouped : ℕ) (lines : List (ℕ × Line)) (root : List ℕ)
    (engine : ChipState) (old : Device) : Type 0 where
  pub path : IsRenewing setup (page_of at) (raised_block setup.shape engine at) lines root engine
  pub its_line : at < layout.data_lines setup.shape
  pub low : minor_of (cached_block setup.shape engine (page_of at)) (index_in_page at) < 127
  pub tag_line_read : Tells old.lines (layout.tag_line setup.shape at) tag_line
  pub enough : setup.shape.persist ≤ grouped
  pub few : grouped ≤ begun_lines setup.shape
  pub rest : grouped ≡ 0 → (next_counter_of setup.shape engine at).minor % old.regs.loss ≢ 0
  pub unarmed : old.regs.group.items ≡ []
  pub whole : IsDevice old
  pub size : old.size ≡ layout.device_lines setup.shape

module _ (setup : Setup) (at : ℕ) (plain tag_line : Line) (grouped : ℕ) (lines : List (ℕ × Line)) (root : List ℕ)
    (engine engine_now : ChipState) (old new : Device) (before after : LedgerState) (tags digests tags_now digests_now : ℕ)
    (it : IsPathSealing setup at tag_line grouped lines root engine old)
    (done : HasPathSealed setup.shape
    (next_seal_of setup.formulas at (next_counter_of setup.shape engine at) plain tag_line) grouped lines root engine engine_now old.regs new.regs before after) where
  abbrev ctr : Ctr
  ctr = next_counter_of setup.shape engine at

  abbrev next : NextSeal
  next = next_seal_of setup.formulas at ctr plain tag_line

  abbrev mark : Mark
  mark = Seal next.at next.ctr next.cipher next.tag

  abbrev page : ℕ
  page = page_of at

  module _ (trusted : IsTrusted setup engine old.regs before) where
    abbrev true_before : Block
    true_before = true_block setup.shape before.truth page

    block_true : cached_block setup.shape engine page ≡ true_before
    block_true =
        old_block_true setup page (raised_block setup.shape engine at) lines root mark grouped engine engine_now old.regs before
        after it.path done.stored done.noted trusted it.enough

    counter_is : ctr ≡ sealed_counter setup.shape before.truth at ctr.minor
    counter_is = ap (λ (b : Block). record { major = b.major; minor = ctr.minor }) block_true

    raised : ctr.minor ≡ minor_of true_before (index_in_page at) + 1
    raised = ap (λ b. minor_of b (index_in_page at) + 1) block_true

    tree : IsTreeWith setup.shape setup.formulas page (packed (sealed_block setup.shape before.truth at ctr.minor)) new.regs.root
        before.truth after.truth
    tree =
        subst (λ b. IsTreeWith setup.shape setup.formulas page (packed b) new.regs.root before.truth after.truth)
        (ap (λ b. with_minor b (index_in_page at) ctr.minor) block_true)
        (new_tree setup page (raised_block setup.shape engine at) lines root mark grouped engine engine_now old.regs before after
        it.path done.stored done.noted trusted it.enough new.regs.root done.root_now)

    is_sealed : IsGroup (layout.device_lines setup.shape) new.regs.group.items
        → IsSealed setup at ctr.minor next.cipher next.tag old.regs new.regs before after
    is_sealed group = search (rules, counter_is, tree)

    -- without its block in the group, what is stored of that is so of the new one
    bumped : grouped ≡ 0 → (stored : Block) → IsStoredBlock old.regs.loss stored true_before
        → IsStoredBlock old.regs.loss stored (true_block setup.shape after.truth page)
    bumped kept stored is =
        IsStoredBlock-bumped old.regs.loss stored true_before (true_block setup.shape after.truth page) (index_in_page at)
        (is_loss_pos old.regs.loss trusted.anchored.valid_regs.known_loss) is
        (subst (λ b. IsBumpedBlock true_before b (index_in_page at)) (sym block_now)
        (IsBumpedBlock-with_minor true_before (index_in_page at) ctr.minor (omega (arith, valid.count)) raised))
        (λ e.
        it.rest kept
        (ap (λ n. n % old.regs.loss)
        (sym
        (ap (λ b. minor_of b (index_in_page at)) block_now
        ∙ ap (λ c. c.minor) (with_minor-same true_before (index_in_page at) ctr.minor valid (omega arith))))
        ∙ e))
      where
        valid : IsBlock true_before
        valid = true_block-IsBlock setup old.regs before page trusted.anchored

        block_now : true_block setup.shape after.truth page ≡ sealed_block setup.shape before.truth at ctr.minor
        block_now =
            true_block-new setup.shape setup.formulas page (sealed_block setup.shape before.truth at ctr.minor) new.regs.root
            before.truth after.truth (with_minor-IsBlock true_before (index_in_page at) ctr.minor valid (omega (arith, it.low))) tree

    -- whatever the policy is
    unwritten : grouped ≡ 0 → (stored : Block) → IsStoredBlock (counter_window setup.shape old.regs.loss) stored true_before
        → IsStoredBlock (counter_window setup.shape old.regs.loss) stored (true_block setup.shape after.truth page)
    unwritten kept stored is =
        subst (λ loss. IsStoredBlock loss stored (true_block setup.shape after.truth page)) (sym lazy)
        (bumped kept stored (subst (λ loss. IsStoredBlock loss stored true_before) lazy is))
      where
        -- without a line of the path in the group counter blocks are lazy
        lazy : counter_window setup.shape old.regs.loss ≡ old.regs.loss
        lazy = lazy_window setup.shape old.regs.loss (omega (arith, it.enough, kept))

  -- it is one commit
  pub sealing : NeverFalls tags tags_now → NeverFalls digests digests_now
      → IsCommit setup (seal_group setup.shape next grouped lines) mark (is_grouped setup.shape page grouped)
      (λ x. new_line lines (level_of x))
      (parts_with engine old before tags digests) (parts_with engine_now new after tags_now digests_now)
  sealing never_tags never_digests =
      record {
        unarmed = it.unarmed;
        short = short;
        is_group = done.is_group;
        whole = it.whole;
        size = it.size;
        shape = done.stored.shape;
        lines = lines;
        noted = done.noted;
        loss = done.loss;
        valid = λ group valid. valid_regs-done setup.shape old.regs new.regs at done.progress done.loss group valid;
        tags = never_tags;
        digests = never_digests;
        device =
            λ told is whole.
            seal_group_step setup.shape next before.marks grouped lines told it.path.few done.stored.path whole it.its_line
            done.fits.its_tag.long
            (ap (λ line. with_tag line at next.tag)
            (subst (λ o. Tells o (layout.tag_line setup.shape at) tag_line) is it.tag_line_read));
        truth =
            λ trusted.
            new_path_step setup page (raised_block setup.shape engine at) lines root mark grouped engine engine_now old.regs before
            after it.path done.stored done.noted trusted it.enough (counter_window setup.shape old.regs.loss) touches (unwritten trusted);
        anchored =
            λ trusted group.
            anchored-raised setup at ctr.minor next.cipher next.tag old.regs new.regs before after trusted.anchored (raised trusted)
            (is_sealed trusted group);
      }
    where
      short : length (seal_group setup.shape next grouped lines) ≤ group_bound setup.shape
      short =
          omega (
            arith,
            length-seal_group setup.shape next grouped lines (length-path_lines setup.shape page lines done.stored.path),
            it.few,
          )

      touches : IsTrue (list_any (is_touching page) (mark ∷ []))
      touches = ap₂ (λ a b. a && b || false) (eq-eqb page page refl) (lt-ltb 0 ctr.minor (omega arith))
