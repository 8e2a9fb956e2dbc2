-- Reads: the engine's answer is legal and fits, and the world goes on.
use Rattle.std.proofs.Common.{rules}
use Rattle.std.proofs.Common.{ℕ, ◌≡◌, ◌≢◌, ◌<◌, ◌≤◌, inl, inr, true, false, [], IsTrue, Some, None, Ok, Err, refl, sym, ap, subst, ◌∙◌, arith}
use Rattle.std.specs.Prelude.{Result, IfSome, option_map}
use Rattle.std.proofs.lemmas.Option.{same_Some}
use Rattle.std.proofs.lemmas.Bool.{lt-ltb, le-leb}
use Rattle.std.proofs.lemmas.List.{append-nil}
use Rattle.pmem_base.specs.declared.lines.Line.{Line}
use Rattle.pmem_base.specs.declared.commands.Command.TheVariants as Do
use Rattle.pmem_base.specs.declared.answers.Answer.TheVariants as Say
use Rattle.pmem_base.specs.declared.answers.Place.{Place}
use Rattle.pmem_base.specs.declared.answers.Exhibit.{Exhibit}
use Rattle.pmem_base.specs.declared.answers.Exhibit.TheVariants.{Clash, Forged}
use Rattle.pmem_base.specs.Marks.{last_seal}
use Rattle.pmem_base.specs.Layout as layout
use Rattle.pmem_base.specs.Layout.{page_of}
use Rattle.pmem_base.specs.Lines.{line_at}
use Rattle.pmem_base.specs.WaitingWrites.{queue_of, writes_to, put_writes}
use Rattle.meta_path.specs.Blocks.{dirty_count}
use Rattle.suite.specs.Setup.{Setup}
use Rattle.plain_model.specs.State.{is_flagged}
use Rattle.plain_model.specs.Legal.{IsRefusalCaused}
use Rattle.plain_model.specs.Shown.{IsShown, CanBeRefused}
use Rattle.plain_model.proofs.Views.{counter_at-last}
use Rattle.pmem_engine.proofs.Laws.TrueLines.{true_line-is}
use Rattle.plain_model.specs.Bounds.{path_length, dirty_bound}
use Rattle.pmem_engine.specs.declared.fault.Fault.{Fault}
use Rattle.pmem_engine.specs.declared.fault.Fault.TheVariants as Fail
use Rattle.pmem_engine.specs.Engine.{EngineState}
use Rattle.pmem_engine.specs.Invariants.{IsSealStored}
use Rattle.call_effects.specs.Outcomes.{going}
use Rattle.pmem_engine.specs.Outcomes.{outcome_of, OneLossEffect, KeepsPlaces}
use Rattle.pmem_engine.specs.Faults.{IsClashShown, IsForgedShown}
use Rattle.pmem_engine.specs.Calls.{HasReadLine}
use Rattle.pmem_replay.specs.World.{WorldState, IsOn, view_in, lines_in}
use Rattle.watched_board.specs.declared.taken.Taken.{Taken}
use Rattle.watched_board.specs.Watching.{none_taken, steps_in}
use Rattle.watched_board.proofs.StepLaws.{at_most, fewer}
use Rattle.pmem_replay.specs.During.{parts_in}
use Rattle.pmem_replay.specs.EngineCalls.{IsCall}
use Rattle.pmem_replay.proofs.Steps.WorldsAfterCalls.{on_in, cut_at_fuse, within_fuse}
use Rattle.pmem_replay.proofs.Steps.FaultCauses.{on_path-within, may_differ, fetched_before, stored_unspoiled, stored_before, hurt_before, tag_unstored, forged_unstored, forged_other, zero_within, shown_uncut}
use Rattle.pmem_replay.specs.Replies.{without_marks}
use Rattle.pmem_replay.proofs.Steps.GoodReplies.{IsGood, good}
use Rattle.pmem_replay.proofs.Marks.DirtyBlocks.{dirty_count-le}
use Rattle.pmem_replay.proofs.Steps.MarklessCalls.{accounted_in}

module _ (setup : Setup) (old new : WorldState) (engine after : EngineState) (taken : Taken)
    (call : IsCall setup old new engine after taken) (port at : ℕ) (within : at < layout.data_lines setup.shape) where
  on_now : IsOn setup old engine
  on_now = on_in setup old engine call.world call.was_on

  -- the steps of a read that isn't cut
  steps_within : (answer : Result Line Fault) → HasReadLine setup at (parts_in old engine none_taken) (parts_in new after taken) answer
      → (steps_in taken ≤ path_length setup.shape) × (steps_in taken ≤ dirty_bound setup.shape old.state)
  steps_within answer read =
      let path = at_most taken (path_length setup.shape) call.follows.few read.steps_of_path.0.sum in
      let dirty = at_most taken (dirty_count setup.shape engine.cache) call.follows.few read.steps_of_dirty.0.sum in
      let few = dirty_count-le setup.shape engine.cache old.state (accounted_in setup old engine call.world on_now) in
      (path, omega (arith, dirty, few))

  -- and of one that is
  cut_within : HasReadLine setup at (parts_in old engine none_taken) (parts_in new after taken) (Err Fail.Cut)
      → (steps_in taken < path_length setup.shape) × (steps_in taken < dirty_bound setup.shape old.state)
  cut_within read =
      let live : old.board.powered ≡ true = call.world.board.power ∙ on_now.powered in
      let path = fewer taken (path_length setup.shape) call.follows.few (read.steps_of_path.1 live).sum in
      let dirty = fewer taken (dirty_count setup.shape engine.cache) call.follows.few (read.steps_of_dirty.1 live).sum in
      let few = dirty_count-le setup.shape engine.cache old.state (accounted_in setup old engine call.world on_now) in
      (path, omega (arith, dirty, few))

  read_powered : (answer : Result Line Fault) → outcome_of answer ≡ going
      → HasReadLine setup at (parts_in old engine none_taken) (parts_in new after taken) answer → new.board.powered ≡ true
  read_powered answer goes read =
      let done = subst (λ o. OneLossEffect setup o [] (parts_in old engine none_taken) (parts_in new after taken)) goes read.done in
      done.gone.power.1 (call.world.board.power ∙ on_now.powered)

  -- ---- a line

  module _ (line : Line) (read : HasReadLine setup at (parts_in old engine none_taken) (parts_in new after taken) (Ok line)) where
    -- it is memory's
    pub read-memory : line ≡ line_at old.state.memory at
    read-memory =
        same_Some line (line_at old.state.memory at)
        (sym (read.answered on_now.trusted).0 ∙ call.world.memory.each at within)

    -- and its seal stands on the device
    pub read-stored : IsSealStored setup.shape (lines_in new) new.ledger.marks at
    read-stored = (read.answered on_now.trusted).1

    read-unspoiled : is_flagged old.state.spoiled at ≡ false
    read-unspoiled =
        let done = read.done in
        stored_unspoiled setup old.state (lines_in old) old.board.regs.loss old.ledger at call.world.kept within
        (stored_before setup old new engine after taken [] (done.gone.places on_now.trusted) done.gone.marks at within refl read-stored)

    pub read-good : IsGood setup old (Do.Read port at) (without_marks (Say.Got (put_writes line (writes_to (queue_of old.state.queues port) at)) (steps_in taken)))
    read-good =
        let powered = read_powered (Ok line) refl read in
        let bounds = steps_within (Ok line) read in
        good refl (within_fuse old.state old.board new.board taken call.world.board call.follows powered) refl
        (ap (λ z. put_writes z (writes_to (queue_of old.state.queues port) at)) read-memory, read-unspoiled) tt refl
        tt tt tt
        (le-leb (steps_in taken) (path_length setup.shape) bounds.0, le-leb (steps_in taken) (dirty_bound setup.shape old.state) bounds.1)

  -- ---- a refused metadata line

  module _ (x : ℕ) (read : HasReadLine setup at (parts_in old engine none_taken) (parts_in new after taken) (Err (Fail.Meta x))) where
    pub meta-good : IsGood setup old (Do.Read port at) (without_marks (Say.Refused None (Place.Meta x) (steps_in taken)))
    meta-good =
        let refused = read.answered on_now.trusted in
        let powered = read_powered (Err (Fail.Meta x)) refl read in
        let bounds = steps_within (Err (Fail.Meta x)) read in
        let done = read.done in
        let in_tree = on_path-within setup.shape (page_of at) x (omega (arith, within)) refused.fetched.on_path in
        let other : refused.line ≢ line_at old.ledger.truth x = λ same. refused.other_digest (ap (setup.formulas.digest_of x) same) in
        good refl (within_fuse old.state old.board new.board taken call.world.board call.follows powered) refl (
          refused.fetched.on_path,
          may_differ setup old engine x refused.line on_now in_tree refused.fetched.uncached
              (fetched_before setup old new engine after taken (page_of at) x refused.line call.world.whole_shape on_now
              done.gone in_tree refused.fetched other)
              other,
        )
        tt refl tt tt tt
        (le-leb (steps_in taken) (path_length setup.shape) bounds.0, le-leb (steps_in taken) (dirty_bound setup.shape old.state) bounds.1)

  -- ---- a refused data line

  module _ (b : ℕ) (read : HasReadLine setup at (parts_in old engine none_taken) (parts_in new after taken) (Err (Fail.Tag b))) where
    pub tag-good : IsGood setup old (Do.Read port at) (without_marks (Say.Refused None (Place.Line b) (steps_in taken)))
    tag-good =
        let refused = read.answered on_now.trusted in
        let done = read.done in
        let powered = read_powered (Err (Fail.Tag b)) refl read in
        let bounds = steps_within (Err (Fail.Tag b)) read in
        good refl (within_fuse old.state old.board new.board taken call.world.board call.follows powered) refl (
          subst (λ z. IsTrue (is_flagged old.state.hurt z)) (sym refused.0)
              (hurt_before setup old new engine after taken [] at call.world.kept (done.gone.places on_now.trusted) within
              (tag_unstored setup new after taken at (done.gone.trusted on_now.trusted) refused.1)),
          refused.0,
        )
        tt refl tt tt tt
        (le-leb (steps_in taken) (path_length setup.shape) bounds.0, le-leb (steps_in taken) (dirty_bound setup.shape old.state) bounds.1)

  -- ---- a cut

  module _ (read : HasReadLine setup at (parts_in old engine none_taken) (parts_in new after taken) (Err Fail.Cut)) where
    pub cut-good : setup.shape.levels ≤ 6 → IsGood setup old (Do.Read port at) (without_marks (Say.Cut (steps_in taken)))
    cut-good few =
        let done = read.done in
        let bounds = cut_within read in
        good refl
        (cut_at_fuse old.state old.board new.board taken call.world.board call.follows done.gone.power.1
        (omega (arith, bounds.0, few)))
        refl tt tt refl tt tt tt
        (lt-ltb (steps_in taken) (path_length setup.shape) bounds.0, lt-ltb (steps_in taken) (dirty_bound setup.shape old.state) bounds.1)

  -- ---- an exhibit

  module _ (read : HasReadLine setup at (parts_in old engine none_taken) (parts_in new after taken) (Err Fail.Shown))
      (exhibit : Exhibit) (its : new.ledger.exhibit ≡ Some exhibit) where
    could_refuse : (place : Place) → IsRefusalCaused setup old.state (Do.Read port at) place
        → CanBeRefused setup old.state (view_in setup old) (Do.Read port at) [] None place
    could_refuse place caused = search (rules, arith, le-leb, within_fuse, zero_within)

    clash-shown : (clash : IsClashShown setup (page_of at) (parts_in old engine none_taken) (parts_in new after taken))
        → clash.line ≡ line_at old.board.lines (layout.meta_line setup.shape clash.x)
        → IsShown setup old.state (view_in setup old) (Do.Read port at) [] exhibit
    clash-shown clash before =
        let in_tree = on_path-within setup.shape (page_of at) clash.x (omega (arith, within)) clash.fetched.on_path in
        let same = same_Some (Clash clash.x clash.line (line_at old.ledger.truth clash.x)) exhibit (sym clash.exhibit ∙ its) in
        subst (λ e. IsShown setup old.state (view_in setup old) (Do.Read port at) [] e) same
        (record {
          holds = record { differ = clash.other_line; one_digest = clash.same_digest };
          in_run =
              record {
                true_second =
                    sym (true_line-is setup old.board.regs old.ledger on_now.trusted.anchored call.world.whole_shape clash.x in_tree);
                refusable = (
                  None,
                  could_refuse (Place.Meta clash.x) (
                    clash.fetched.on_path,
                    may_differ setup old engine clash.x clash.line on_now in_tree clash.fetched.uncached before clash.other_line,
                  ),
                );
              };
        })

    forged-shown : (forged : IsForgedShown setup at (parts_in new after taken))
        → KeepsPlaces setup [] (parts_in old engine none_taken) (parts_in new after taken)
        → IsShown setup old.state (view_in setup old) (Do.Read port at) [] exhibit
    forged-shown forged places =
        let done = read.done in
        let marks : new.ledger.marks ≡ old.ledger.marks = done.gone.marks ∙ append-nil old.ledger.marks in
        let none : new.board.regs.group.items ≡ [] = ap (λ group. group.items) (done.gone.group shown_uncut) ∙ on_now.trusted.no_group in
        let same = same_Some (Forged at forged.ctr forged.cipher forged.tag) exhibit (sym forged.exhibit ∙ its) in
        let its_ctr : option_map (λ seal. seal.ctr) (last_seal old.ledger.marks at) ≡ Some forged.ctr =
        ap (λ marks. option_map (λ seal. seal.ctr) (last_seal marks at)) (sym marks) ∙ forged.unsealed.counter in
        subst (λ e. IsShown setup old.state (view_in setup old) (Do.Read port at) [] e) same
        (record {
          holds = forged.right_tag;
          in_run =
              record {
                last_counter = sym (counter_at-last setup.shape old.ledger.marks at forged.ctr within its_ctr);
                refusable = (
                  None,
                  could_refuse (Place.Line at) (
                    hurt_before setup old new engine after taken [] at call.world.kept places within
                        (forged_unstored setup new after taken at none forged),
                    refl,
                  ),
                  forged_other setup old.board.regs old.ledger old.state.memory at forged.ctr forged.cipher call.world.whole_formulas
                      on_now.trusted.anchored call.world.memory within its_ctr
                      (subst (λ marks. IfSome (last_seal marks at) (λ seal. forged.cipher ≢ seal.cipher)) marks forged.other_cipher),
                );
              };
        })

    pub shown-good : ((clash : IsClashShown setup (page_of at) (parts_in old engine none_taken) (parts_in new after taken))
        → clash.line ≡ line_at old.board.lines (layout.meta_line setup.shape clash.x))
        → KeepsPlaces setup [] (parts_in old engine none_taken) (parts_in new after taken)
        → IsGood setup old (Do.Read port at) (without_marks (Say.Shown exhibit))
    shown-good before places =
        good refl (zero_within old.state.fuse) refl tt
        (elim (read.answered on_now.trusted) [
          | inl clash ↦ clash-shown clash (before clash)
          | inr forged ↦ forged-shown forged places
        ])
        refl tt tt tt tt
