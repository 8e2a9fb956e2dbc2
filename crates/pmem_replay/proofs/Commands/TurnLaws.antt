-- Turns: the engine's answer is legal and fits, and the world goes on.
use Rattle.std.proofs.Common.{rules}
use Rattle.std.proofs.Common.{ℕ, ◌≡◌, ◌≢◌, ◌⊎◌, [], Some, None, Ok, Err, refl, sym, ap, subst, ◌∙◌, arith}
use Rattle.std.specs.Prelude.{IfSome, IsSome, option_map, All}
use Rattle.std.proofs.lemmas.Option.{same_Some}
use Rattle.std.proofs.lemmas.List.{append-nil}
use Rattle.pmem_base.specs.declared.answers.Exhibit.{Exhibit}
use Rattle.pmem_base.specs.declared.answers.Exhibit.TheVariants.{Forged}
use Rattle.pmem_base.specs.declared.answers.Place.{Place}
use Rattle.pmem_base.specs.Marks.{last_seal}
use Rattle.pmem_base.specs.declared.commands.Command.TheVariants as Do
use Rattle.pmem_base.specs.declared.answers.Answer.TheVariants as Say
use Rattle.suite.specs.Setup.{Setup}
use Rattle.plain_model.proofs.Views.{counter_at-last}
use Rattle.plain_model.specs.Asked.{Moment, moment_of}
use Rattle.plain_model.specs.Shown.{IsShown}
use Rattle.plain_model.specs.Fits.{IsTurnMark, oldest_page}
use Rattle.pmem_engine.specs.declared.fault.Fault.TheVariants as Fail
use Rattle.pmem_engine.specs.Engine.{EngineState}
use Rattle.call_effects.specs.Outcomes.{going, shown}
use Rattle.pmem_engine.specs.Outcomes.{OneLossEffect, KeepsPlaces}
use Rattle.pmem_engine.specs.Calls.{HasTurned}
use Rattle.pmem_replay.specs.World.{WorldState, IsOn, view_in}
use Rattle.watched_board.specs.declared.taken.Taken.{Taken}
use Rattle.watched_board.specs.Watching.{none_taken, steps_in}
use Rattle.watched_board.proofs.StepLaws.{fewer}
use Rattle.pmem_replay.specs.During.{parts_in}
use Rattle.pmem_replay.specs.EngineCalls.{IsCall}
use Rattle.pmem_replay.proofs.Steps.WorldsAfterCalls.{on_in, cut_at_fuse, within_fuse}
use Rattle.pmem_replay.proofs.Steps.FaultCauses.{hurt_before, tag_unstored, forged_unstored, forged_other, zero_within, shown_uncut}
use Rattle.pmem_replay.proofs.Steps.MarklessCalls.{exactly}
use Rattle.pmem_replay.proofs.Marks.OpenPages.{IsWholePage, whole_pages, lowest_within}
use Rattle.pmem_replay.specs.Replies.{without_marks}
use Rattle.pmem_replay.proofs.Steps.GoodReplies.{IsGood, good}

module _ (setup : Setup) (old new : WorldState) (engine after : EngineState) (taken : Taken)
    (call : IsCall setup old new engine after taken) where
  on_now : IsOn setup old engine
  on_now = on_in setup old engine call.world call.was_on

  abbrev pub now : Moment
  now = moment_of old.state (view_in setup old)

  pages_whole : All (IsWholePage setup.shape) (view_in setup old).open_pages
  pages_whole = whole_pages setup old.board.regs old.ledger on_now.trusted.anchored

  -- ---- no page is open

  module _ (turn : HasTurned setup (parts_in old engine none_taken) (parts_in new after taken) (Ok None)) where
    pub idle-good : IsGood setup old Do.Turn (without_marks Say.Idle)
    idle-good = search (rules, zero_within)

  -- ---- a line is sealed anew

  module _ (turned : ℕ × ℕ) (turn : HasTurned setup (parts_in old engine none_taken) (parts_in new after taken) (Ok (Some turned))) where
    pub turned-good : IsGood setup old Do.Turn (record { marks = turn.made; answer = Say.Turned turned.1 (steps_in taken) })
    turned-good =
        let marks = turn.marks on_now.trusted old.state.memory call.world.memory.each in
        let counts = turn.counts in
        let done = turn.done in
        let powered = done.gone.power.1 (call.world.board.power ∙ on_now.powered) in
        good refl (within_fuse old.state old.board new.board taken call.world.board call.follows powered) refl tt tt
        (marks.0, marks.2) tt tt tt (exactly old.board new.board taken 4 call.follows.few counts.0)

  -- ---- a refused line

  module _ (b : ℕ) (turn : HasTurned setup (parts_in old engine none_taken) (parts_in new after taken) (Err (Fail.Tag b))) where
    refused_made : turn.made ≡ []
    refused_made = (turn.marks on_now.trusted old.state.memory call.world.memory.each).0

    refused_done : OneLossEffect setup going [] (parts_in old engine none_taken) (parts_in new after taken)
    refused_done =
        subst (λ made. OneLossEffect setup going made (parts_in old engine none_taken) (parts_in new after taken)) refused_made
        turn.done

    pub refused-good : IsGood setup old Do.Turn (without_marks (Say.Refused None (Place.Line b) (steps_in taken)))
    refused-good =
        let marks = turn.marks on_now.trusted old.state.memory call.world.memory.each in
        let done = refused_done in
        let powered = done.gone.power.1 (call.world.board.power ∙ on_now.powered) in
        let within = lowest_within setup.shape (view_in setup old).open_pages b pages_whole marks.1 in
        good refl (within_fuse old.state old.board new.board taken call.world.board call.follows powered) refl (
          hurt_before setup old new engine after taken [] b call.world.kept (done.gone.places on_now.trusted) within
              (tag_unstored setup new after taken b (done.gone.trusted on_now.trusted) (turn.answered on_now.trusted)),
          tt,
        )
        tt (refl, marks.1) tt tt tt
        (exactly old.board new.board taken 0 call.follows.few turn.counts)

  -- ---- a cut

  module _ (turn : HasTurned setup (parts_in old engine none_taken) (parts_in new after taken) (Err Fail.Cut)) where
    cut_marks : IsSome (oldest_page now) × ((turn.made ≡ []) ⊎ IsTurnMark setup.formulas now turn.made)
    cut_marks = turn.marks on_now.trusted old.state.memory call.world.memory.each

    pub cut-good : IsGood setup old Do.Turn (record { marks = turn.made; answer = Say.Cut (steps_in taken) })
    cut-good =
        let done = turn.done in
        let few = fewer taken 4 call.follows.few turn.counts.sum in
        good refl
        (cut_at_fuse old.state old.board new.board taken call.world.board call.follows done.gone.power.1
        (omega (arith, few)))
        refl tt tt cut_marks tt tt tt few

  -- ---- an exhibit

  module _ (turn : HasTurned setup (parts_in old engine none_taken) (parts_in new after taken) (Err Fail.Shown))
      (exhibit : Exhibit) (its : new.ledger.exhibit ≡ Some exhibit) where
    pub shown-made : turn.made ≡ []
    shown-made = (turn.marks on_now.trusted old.state.memory call.world.memory.each).0

    pub shown-good : KeepsPlaces setup [] (parts_in old engine none_taken) (parts_in new after taken)
        → IsGood setup old Do.Turn (without_marks (Say.Shown exhibit))
    shown-good places =
        let marks_of = turn.marks on_now.trusted old.state.memory call.world.memory.each in
        let done = subst (λ made. OneLossEffect setup shown made (parts_in old engine none_taken) (parts_in new after taken)) shown-made
        turn.done in
        let found = turn.answered on_now.trusted in
        let forged = found.forged in
        let within = lowest_within setup.shape (view_in setup old).open_pages found.at pages_whole found.lowest in
        let marks : new.ledger.marks ≡ old.ledger.marks = done.gone.marks ∙ append-nil old.ledger.marks in
        let none : new.board.regs.group.items ≡ [] = ap (λ group. group.items) (done.gone.group shown_uncut) ∙ on_now.trusted.no_group in
        let same = same_Some (Forged found.at forged.ctr forged.cipher forged.tag) exhibit (sym forged.exhibit ∙ its) in
        let its_ctr : option_map (λ seal. seal.ctr) (last_seal old.ledger.marks found.at) ≡ Some forged.ctr =
        ap (λ marks. option_map (λ seal. seal.ctr) (last_seal marks found.at)) (sym marks) ∙ forged.unsealed.counter in
        good refl (zero_within old.state.fuse) refl tt
        (subst (λ e. IsShown setup old.state (view_in setup old) Do.Turn [] e) same
        (record {
          holds = forged.right_tag;
          in_run =
              record {
                last_counter = sym (counter_at-last setup.shape old.ledger.marks found.at forged.ctr within its_ctr);
                refusable = (
                  None,
                  record {
                    legal =
                        record {
                          listed = refl;
                          within_fuse = zero_within old.state.fuse;
                          writes_whole = refl;
                          caused = (
                            hurt_before setup old new engine after taken [] found.at call.world.kept places within
                                (forged_unstored setup new after taken found.at none forged),
                            tt,
                          );
                        };
                    fits =
                        record {
                          marks_asked = (refl, found.lowest);
                          peek_true = tt;
                          steps_counted = tt;
                          flush_true = tt;
                          within_bounds = refl;
                        };
                  },
                  forged_other setup old.board.regs old.ledger old.state.memory found.at forged.ctr forged.cipher call.world.whole_formulas
                      on_now.trusted.anchored call.world.memory within its_ctr
                      (subst (λ marks. IfSome (last_seal marks found.at) (λ seal. forged.cipher ≢ seal.cipher)) marks forged.other_cipher),
                );
              };
        }))
        (refl, marks_of.1) tt tt tt tt
