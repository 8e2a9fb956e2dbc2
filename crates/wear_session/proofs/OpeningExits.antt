-- Power comes on in the session: what is held after recovery and the opening, and what is answered.
use Rattle.std.proofs.lemmas.Grind.{common_steps}
use Rattle.std.proofs.Common.{ℕ, ◌≡◌, ◌<◌, ◌+◌, ◌⊎◌, inl, inr, true, false, cond, List, [], Some, None, Result, Ok, Err, refl, sym, ap, ◌∙◌, arith, rules}
use Rattle.wear_session.proofs.Common.{option_map, if◌then◌else◌, true≢false, none-some, same_Some, append-nil, Line, Twin, Device, ended, Follows, Setup, recovery_bound, EngineState, Parts, parts_of, chip_of, HasReadLine, Wear, Gapped, LevelledLines, levelled_lines, count_in, GapFault, recorded, HasReadRecord, logical_lines, open_plan, step_limit, device_during, none_taken, at_most, fewer, StartFault, WearAnswer, HasOpenedLevelled, IsLevelledOpening, open_call, LineSession, WearState, wear_left, IsWearShownBy, wear_decided, read_steps, AreDone, read_line, read_done, read_cut, IsLineWorld, IsLineOff, HasStarted, LedgerState, started_as, chip_in, on_chip, HasTurned, IsCutInRecovery, HasShownTwin, turned_on, turned_off, refused_from, few_of_start}
use Rattle.pmem_base.specs.Layout as layout
use Rattle.pmem_engine.specs.declared.fault.Fault.TheVariants as Fail
use Rattle.pmem_recovery.specs.declared.faults.RecFault.TheVariants as Rec
use Rattle.start_gap.specs.declared.gapped.GapFault.TheVariants as Gap
use Rattle.line_session.specs.declared.starts.StartFault.TheVariants as Start
use Rattle.wear_session.specs.declared.commands.WearCommand.TheVariants as Do
use Rattle.wear_session.specs.declared.answers.WearAnswer.TheVariants as Say
use Rattle.line_session.proofs.Recoveries.{recovered, sound_recovered}
use Rattle.wear_session.proofs.Worlds.{engine_of, WearCall, setup_of, before, after, Exit, count_is, levelled_still, same_memory, same_wear, on_after, off_after}
use Rattle.wear_session.proofs.AnswerClauses.{served}

module _ (c : WearCall) (world : IsLineWorld engine_of (setup_of c) c.old) (there : c.old.store ≡ None) where
  abbrev setup : Setup
  setup = setup_of c

  abbrev old : WearState
  old = before c

  abbrev new : WearState
  new = after c

  abbrev most : ℕ
  most = recovery_bound setup.shape + read_steps setup.shape

  pub off : IsLineOff setup c.old.state
  off = rw there at world.chip

  was_off : c.old.state.engine ≡ None
  was_off = world.its_engine ∙ ap (option_map (λ (k : LevelledLines). on_chip k.gapped.engine)) there

  pub undecided : wear_decided old Do.On ≡ None
  undecided = ap (λ b. if b then Some Say.Already else None) off.unpowered

  pub twin_shown : (at major low high : ℕ) (cipher : Line) (tag : List ℕ) (left : LineSession)
      → HasShownTwin setup c.old.state at major low high cipher tag left
      → IsWearShownBy setup old Do.On (Twin at major low high cipher tag) (wear_left setup c.every left 0)
  twin_shown at major low high cipher tag left it = (
    off.unpowered,
    it.within,
    it.exhibit,
    it.twin,
    refused_from setup (open_call setup) c.old.state (Rec.Twin at major low high cipher tag) left was_off it.refused,
    refl,
  )

  module _ (left : IsLineWorld engine_of setup c.new) (steps : ℕ) where
    -- power was turned on along this plan
    abbrev HasStartedAs : Result Wear (StartFault GapFault) → Type 0
    HasStartedAs end = HasStarted setup (open_call setup) steps end c.old.state c.new.state

    no_count : c.new.store ≡ None → new.count ≡ 0
    no_count gone = ap count_in gone

    module _ (shape : c.new.state.shape ≡ c.old.state.shape) (keys : c.new.state.keys ≡ c.old.state.keys)
        (marks : c.new.state.ledger.marks ≡ c.old.state.ledger.marks) where
      -- power was cut
      dark_exit : (fault : StartFault GapFault) → c.new.store ≡ None → c.new.state.board.powered ≡ false
          → c.new.state.board.regs.loss ≡ c.old.state.board.regs.loss → steps < most → HasStartedAs (Err fault) → Exit c Do.On (Say.Cut steps)
      dark_exit fault gone dark loss few started = (
        off_after c shape keys (levelled_still c marks) gone,
        served setup old new Do.On (Say.Cut steps) undecided (
          record {
            memory = same_memory c marks;
            wear = same_wear c marks;
            count = no_count gone;
            power = dark;
            loss = loss;
            marks = marks;
          },
          few,
        ) (
          record {
            steps = steps;
            end = Err fault;
            called = started;
            is_said = ap (λ (k : ℕ). (let last : WearAnswer × ℕ = (Say.Cut steps, k) in last)) (no_count gone);
          },
          refl,
        ),
      )

    -- ---- recovery is done

    module _ (opened : Result Gapped GapFault)
        (it : HasTurned setup (λ engine start now. IsLevelledOpening setup c.every engine start now) steps opened c.old.state c.new.state) where
      abbrev from : Device
      from = device_during (record c.old.state.board { powered = true }) none_taken

      abbrev to : Device
      to = device_during c.new.state.board it.taken

      abbrev parts_from : Parts
      parts_from = parts_of it.engine from c.old.state.ledger it.suite_between.tags it.suite_between.digests

      abbrev parts_between : Parts
      parts_between = parts_of it.engine it.between c.old.state.ledger it.suite_between.tags it.suite_between.digests

      abbrev parts_to : EngineState → Parts
      parts_to now = parts_of now to c.new.state.ledger c.new.state.tags c.new.state.digests

      recovered_to : AreDone setup parts_from [] [] (recovery_bound setup.shape) parts_between
      recovered_to =
          recovered setup c.old.state.ledger (record c.old.state.board { powered = true }) it.between _ it.suite_between it.engine it.work it.recovered
          off.durable refl world.few_armed

      record_inside : logical_lines setup.shape + 1 < layout.data_lines setup.shape
      record_inside = search rules

      -- the record is that of the wear
      record_read : (new : Parts) (line : Line) → HasReadLine setup (logical_lines setup.shape + 1) parts_between new (Ok line)
          → recorded (logical_lines setup.shape) line ≡ Some old.wear
      record_read new line read =
          ap (recorded (logical_lines setup.shape))
          (read_line setup parts_from parts_between [] [] (recovery_bound setup.shape) recovered_to (logical_lines setup.shape + 1) new line record_inside
          read)
          ∙ c.held.levelled.its_record

      started_as_is : (end : Result Wear GapFault) (now : EngineState) → c.new.state.engine ≡ cond c.new.state.board.powered (Some (on_chip now)) None
          → (c.new.state.board.powered ≡ false → steps < step_limit)
          → Follows (open_plan setup it.between.regs (chip_of it.engine c.old.state.ledger it.suite_between.tags it.suite_between.digests)) it.between to
          (ended end (chip_in c.new.state (on_chip now)))
          → HasStartedAs (started_as end)
      started_as_is end now kept within opens =
          turned_on setup (λ engine start now. IsLevelledOpening setup c.every engine start now) _ steps opened end _ _ _ was_off kept it within opens

      opened_exit : (gapped : Gapped) (line : Line) → c.new.store ≡ Some (levelled_lines gapped) → HasReadRecord setup c.every line parts_between (parts_to gapped.engine) gapped
          → Follows (open_plan setup it.between.regs (chip_of it.engine c.old.state.ledger it.suite_between.tags it.suite_between.digests)) it.between to
          (ended (let end : Result Wear GapFault = Ok gapped.wear in end) (chip_in c.new.state (on_chip gapped.engine)))
          → Exit c Do.On (Say.Opened gapped.wear.start gapped.wear.gap steps)
      opened_exit gapped line there read along =
          let was : HasReadLine setup (logical_lines setup.shape + 1) parts_between (parts_to gapped.engine) (Ok line) = search rules in
          let done =
          read_done setup parts_from parts_between [] [] (recovery_bound setup.shape) recovered_to (logical_lines setup.shape + 1) (parts_to gapped.engine)
          line was in
          let marks : c.new.state.ledger.marks ≡ c.old.state.ledger.marks = done.marks ∙ append-nil c.old.state.ledger.marks in
          let its_wear : gapped.wear ≡ old.wear =
          same_Some gapped.wear old.wear
          (sym read.its_wear ∙ ap (λ n. recorded n line) read.its_lines ∙ record_read (parts_to gapped.engine) line was) in
          let no_count : new.count ≡ 0 = count_is c (levelled_lines gapped) there ∙ read.no_writes in (
            on_after c it.shape it.keys (levelled_still c marks) (levelled_lines gapped) there read.its_every
                (its_wear ∙ sym (same_wear c marks)),
            served setup old new Do.On (Say.Opened gapped.wear.start gapped.wear.gap steps) undecided (
              ap (λ (w : Wear). w.start) its_wear,
              ap (λ (w : Wear). w.gap) its_wear,
              (
                record {
                  memory = same_memory c marks;
                  wear = same_wear c marks;
                  count = no_count;
                  power = done.live;
                  loss = done.loss;
                  marks = marks;
                },
                rw it.its_steps (at_most it.taken most it.watched.follows.few done.takes.sum),
              ),
            ) (
              record {
                steps = steps;
                end = Ok gapped.wear;
                called =
                    started_as_is (Ok gapped.wear) gapped.engine
                    (left.its_engine ∙ ap (option_map (λ (k : LevelledLines). on_chip k.gapped.engine)) there
                    ∙ sym (ap (λ b. cond b (Some (on_chip gapped.engine)) None) done.live))
                    (λ dark. absurd (true≢false (sym done.live ∙ dark))) along;
                is_said =
                    ap (λ (k : ℕ). (let last : WearAnswer × ℕ = (Say.Opened gapped.wear.start gapped.wear.gap steps, k) in last)) no_count;
              },
              refl,
            ),
          )

      read_cut_exit : (dropped now : EngineState) → c.new.store ≡ None
          → HasReadLine setup (logical_lines setup.shape + 1) parts_between (parts_to dropped) (Err Fail.Cut)
          → Follows (open_plan setup it.between.regs (chip_of it.engine c.old.state.ledger it.suite_between.tags it.suite_between.digests)) it.between to
          (ended (let end : Result Wear GapFault = Err (Gap.Engine Fail.Cut) in end) (chip_in c.new.state (on_chip now)))
          → Exit c Do.On (Say.Cut steps)
      read_cut_exit dropped now gone was along =
          let cut =
          read_cut setup parts_from parts_between [] [] (recovery_bound setup.shape) recovered_to (logical_lines setup.shape + 1) (parts_to dropped) was in
          let marks : c.new.state.ledger.marks ≡ c.old.state.ledger.marks = cut.marks ∙ append-nil c.old.state.ledger.marks in
          let below : steps < most = rw it.its_steps (fewer it.taken most it.watched.follows.few cut.takes.sum) in
          let bound = few_of_start setup.shape world.whole_shape in
          dark_exit it.shape it.keys marks (Start.Opening (Gap.Engine Fail.Cut)) gone cut.dark cut.loss below
          (started_as_is (Err (Gap.Engine Fail.Cut)) now (left.its_engine ∙ ap (option_map (λ (k : LevelledLines). on_chip k.gapped.engine)) gone
          ∙ sym (ap (λ b. cond b (Some (on_chip now)) None) cut.dark)) (λ dark. omega (arith, bound, below)) along)

      did : HasOpenedLevelled setup c.every parts_between parts_to opened
      did = it.opened.did (ap (λ (e : EngineState). e.down) it.recovered.engine)

    pub on_exit : (gapped : Gapped) → c.new.store ≡ Some (levelled_lines gapped)
        → HasTurned setup (λ engine start now. IsLevelledOpening setup c.every engine start now) steps (Ok gapped) c.old.state c.new.state
        → Exit c Do.On (Say.Opened gapped.wear.start gapped.wear.gap steps)
    on_exit gapped there it =
        let its = did (Ok gapped) it in opened_exit (Ok gapped) it gapped its.opened.0 there its.opened.1 its.plan

    -- the opening was cut
    unopened : (fault : GapFault) → c.new.store ≡ None
        → HasTurned setup (λ engine start now. IsLevelledOpening setup c.every engine start now) steps (Err fault) c.old.state c.new.state
        → Exit c Do.On (Say.Cut steps)
    unopened (Gap.Engine Fail.Cut) gone it =
        let its = did (Err (Gap.Engine Fail.Cut)) it in read_cut_exit (Err (Gap.Engine Fail.Cut)) it its.opened.0 its.plan.0 gone its.opened.1 its.plan.1
    unopened (Gap.Engine (Fail.Spent page)) gone it = absurd (did (Err (Gap.Engine (Fail.Spent page))) it).opened.1.possible
    unopened (Gap.BadWear line) gone it = grind (arith, common_steps, did, none-some, record_read)
    unopened (Gap.Engine fault) gone it = grind (arith, common_steps, did, sound_recovered)

    pub cut_exit : c.new.store ≡ None
        → IsCutInRecovery setup steps c.old.state c.new.state
        ⊎ ((fault : GapFault)
        × HasTurned setup (λ engine start now. IsLevelledOpening setup c.every engine start now) steps (Err fault) c.old.state c.new.state)
        → Exit c Do.On (Say.Cut steps)
    cut_exit gone (inl it) =
        let few = it.few in
        dark_exit it.shape it.keys (ap (λ (l : LedgerState). l.marks) it.ledger) (Start.Recovery Rec.Cut) gone it.dark it.loss (omega (arith, few))
        (turned_off setup (open_call setup) steps c.old.state c.new.state world.whole_shape was_off
        (left.its_engine ∙ ap (option_map (λ (k : LevelledLines). on_chip k.gapped.engine)) gone) it)
    cut_exit gone (inr it) = unopened it.0 gone it.1
