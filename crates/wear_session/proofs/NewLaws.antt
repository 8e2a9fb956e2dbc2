-- A new session: formatting, and the opening of zero lines.
use Rattle.std.proofs.Common.{ℕ, ◌≡◌, ◌<◌, ◌≤◌, ◌+◌, List, replicate, Some, Result, Ok, Err, refl, sym, ap, subst, ◌∙◌, arith, rules}
use Rattle.wear_session.proofs.Common.{none-some, true≢false, get_or-replicate, Line, LineSession, line_at, zero_line, IsShape, device_of, Setup, plain_memory, EngineState, IsSound, Parts, parts_of, HasReadLine, Follows, ended, chip_of, chip_in, open_plan, open_call, Wear, Gapped, LevelledLines, levelled_lines, GapFault, first_wear, recorded, IsLevelled, HasGappedOpened, HasReadRecord, IsLevelledOpening, logical_lines, zero_levelled, least_lines, IsNewWear, wear_in, wear_left, IsWearWorld, StoreSession, HoldsLevelled, Formulas, setup_in, wear_of, on_chip}
use Rattle.pmem_base.specs.Layout as layout
use Rattle.pmem_recovery.specs.Formatting.{HasFormatted}
use Rattle.line_session.specs.State.{IsNewSession}
use Rattle.line_session.specs.New.{HoldsZeros, HasOpenedNew, IsNewFault, IsNewByPlan, blank_device, tags_formatted, digests_formatted}
use Rattle.line_session.specs.declared.session.NewFault.{NewFault}
use Rattle.line_session.specs.declared.session.NewFault.TheVariants as New
use Rattle.pmem_engine.specs.declared.fault.Fault.TheVariants as Fail
use Rattle.start_gap.specs.declared.gapped.GapFault.TheVariants as Gap
use Rattle.line_session.proofs.NewDevices.{few_data}
use Rattle.line_session.proofs.NewSessions.{zero_places, marks_stay, new_session}
use Rattle.wear_session.proofs.Levels.{wear_is, memory_held, levelled_is}
use Rattle.std.specs.Prelude.{IfErr}

-- what formatting and the opening leave
pub record NewWearCall : Type 0 where
  pub setup : Setup
  pub every : ℕ
  pub some_every : 1 ≤ every
  pub tags : ℕ
  pub digests : ℕ
  pub answer : Result Gapped GapFault
  pub left : LineSession
  pub it : HasOpenedNew setup (λ engine old now. IsLevelledOpening setup every engine old now) tags digests answer left

-- zero lines are levelled
module _ (setup : Setup) (shape : IsShape setup.shape) where
  abbrev n : ℕ
  n = logical_lines setup.shape

  size : n + 2 ≡ layout.data_lines setup.shape
  size = let least = least_lines setup.shape in omega (arith, least)

  levelled_zeros : (lines : List Line) → lines ≡ replicate (layout.data_lines setup.shape) zero_line
      → IsLevelled n lines (first_wear n) (replicate n zero_line)
  levelled_zeros lines zeros =
      subst (λ l. IsLevelled n l (first_wear n) (replicate n zero_line)) (ap (λ k. replicate k zero_line) size ∙ sym zeros)
      (zero_levelled n (let least = least_lines setup.shape in omega (arith, least)) (let few = few_data setup.shape shape in omega (arith, few)))

pub holds_zeros : (setup : Setup) → HoldsZeros HoldsLevelled setup
holds_zeros setup shape marks zeros =
    levelled_is setup (plain_memory setup marks) (replicate (logical_lines setup.shape) zero_line) (first_wear (logical_lines setup.shape))
    (levelled_zeros setup shape (plain_memory setup marks) zeros)

module _ (c : NewWearCall) where
  abbrev lines : ℕ
  lines = logical_lines c.setup.shape

  abbrev from : Parts
  from =
      parts_of c.it.engine (device_of c.it.middle) c.it.ledger (tags_formatted c.setup.shape c.tags) (digests_formatted c.setup.shape c.digests)

  abbrev to : EngineState → Parts
  to now = parts_of now (device_of c.left.board) c.left.ledger c.left.tags c.left.digests

  sound : IsSound c.setup (on_chip c.it.engine) c.it.middle.lines c.it.middle.regs c.it.ledger
  sound = c.it.formatted.sound c.it.middle.lines refl

  places : plain_memory c.setup c.it.ledger.marks ≡ replicate (layout.data_lines c.setup.shape) zero_line
  places = zero_places c.setup (blank_device c.setup.shape) c.it.middle c.it.ledger c.it.engine c.it.formatted

  begun : IsLevelled lines (plain_memory c.setup c.it.ledger.marks) (first_wear lines) (replicate lines zero_line)
  begun = levelled_zeros c.setup c.it.whole (plain_memory c.setup c.it.ledger.marks) places

  record_inside : lines + 1 < layout.data_lines c.setup.shape
  record_inside = let its = size c.setup c.it.whole in omega (arith, its)

  -- the record that is read is the first wear's
  first_read : (new : Parts) (line : Line) → HasReadLine c.setup (lines + 1) from new (Ok line) → recorded lines line ≡ Some (first_wear lines)
  first_read new line it =
      let plain = (it.answered sound.trusted).0 in
      let zero = c.it.formatted.plain (lines + 1) record_inside in
      let same : line ≡ zero_line = let both : Some line ≡ Some zero_line = sym plain ∙ zero in search (rules, both) in
      let here : line_at (plain_memory c.setup c.it.ledger.marks) (lines + 1) ≡ zero_line =
      ap (λ l. line_at l (lines + 1)) places ∙ get_or-replicate (layout.data_lines c.setup.shape) (lines + 1) zero_line zero_line record_inside in
      ap (recorded lines) (same ∙ sym here) ∙ begun.its_record

  -- ---- the answers

  module _ (gapped : Gapped) (line : Line) (read : HasReadRecord c.setup c.every line from (to gapped.engine) gapped) where
    was : HasReadLine c.setup (lines + 1) from (to gapped.engine) (Ok line)
    was = rw read.its_lines at read.was_read

    marks : c.left.ledger.marks ≡ c.it.ledger.marks
    marks = search (rules, marks_stay)

    new : c.left.shape ≡ c.setup.shape → IsNewSession c.setup c.left
    new shape =
        new_session c.setup (blank_device c.setup.shape) c.it.middle c.it.ledger c.it.engine c.it.formatted c.left gapped.engine
        (tags_formatted c.setup.shape c.tags) (digests_formatted c.setup.shape c.digests) (lines + 1) line was refl refl refl shape

    its_wear : gapped.wear ≡ first_wear lines
    its_wear =
        let both : Some gapped.wear ≡ Some _ = sym read.its_wear ∙ ap (λ k. recorded k line) read.its_lines ∙ first_read _ line was in
        search (rules, both)

    levelled : IsLevelled lines (plain_memory c.setup c.left.ledger.marks) (first_wear lines) (replicate lines zero_line)
    levelled = rw marks begun

    wear_first : wear_in c.setup (plain_memory c.setup c.left.ledger.marks) ≡ first_wear lines
    wear_first = wear_is c.setup (plain_memory c.setup c.left.ledger.marks) (replicate lines zero_line) (first_wear lines) levelled

    new_world : (session : StoreSession LevelledLines) → session.state ≡ c.left → session.store ≡ Some (levelled_lines gapped) → IsWearWorld c.setup c.every session
    new_world session is there =
        record {
          some_every = c.some_every;
          levelled = rw is (levelled_is c.setup (plain_memory c.setup c.left.ledger.marks) (replicate lines zero_line) (first_wear lines) levelled);
          its_store = rw (is, there) (record { its_every = read.its_every; its_wear = its_wear ∙ sym wear_first });
        }

    new_state : c.left.shape ≡ c.setup.shape → IsNewWear c.setup c.every (wear_left c.setup c.every c.left gapped.count)
    new_state shape =
        record {
          session = new shape;
          its_every = refl;
          some_every = c.some_every;
          memory = memory_held c.setup (plain_memory c.setup c.left.ledger.marks) (replicate lines zero_line) (first_wear lines) levelled;
          wear = wear_first;
          count = read.no_writes;
        }

  -- the lines are opened
  abbrev pub IsGapped : Result Gapped GapFault → Type 0
  IsGapped (Ok gapped) =
      ((session : StoreSession LevelledLines) → session.state ≡ c.left → session.store ≡ Some (levelled_lines gapped) → IsWearWorld c.setup c.every session)
      × (c.left.shape ≡ c.setup.shape → IsNewWear c.setup c.every (wear_left c.setup c.every c.left gapped.count))
  IsGapped (Err fault) = ⊥

  pub new_outcome : IsGapped c.answer
  new_outcome = go c.answer (c.it.opened.did (ap (λ (e : EngineState). e.down) c.it.formatted.engine_new)).opened
    where
      go : (answer : Result Gapped GapFault) → HasGappedOpened c.setup c.every from to answer → IsGapped answer
      go (Ok gapped) it = (new_world gapped it.0 it.1, new_state gapped it.0 it.1)
      go (Err (Gap.Engine Fail.Cut)) it = absurd (true≢false (sym c.it.formatted.steady ∙ it.1.done.gone.power.0))
      go (Err (Gap.Engine (Fail.Spent page))) it = absurd it.1.possible
      go (Err (Gap.BadWear line)) it = absurd (none-some (first_wear lines) (sym it.2 ∙ first_read (to it.0) line it.1))
      go (Err (Gap.Engine fault)) it = absurd (it.1.unrefused sound)

-- the session that is new
pub new_session_held : (formulas_of : List ℕ → Formulas) (setup : Setup) (every tags digests : ℕ) (session : StoreSession LevelledLines) (gapped : Gapped)
    → 1 ≤ every → session.store ≡ Some (levelled_lines gapped) → setup_in formulas_of session.state ≡ setup → session.state.shape ≡ setup.shape
    → HasOpenedNew setup (λ engine old now. IsLevelledOpening setup every engine old now) tags digests (Ok gapped) session.state
    → IsWearWorld (setup_in formulas_of session.state) every session × IsNewWear setup every (wear_of (setup_in formulas_of session.state) every session)
new_session_held formulas_of setup every tags digests session gapped some there same shape it =
    let its =
    new_outcome
    (record { setup = setup; every = every; some_every = some; tags = tags; digests = digests; answer = Ok gapped; left = session.state; it = it }) in
    subst (λ s. IsWearWorld s every session × IsNewWear setup every (wear_of s every session)) (sym same) (
      its.0 session refl there,
      rw there (its.1 shape),
    )

-- no new session's lines stay unopened
pub opens_always : {T : Type 0} (setup : Setup) (every tags digests : ℕ) → 1 ≤ every → (answer : Result T (NewFault GapFault))
    → IfErr answer (IsNewFault (λ setup engine old now. IsLevelledOpening setup every engine old now) setup tags digests) → (fault : GapFault)
    → answer ≡ Err (New.Opening fault) → ⊥
opens_always setup every tags digests some answer it fault is =
    let its = subst (λ r. IfErr r (IsNewFault (λ setup engine old now. IsLevelledOpening setup every engine old now) setup tags digests)) is it in
    new_outcome (record { setup = setup; every = every; some_every = some; tags = tags; digests = digests; answer = Err fault; left = its.0; it = its.1 })

-- the record was read along the opening's plan
pub new_opened : (setup : Setup) (every tags digests : ℕ) (left : LineSession) (gapped : Gapped) → left.engine ≡ Some (on_chip gapped.engine)
    → HasOpenedNew setup (λ engine old now. IsLevelledOpening setup every engine old now) tags digests (Ok gapped) left
    → IsNewByPlan setup (open_call setup) tags digests left
new_opened setup every tags digests left gapped engine it =
    let up = ap (λ (e : EngineState). e.down) it.formatted.engine_new in
    record {
      middle = it.middle;
      ledger = it.ledger;
      formatted =
          subst (λ (e : EngineState). HasFormatted setup it.ledger (blank_device setup.shape) (device_of it.middle) e) it.formatted.engine_new
          it.formatted;
      after = on_chip gapped.engine;
      end = Ok gapped.wear;
      follows =
          subst (λ (e : EngineState).
          Follows
          (open_plan setup it.middle.regs (chip_of e it.ledger (tags_formatted setup.shape tags) (digests_formatted setup.shape digests)))
          (device_of it.middle) (device_of left.board)
          (ended (let end : Result Wear GapFault = Ok gapped.wear in end) (chip_in left (on_chip gapped.engine)))) it.formatted.engine_new
          (it.opened.did up).plan;
      engine = engine;
      unsnapped = it.unsnapped;
    }
