-- The opening of lines that are levelled leaves them sound, or power is cut.
use Rattle.std.proofs.Common.{ℕ, ◌≡◌, ◌<◌, ◌+◌, [], Result, Ok, Err, sym, ap, ◌∙◌, arith, false}
use Rattle.wear_session.proofs.Common.{none-some, Setup, EngineState, Parts, Gapped, GapFault, IsLevelledOpening, HasOpenedLevelled, logical_lines, least_lines, wear_in, recorded, plain_memory, none_done, read_done, read_cut, read_line, HoldsLevelled}
use Rattle.std.specs.Prelude.{IfOk}
use Rattle.pmem_base.specs.Layout as layout
use Rattle.pmem_engine.specs.declared.fault.Fault.TheVariants as Fail
use Rattle.start_gap.specs.declared.gapped.GapFault.TheVariants as Gap
use Rattle.line_session.specs.Kept.{IsOpenedOn, OpensLines}

abbrev opened_engine : Gapped → EngineState
opened_engine gapped = gapped.engine

pub opening_keeps : (setup : Setup) (every : ℕ) (engine : EngineState) (old : Parts) (now : EngineState → Parts) (answer : Result Gapped GapFault)
    → IsLevelledOpening setup every engine old now answer → OpensLines opened_engine HoldsLevelled setup engine old now answer
opening_keeps setup every engine old now answer it shape up live sound holds = go answer (it.did up) it.up
  where
    inside : logical_lines setup.shape + 1 < layout.data_lines setup.shape
    inside = let least = least_lines setup.shape in omega (arith, least)

    go : (answer : Result Gapped GapFault) → HasOpenedLevelled setup every old now answer → IfOk answer (λ (gapped : Gapped). gapped.engine.down ≡ false)
        → IsOpenedOn opened_engine setup now answer
    go (Ok gapped) its up =
        let done =
        read_done setup old old [] [] 0 (none_done setup old sound live) (gapped.lines + 1) (now gapped.engine) its.opened.0 its.opened.1.was_read in
        record { sound = done.sound; live = done.live; running = up }
    go (Err (Gap.Engine Fail.Cut)) its up =
        let cut = read_cut setup old old [] [] 0 (none_done setup old sound live) (logical_lines setup.shape + 1) (now its.opened.0) its.opened.1 in
        (its.opened.0, record { durable = cut.durable; dark = cut.dark; small_group = cut.small_group })
    go (Err (Gap.Engine (Fail.Spent page))) its up = absurd its.opened.1.possible
    go (Err (Gap.BadWear line)) its up =
        absurd (none-some (wear_in setup (plain_memory setup old.ledger.marks)) (sym its.opened.2
        ∙ ap (recorded (logical_lines setup.shape))
        (read_line setup old old [] [] 0 (none_done setup old sound live) (logical_lines setup.shape + 1) (now its.opened.0) line inside its.opened.1)
        ∙ holds.its_record))
    go (Err (Gap.Engine fault)) its up = absurd (its.opened.1.unrefused sound)
