-- The write is of a sound device, and the recovery of a durable one.
use Rattle.std.proofs.Common.{refl, sym, ap}
use Rattle.suite.specs.Weak.{weak_formulas}
use Rattle.pmem_engine.specs.Engine.{EngineState}
use Rattle.pmem_engine.specs.Outcomes.{outcome_of}
use Rattle.tests_hostile.proofs.Ends.{sound_by, sound_named, durable_named, durable_left, unrefused}
use Rattle.tests_hostile.proofs.tests.durable.write_and_recover.Goals as goal

pub is_written-written-requires : goal.is_written-written-requires
is_written-written-requires c =
    let made = c.in_ok-engine.ensures in
    let roomy = sound_by _ _ _ _ _ _ c.reserve.ensures.ledger (made.formatted.sound _ refl) in
    let sound = sound_named _ _ _ _ _ _ _ _ (sym roomy.trusted.its_shape) (ap weak_formulas (sym made.keys)) (sym c.new-board.ensures.inner) roomy in
    (c.write-write.ensures.written.did (ap (λ (e : EngineState). e.down) made.formatted.engine_new)).unrefused sound

pub is_recovered-requires : goal.is_recovered-requires
is_recovered-requires c =
    let made = c.in_ok-engine.ensures in
    let roomy = sound_by _ _ _ _ _ _ c.reserve.ensures.ledger (made.formatted.sound _ refl) in
    let sound = sound_named _ _ _ _ _ _ _ _ (sym roomy.trusted.its_shape) (ap weak_formulas (sym made.keys)) (sym c.new-board.ensures.inner) roomy in
    let written = c.write-write.ensures.written.did (ap (λ (e : EngineState). e.down) made.formatted.engine_new) in
    let left = written.done.gone.sound sound in
    let durable = durable_left _ (outcome_of c.write-write.result) _ _ _ _ _ _ refl left in
    let renamed = durable_named _ _ _ _ _ _ _ roomy.trusted.its_shape (ap weak_formulas (sym c.write-write.ensures.keys)) (sym c.into_inner-inner.ensures) durable in
    unrefused _ c.into_inner-inner.result.regs c.recover-recovery.new.board.regs _ _ c.recover-recovery.result ((c.recover-recovery.ensures.lines _ refl _ refl).from_durable renamed)
