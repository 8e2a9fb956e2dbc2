-- The engine is down, or the calls of a write are made, and what they make of the lines.
use Rattle.std.proofs.Common.{◌∙◌, refl, sym}
use Rattle.start_gap.proofs.Common.{guarded_up, guarded_down}
use Rattle.start_gap.proofs.LevelledWrites.{left_levelled}
use Rattle.start_gap.proofs.LevelledEnds.{trusted_after, sound_after}
use Rattle.start_gap.proofs.gapped.Gapped.write.Goals as goal

pub write_and_move-requires-clause-up : goal.write_and_move-requires-clause-up
write_and_move-requires-clause-up g c = sym c.is_down.ensures ∙ c.if-is_down.false

pub returns-then-is_down-clause-written : goal.returns-then-is_down-clause-written
returns-then-is_down-clause-written g c =
    guarded_down _ _ _ _ _ (sym c.is_down.ensures ∙ c.if-is_down.true) (refl, record { its_lines = refl; its_every = refl; its_wear = refl; its_count = refl })

pub returns-clause-written : goal.returns-clause-written
returns-clause-written g c =
    guarded_up _ _ _ _ _ _ _ (sym c.is_down.ensures ∙ c.if-is_down.false) c.write_and_move.ensures.down
    (record {
      was_written = c.write_and_move.ensures.written;
      plan = c.write_and_move.ensures.plan;
      levelled =
          λ trusted lines had.
          left_levelled _ _ _ _ _ lines c.args.self.now.its_lines c.args.self.now.few_lines c.args.self.now.its_wear c.requires.line
          c.is_whole.ensures _ _ _ had trusted c.write_and_move.ensures.written;
      trusted = trusted_after _ _ _ _ _ _ _ _ c.write_and_move.ensures.written;
      sound = sound_after _ _ _ _ _ _ _ _ c.write_and_move.ensures.written;
    })
