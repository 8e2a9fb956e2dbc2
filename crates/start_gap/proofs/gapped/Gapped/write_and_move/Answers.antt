-- The line was written, and then a move is due or not.
use Rattle.std.proofs.Common.{refl, arith, rules}
use Rattle.start_gap.proofs.Common.{down_after, up_after, few_marks, edits_follow_under}
use Rattle.start_gap.proofs.LevelledPlans.{follows_refused, follows_counted, follows_tried}
use Rattle.start_gap.proofs.LevelledCalls.{write_at, move_as, move_outcome, wear_over, refused, counted, tried_as}
use Rattle.start_gap.proofs.gapped.Gapped.write_and_move.Goals as goal

pub move_gap-tried-requires-clause-room : goal.move_gap-tried-requires-clause-room
move_gap-tried-requires-clause-room g c =
    let few = few_marks _ _ _ _ _ (c.in_default.ensures.written.did c.requires.up) in omega (arith, few, c.write.ensures.capacity, c.requires.room)

pub move_gap-tried-requires-clause-up : goal.move_gap-tried-requires-clause-up
move_gap-tried-requires-clause-up g c = up_after c.in_default.ensures.written c.requires.up refl

pub returns-in-Err-clause-written : goal.returns-in-Err-clause-written
returns-in-Err-clause-written g c =
    refused _ _ _ _ _ _ _ _ (write_at _ _ _ _ _ _ _ c.place-at.ensures.place (c.in-Err.ensures.written.did c.requires.up))
    (record { its_lines = refl; its_every = refl; its_wear = refl; its_count = refl })

pub returns-then-self-clause-written : goal.returns-then-self-clause-written
returns-then-self-clause-written g c =
    counted _ _ _ _ _ _ _ _ c.in_default.not-Err (omega arith) (write_at _ _ _ _ _ _ _ c.place-at.ensures.place (c.write.ensures.written.did c.requires.up))
    (record { its_lines = refl; its_every = refl; its_wear = refl; its_count = refl })

pub returns-clause-written : goal.returns-clause-written
returns-clause-written g c =
    tried_as _ _ _ _ _ _ _ _ _ c.move_gap-tried.result _ c.in_default.not-Err (omega arith)
    (write_at _ _ _ _ _ _ _ c.place-at.ensures.place (c.write.ensures.written.did c.requires.up))
    (move_as g.S.Suite.formulas_of _ _ _ _ c.write.ensures.shape c.write.ensures.keys _ _ _ _ _ c.move_gap-tried.ensures.moved)
    (wear_over _ _ c.args.self.now _ _ c.move_gap-tried.ensures.wear refl refl) c.answer_of_move.ensures

pub returns-in-Err-clause-plan : goal.returns-in-Err-clause-plan
returns-in-Err-clause-plan g c =
    follows_refused _ _ _ _ _ _ _ _ _ c.place-at.ensures.place (c.in-Err.ensures.written.did c.requires.up).plan
    (record { its_lines = refl; its_every = refl; its_wear = refl; its_count = refl })

pub returns-then-self-clause-plan : goal.returns-then-self-clause-plan
returns-then-self-clause-plan g c =
    follows_counted _ _ _ _ _ _ _ _ _ c.place-at.ensures.place c.in_default.not-Err (omega arith) (c.write.ensures.written.did c.requires.up).plan
    (record { its_lines = refl; its_every = refl; its_wear = refl; its_count = refl })

pub returns-clause-plan : goal.returns-clause-plan
returns-clause-plan g c =
    follows_tried _ _ _ _ _ _ _ _ c.write.result _ c.move_gap-tried.result _ c.place-at.ensures.place c.in_default.not-Err (omega arith)
    (c.write.ensures.written.did c.requires.up).plan
    (edits_follow_under g.S.Suite.formulas_of _ _ _ _ c.write.ensures.shape c.write.ensures.keys _ _ c.move_gap-tried.ensures.plan)
    c.answer_of_move.ensures (wear_over _ _ c.args.self.now _ _ c.move_gap-tried.ensures.wear refl refl)

pub returns-in-Err-clause-down : goal.returns-in-Err-clause-down
returns-in-Err-clause-down g c = down_after c.in-Err.ensures.written c.requires.up

pub returns-then-self-clause-down : goal.returns-then-self-clause-down
returns-then-self-clause-down g c = down_after c.in_default.ensures.written c.requires.up

pub returns-clause-down : goal.returns-clause-down
returns-clause-down g c = search (rules, move_outcome)
