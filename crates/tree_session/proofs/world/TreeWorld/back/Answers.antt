-- A device line is put back.
use Rattle.std.proofs.Common.{arith}
use Rattle.tree_session.proofs.Common.{memory_of}
use Rattle.tree_session.proofs.DecidedAnswers.{quiet_in, as_now, a_snapshot, back_past, back_none, back_held, back_seen}
use Rattle.tree_session.proofs.world.TreeWorld.back.Goals as goal

pub returns-then-at-from : goal.returns-then-at-from
returns-then-at-from g c =
    let q = quiet_in g.S.Suite c.self.inside _ c.self.view_is c.self.invariant c.requires in as_now q _ _ (back_past q _ (omega (arith, c.if-at-from.true, c.from.ensures, c.tree_size.ensures)))

pub returns-then-is_err : goal.returns-then-is_err
returns-then-is_err g c =
    back_none (quiet_in g.S.Suite c.self.inside _ c.self.view_is c.self.invariant c.requires) _ c.args.at (omega (arith, c.if-at-from.false, c.from.ensures, c.tree_size.ensures)) (c.back.ensures.none.0 (cc)) c.back.ensures.lines

pub invariant_of-self-2 : goal.invariant_of-self-2
invariant_of-self-2 g c =
    let found = a_snapshot (memory_of c.self.inside.board).snapshot (λ none. cc (c.back.ensures.none.1 none)) in
    back_held (quiet_in g.S.Suite c.self.inside _ c.self.view_is c.self.invariant c.requires) _ c.args.at _ found.1
    (omega (arith, c.if-at-from.false, c.from.ensures, c.tree_size.ensures)) c.back.ensures.lines c.back.new.self.each_line _ _ c.mark.ensures.tampered c.mark.ensures.hurt

pub returns : goal.returns
returns g c =
    let found = a_snapshot (memory_of c.self.inside.board).snapshot (λ none. cc (c.back.ensures.none.1 none)) in
    back_seen (quiet_in g.S.Suite c.self.inside _ c.self.view_is c.self.invariant c.requires) _ c.args.at _ found.1
    (omega (arith, c.if-at-from.false, c.from.ensures, c.tree_size.ensures)) c.back.ensures.lines c.back.new.self.each_line _ _ c.mark.ensures.tampered c.mark.ensures.hurt
