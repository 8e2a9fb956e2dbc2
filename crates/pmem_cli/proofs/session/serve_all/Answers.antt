use Rattle.std.proofs.Common.{◌≡◌, ◌+◌, ◌++◌, ◌∷◌, ◌∙◌, [], length, refl, sym, arith, length-append, inl}
use Rattle.std.proofs.KnownBytes.{prepend_known-nil}
use Rattle.pmem_cli.specs.Wholes.{left_in, left_before_in}
use Rattle.pmem_cli.proofs.ReplyLemmas.{told_turn}
use Rattle.pmem_cli.proofs.TurnLemmas.{HasServed-nil, HasServed-trans, HasStopped-after}
use Rattle.pmem_cli.proofs.WholeLemmas.{given_none, given_on, may_before, some_whole}
use Rattle.pmem_cli.proofs.session.serve_all.Goals as goal

pub lines-init : goal.lines-init
lines-init g c = record {
  gave = given_none (g.S.Source.known c.args.trace.now);
  so_far = λ whole may. (
    [],
    [],
    refl,
    rw (c.new-reader.ensures, prepend_known-nil (left_in g.S.Source.known whole c.args.trace.now)) (HasServed-nil g.W.Serve.protocol _ _ _ c.requires.running),
  );
  within = omega arith;
  running = c.requires.running;
  reads = refl;
  writes = refl;
  may_pull = λ held. held;
  replies_first = λ whole may. inl refl;
}

pub lines-preserved : goal.lines-preserved
lines-preserved g c =
    let before = c.lines.invariant in
    let some = some_whole (g.S.Source.known c.serve_next.new.trace) in
    let (a_line, some_more, a_turn) = c.in_default.ensures.turn some.0 some.1 in record {
      gave = given_on _ _ _ before.gave c.serve_next.ensures.gave;
      so_far = λ whole may.
          let (lines, replies, counted, so_far) = before.so_far whole (may_before _ _ c.serve_next.ensures.gave whole may) in
          let (line, more, turn) = c.in_default.ensures.turn whole may in (
            lines ++ line ∷ [],
            replies ++ more,
            rw length-append (omega (arith, counted)),
            HasServed-trans g.W.Serve.protocol _ _ _ _ _ _ _ _ _ _ _ _ _ so_far turn,
          );
      within = (let more = c.serve_next.ensures.within_limit c.in_default.is in omega (arith, more));
      running = a_turn.running;
      reads = c.serve_next.ensures.cause.reads.kept (λ same. cc (c.in_default.is, same)) ∙ before.reads;
      writes = c.serve_next.ensures.cause.writes.kept (λ same. cc (c.in_default.is, same)) ∙ before.writes;
      may_pull = λ held. c.serve_next.ensures.pulls.may_pull c.in_default.is (before.may_pull held);
      replies_first = λ whole may.
          let was = may_before _ _ c.serve_next.ensures.gave whole may in
          let (lines, replies, counted, so_far) = before.so_far whole was in
          let (line, more, turn) = c.in_default.ensures.turn whole may in
          let pulled = c.serve_next.ensures.last_pull whole may in
          told_turn g.W.Serve.protocol _ _ _ (left_before_in g.S.Source.known whole) _ _ _ _ _ _ _ _ _ so_far (before.replies_first whole was)
          (rw (sym counted) at pulled) (turn.printed.done, turn.printed.appended);
    }

pub returns-in-Some-clause-gave : goal.returns-in-Some-clause-gave
returns-in-Some-clause-gave g c = given_on _ _ _ c.lines.invariant.gave c.serve_next.ensures.gave

pub returns-in-Some-clause-stopped : goal.returns-in-Some-clause-stopped
returns-in-Some-clause-stopped g c = λ whole may.
    let (lines, replies, counted, so_far) = c.lines.invariant.so_far whole (may_before _ _ c.serve_next.ensures.gave whole may) in
    let turn = c.in-Some.ensures.turn whole may in
    let served : c.lines.served ≡ 0 + length lines = omega (arith, counted) in
    HasStopped-after g.W.Serve.protocol _ _ _ _ _ _ _ _ _ _ _ _ so_far (rw served at turn)

pub returns-in-Some-clause-replies_first : goal.returns-in-Some-clause-replies_first
returns-in-Some-clause-replies_first g c = λ whole may.
    let was = may_before _ _ c.serve_next.ensures.gave whole may in
    let (lines, replies, counted, so_far) = c.lines.invariant.so_far whole was in
    let front = (c.in-Some.ensures.turn whole may).front in
    let pulled = c.in-Some.ensures.last_pull whole may in
    told_turn g.W.Serve.protocol _ _ _ (left_before_in g.S.Source.known whole) _ _ _ _ _ _ _ _ _ so_far (c.lines.invariant.replies_first whole was)
    (rw (sym counted) at pulled) (front.done, front.appended)

-- ---- faults

pub returns-in-Some-clause-cause : goal.returns-in-Some-clause-cause
returns-in-Some-clause-cause g c = rw (c.lines.invariant.reads, c.lines.invariant.writes) at c.in-Some.ensures.cause

pub lines-smaller : goal.lines-smaller
lines-smaller g c = let more = c.serve_next.ensures.within_limit c.in_default.is in omega (arith, more)
