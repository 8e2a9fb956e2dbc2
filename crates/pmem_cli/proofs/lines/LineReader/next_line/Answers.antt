use Rattle.std.proofs.Common.{◌≡◌, ◌<◌, ◌∙◌, ◌++◌, ◌∷◌, [], append-nil, append_assoc, arith, length, length-append, sym, ap, subst, false}
use Rattle.std.specs.Io.KnownBytes.{Consumes, prepend_known}
use Rattle.std.proofs.KnownBytes.{Consumes-trans, Consumes-kept}
use Rattle.std.proofs.lemmas.List.Elements.{All-append}
use Rattle.std.proofs.lemmas.Grind.{common_steps}
use Rattle.std.proofs.lemmas.Result.{err_from_is_err_and}
use Rattle.plain_model.specs.Lines.{is_line_end, ended}
use Rattle.pmem_cli.proofs.PieceLemmas.{Consumes-front, no_end_within}
use Rattle.pmem_cli.specs.Wholes.{left_in, left_before_in}
use Rattle.pmem_cli.proofs.PullLemmas.{pulled_within_line}
use Rattle.pmem_cli.proofs.WholeLemmas.{given_on, may_before, none_of}
use Rattle.pmem_cli.proofs.lines.LineReader.next_line.Goals as goal

pub returns-in-TooLong-clause-found : goal.returns-in-TooLong-clause-found
returns-in-TooLong-clause-found g c = λ whole may.
    let was = may_before _ _ c.is_ended.ensures.gave whole may in
    let (part, split, within, long) = c.in-TooLong.ensures in
    let before = c.pieces.invariant in
    let left = left_in g.S.Source.known whole c.is_ended.new.source in
    let first = prepend_known c.args.self.now (left_in g.S.Source.known whole c.args.source.now) in
    let ahead = prepend_known c.pieces.self (left_in g.S.Source.known whole c.pieces.source) in
    let at_hand = prepend_known c.is_ended.new.self left in
    let behind = prepend_known c.take_piece.new.self left in (
      c.pieces.line.items ++ part,
      Consumes-trans first at_hand behind c.pieces.line.items part (Consumes-kept first ahead at_hand c.pieces.line.items (before.taken whole was) (c.in_ok-is_ended.ensures.ahead whole may))
          (Consumes-front left c.is_ended.new.self part c.take_piece.new.self split),
      All-append (λ b. is_line_end b ≡ false) c.pieces.line.items part before.within within,
      rw length-append long,
    )

pub pieces-preserved : goal.pieces-preserved
pieces-preserved g c =
    let before = c.pieces.invariant in
    let (rest, longer, within, short) = c.in-Part.ensures in
    let is_ended = c.in_ok-is_ended.ensures in
    let unread = c.is_ended.new.self in
    let line = c.pieces.line.items in record {
      gave = given_on _ _ _ before.gave c.is_ended.ensures.gave;
      taken = λ whole may.
          let was = may_before _ _ c.is_ended.ensures.gave whole may in
          let left = left_in g.S.Source.known whole c.is_ended.new.source in
          let first = prepend_known c.args.self.now (left_in g.S.Source.known whole c.args.source.now) in
          let ahead = prepend_known c.pieces.self (left_in g.S.Source.known whole c.pieces.source) in
          let at_hand = prepend_known unread left in
          rw (longer, rest)
          (Consumes-trans first at_hand (prepend_known [] left) line unread
          (Consumes-kept first ahead at_hand line (before.taken whole was) (is_ended.ahead whole may))
          (Consumes-front left unread unread [] (sym (append-nil unread))));
      within = rw longer (All-append (λ b. is_line_end b ≡ false) line unread before.within within);
      short = short;
      kept = is_ended.cause.kept ∙ before.kept;
      may_pull = λ held. is_ended.may_pull c.if-branch.false (before.may_pull held);
      at_hand = λ end.
          let same = before.at_hand end in
          let kept = is_ended.at_hand (rw same (omega (arith, end.1))) in
          absurd (no_end_within unread within (rw (kept, same) end));
      unpulled = λ end. is_ended.unpulled (rw (before.at_hand end) (omega (arith, end.1))) ∙ before.unpulled end;
      last_pull = λ whole may.
          let was = may_before _ _ c.is_ended.ensures.gave whole may in
          pulled_within_line c.args.source.now c.pieces.source c.is_ended.new.source (left_in g.S.Source.known whole) (left_before_in g.S.Source.known whole)
          (prepend_known c.args.self.now (left_in g.S.Source.known whole c.args.source.now)) c.pieces.self c.pieces.line.items
          (before.taken whole was) before.within before.short (before.last_pull whole was) (is_ended.last_pull whole may);
    }

pub returns-in-Ended-clause-found : goal.returns-in-Ended-clause-found
returns-in-Ended-clause-found g c = λ whole may.
    let was = may_before _ _ c.is_ended.ensures.gave whole may in
    let (part, split, longer, within) = c.in-Ended.ensures in
    let before = c.pieces.invariant in
    let left = left_in g.S.Source.known whole c.is_ended.new.source in
    let first = prepend_known c.args.self.now (left_in g.S.Source.known whole c.args.source.now) in
    let ahead = prepend_known c.pieces.self (left_in g.S.Source.known whole c.pieces.source) in
    let at_hand = prepend_known c.is_ended.new.self left in
    let behind = prepend_known c.take_piece.new.self left in
    let line = c.pieces.line.items in
    let cut : c.is_ended.new.self ≡ (part ++ 10 ∷ []) ++ c.take_piece.new.self = split ∙ sym (append_assoc part (10 ∷ []) c.take_piece.new.self) in
    let taken = Consumes-trans first at_hand behind line (part ++ 10 ∷ []) (Consumes-kept first ahead at_hand line (before.taken whole was) (c.in_ok-is_ended.ensures.ahead whole may))
    (Consumes-front left c.is_ended.new.self (part ++ 10 ∷ []) c.take_piece.new.self cut) in
    let whole : line ++ (part ++ 10 ∷ []) ≡ ended c.take_piece.new.line.items = sym (append_assoc line part (10 ∷ [])) ∙ ap (λ l. l ++ 10 ∷ []) (sym longer) in (
      subst (λ l. Consumes first behind l) whole taken,
      rw longer (All-append (λ b. is_line_end b ≡ false) line part before.within within),
    )

-- ---- what was given

pub returns-in_err-is_ended-clause-gave : goal.returns-in_err-is_ended-clause-gave
returns-in_err-is_ended-clause-gave g c = given_on _ _ _ c.pieces.invariant.gave c.is_ended.ensures.gave

pub returns-then-is_empty-clause-gave : goal.returns-then-is_empty-clause-gave
returns-then-is_empty-clause-gave g c = given_on _ _ _ c.pieces.invariant.gave c.is_ended.ensures.gave

pub returns-else-is_empty-clause-gave : goal.returns-else-is_empty-clause-gave
returns-else-is_empty-clause-gave g c = given_on _ _ _ c.pieces.invariant.gave c.is_ended.ensures.gave

pub returns-in-Ended-clause-gave : goal.returns-in-Ended-clause-gave
returns-in-Ended-clause-gave g c = given_on _ _ _ c.pieces.invariant.gave c.is_ended.ensures.gave

pub returns-in-TooLong-clause-gave : goal.returns-in-TooLong-clause-gave
returns-in-TooLong-clause-gave g c = given_on _ _ _ c.pieces.invariant.gave c.is_ended.ensures.gave

-- ---- pulls

pub returns-in_err-is_ended-clause-unpulled : goal.returns-in_err-is_ended-clause-unpulled
returns-in_err-is_ended-clause-unpulled g c = λ end. c.in_err-is_ended.ensures.unpulled (rw (c.pieces.invariant.at_hand end) (omega (arith, end.1))) ∙ c.pieces.invariant.unpulled end

pub returns-in_err-is_ended-clause-in_time : goal.returns-in_err-is_ended-clause-in_time
returns-in_err-is_ended-clause-in_time g c = λ held. c.in_err-is_ended.ensures.in_time (c.pieces.invariant.may_pull held)

pub returns-in_err-is_ended-clause-last_pull : goal.returns-in_err-is_ended-clause-last_pull
returns-in_err-is_ended-clause-last_pull g c = λ whole may.
    let before = c.pieces.invariant in
    let was = may_before _ _ c.is_ended.ensures.gave whole may in
    pulled_within_line c.args.source.now c.pieces.source c.is_ended.new.source (left_in g.S.Source.known whole) (left_before_in g.S.Source.known whole)
    (prepend_known c.args.self.now (left_in g.S.Source.known whole c.args.source.now)) c.pieces.self c.pieces.line.items (before.taken whole was) before.within before.short (before.last_pull whole was) (c.in_err-is_ended.ensures.last_pull whole may)

pub returns-then-is_empty-clause-unpulled : goal.returns-then-is_empty-clause-unpulled
returns-then-is_empty-clause-unpulled g c = λ end. c.in_ok-is_ended.ensures.unpulled (rw (c.pieces.invariant.at_hand end) (omega (arith, end.1))) ∙ c.pieces.invariant.unpulled end

pub returns-then-is_empty-clause-in_time : goal.returns-then-is_empty-clause-in_time
returns-then-is_empty-clause-in_time g c = λ held. c.in_ok-is_ended.ensures.in_time (c.pieces.invariant.may_pull held)

pub returns-then-is_empty-clause-last_pull : goal.returns-then-is_empty-clause-last_pull
returns-then-is_empty-clause-last_pull g c = λ whole may.
    let before = c.pieces.invariant in
    let was = may_before _ _ c.is_ended.ensures.gave whole may in
    pulled_within_line c.args.source.now c.pieces.source c.is_ended.new.source (left_in g.S.Source.known whole) (left_before_in g.S.Source.known whole)
    (prepend_known c.args.self.now (left_in g.S.Source.known whole c.args.source.now)) c.pieces.self c.pieces.line.items (before.taken whole was) before.within before.short (before.last_pull whole was) (c.in_ok-is_ended.ensures.last_pull whole may)

pub returns-else-is_empty-clause-unpulled : goal.returns-else-is_empty-clause-unpulled
returns-else-is_empty-clause-unpulled g c = λ end. c.in_ok-is_ended.ensures.unpulled (rw (c.pieces.invariant.at_hand end) (omega (arith, end.1))) ∙ c.pieces.invariant.unpulled end

pub returns-else-is_empty-clause-in_time : goal.returns-else-is_empty-clause-in_time
returns-else-is_empty-clause-in_time g c = λ held. c.in_ok-is_ended.ensures.in_time (c.pieces.invariant.may_pull held)

pub returns-else-is_empty-clause-last_pull : goal.returns-else-is_empty-clause-last_pull
returns-else-is_empty-clause-last_pull g c = λ whole may.
    let before = c.pieces.invariant in
    let was = may_before _ _ c.is_ended.ensures.gave whole may in
    pulled_within_line c.args.source.now c.pieces.source c.is_ended.new.source (left_in g.S.Source.known whole) (left_before_in g.S.Source.known whole)
    (prepend_known c.args.self.now (left_in g.S.Source.known whole c.args.source.now)) c.pieces.self c.pieces.line.items (before.taken whole was) before.within before.short (before.last_pull whole was) (c.in_ok-is_ended.ensures.last_pull whole may)

pub returns-in-Ended-clause-unpulled : goal.returns-in-Ended-clause-unpulled
returns-in-Ended-clause-unpulled g c = λ end. c.in_ok-is_ended.ensures.unpulled (rw (c.pieces.invariant.at_hand end) (omega (arith, end.1))) ∙ c.pieces.invariant.unpulled end

pub returns-in-Ended-clause-in_time : goal.returns-in-Ended-clause-in_time
returns-in-Ended-clause-in_time g c = λ held. c.in_ok-is_ended.ensures.in_time (c.pieces.invariant.may_pull held)

pub returns-in-Ended-clause-last_pull : goal.returns-in-Ended-clause-last_pull
returns-in-Ended-clause-last_pull g c = λ whole may.
    let before = c.pieces.invariant in
    let was = may_before _ _ c.is_ended.ensures.gave whole may in
    pulled_within_line c.args.source.now c.pieces.source c.is_ended.new.source (left_in g.S.Source.known whole) (left_before_in g.S.Source.known whole)
    (prepend_known c.args.self.now (left_in g.S.Source.known whole c.args.source.now)) c.pieces.self c.pieces.line.items (before.taken whole was) before.within before.short (before.last_pull whole was) (c.in_ok-is_ended.ensures.last_pull whole may)

pub returns-in-TooLong-clause-unpulled : goal.returns-in-TooLong-clause-unpulled
returns-in-TooLong-clause-unpulled g c = λ end. c.in_ok-is_ended.ensures.unpulled (rw (c.pieces.invariant.at_hand end) (omega (arith, end.1))) ∙ c.pieces.invariant.unpulled end

pub returns-in-TooLong-clause-in_time : goal.returns-in-TooLong-clause-in_time
returns-in-TooLong-clause-in_time g c = λ held. c.in_ok-is_ended.ensures.in_time (c.pieces.invariant.may_pull held)

pub returns-in-TooLong-clause-last_pull : goal.returns-in-TooLong-clause-last_pull
returns-in-TooLong-clause-last_pull g c = λ whole may.
    let before = c.pieces.invariant in
    let was = may_before _ _ c.is_ended.ensures.gave whole may in
    pulled_within_line c.args.source.now c.pieces.source c.is_ended.new.source (left_in g.S.Source.known whole) (left_before_in g.S.Source.known whole)
    (prepend_known c.args.self.now (left_in g.S.Source.known whole c.args.source.now)) c.pieces.self c.pieces.line.items (before.taken whole was) before.within before.short (before.last_pull whole was) (c.in_ok-is_ended.ensures.last_pull whole may)

-- ---- causes

pub returns-then-is_empty-clause-cause : goal.returns-then-is_empty-clause-cause
returns-then-is_empty-clause-cause g c =
    let kept = c.in_ok-is_ended.ensures.cause.kept ∙ c.pieces.invariant.kept in record {
      kept = kept;
      failed = tt;
      later = omega (arith, kept);
      once = omega (arith, kept);
    }

pub returns-else-is_empty-clause-cause : goal.returns-else-is_empty-clause-cause
returns-else-is_empty-clause-cause g c =
    let kept = c.in_ok-is_ended.ensures.cause.kept ∙ c.pieces.invariant.kept in record {
      kept = kept;
      failed = tt;
      later = omega (arith, kept);
      once = omega (arith, kept);
    }

pub returns-in-Ended-clause-cause : goal.returns-in-Ended-clause-cause
returns-in-Ended-clause-cause g c =
    let kept = c.in_ok-is_ended.ensures.cause.kept ∙ c.pieces.invariant.kept in record {
      kept = kept;
      failed = tt;
      later = omega (arith, kept);
      once = omega (arith, kept);
    }

pub returns-in-TooLong-clause-cause : goal.returns-in-TooLong-clause-cause
returns-in-TooLong-clause-cause g c =
    let kept = c.in_ok-is_ended.ensures.cause.kept ∙ c.pieces.invariant.kept in record {
      kept = kept;
      failed = tt;
      later = omega (arith, kept);
      once = omega (arith, kept);
    }

-- ---- a line that the end ends

pub returns-else-is_empty-clause-found : goal.returns-else-is_empty-clause-found
returns-else-is_empty-clause-found g c = λ whole may.
    let was = may_before _ _ c.is_ended.ensures.gave whole may in
    let first = prepend_known c.args.self.now (left_in g.S.Source.known whole c.args.source.now) in
    let ahead = prepend_known c.pieces.self (left_in g.S.Source.known whole c.pieces.source) in
    let at_hand = prepend_known c.is_ended.new.self (left_in g.S.Source.known whole c.is_ended.new.source) in
    let line = c.pieces.line.items in
    let some : 0 < length line = grind (arith, common_steps) in (
      Consumes-kept first ahead at_hand line (c.pieces.invariant.taken whole was) (c.in_ok-is_ended.ensures.ahead whole may),
      c.pieces.invariant.within,
      some,
      c.in_ok-is_ended.ensures.end c.if-branch.true whole may,
    )

-- ---- an end, and a fault

pub returns-then-is_empty-clause-found : goal.returns-then-is_empty-clause-found
returns-then-is_empty-clause-found g c =
    let zero : length c.pieces.line.items ≡ 0 = grind (arith, common_steps) in
    let none : c.pieces.line.items ≡ [] = none_of c.pieces.line.items zero in
    λ whole may.
    let was = may_before _ _ c.is_ended.ensures.gave whole may in
    let first = prepend_known c.args.self.now (left_in g.S.Source.known whole c.args.source.now) in
    let ahead = prepend_known c.pieces.self (left_in g.S.Source.known whole c.pieces.source) in
    let at_hand = prepend_known c.is_ended.new.self (left_in g.S.Source.known whole c.is_ended.new.source) in
    let taken = Consumes-kept first ahead at_hand c.pieces.line.items (c.pieces.invariant.taken whole was) (c.in_ok-is_ended.ensures.ahead whole may) in
    (subst (λ l. Consumes first at_hand l) none taken, c.in_ok-is_ended.ensures.end c.if-branch.true whole may)

pub returns-in_err-is_ended-clause-fault : goal.returns-in_err-is_ended-clause-fault
returns-in_err-is_ended-clause-fault g c =
    let before = c.pieces.invariant in
    rw (err_from_is_err_and c.from_residual.result c.from_residual.ensures.1).1
    (λ whole may.
    let was = may_before _ _ c.is_ended.ensures.gave whole may in
    (Consumes-kept _ _ _ _ (before.taken whole was) (c.in_err-is_ended.ensures.fault whole may), before.within, before.short))
