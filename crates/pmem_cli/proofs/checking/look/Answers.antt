use Rattle.std.proofs.Common.{◌≡◌, ◌∙◌, [], refl, ap, arith, inl}
use Rattle.std.specs.Prelude.{Some, false}
use Rattle.std.specs.Io.KnownBytes.{prepend_known}
use Rattle.std.proofs.KnownBytes.{Consumes-nil, Consumes-kept, prepend_known-nil}
use Rattle.std.proofs.lemmas.List.Elements.{All-nil}
use Rattle.plain_model.specs.declared.Stop.TheVariants.{Finished, ReadFault, TooManyLines}
use Rattle.plain_model.specs.Lines.{is_line_end}
use Rattle.pmem_cli.proofs.FaultLemmas.{CountsFault-none, CountsFault-err, CountsFault-map}
use Rattle.pmem_cli.proofs.CheckLemmas.{HasCheckedLines-after, HasCheckedLines-fault, HasCheckedLines-end, HasCheckedLines-limit, HasCheckedLines-kept, HasLookedFirst-after, looked_on}
use Rattle.pmem_cli.specs.Wholes.{left_in, left_before_in}
use Rattle.pmem_cli.proofs.PullLemmas.{pulled_at_hand}
use Rattle.pmem_cli.proofs.WholeLemmas.{given_none, given_on, may_before}
use Rattle.pmem_cli.proofs.checking.look.Goals as goal

pub lines-init : goal.lines-init
lines-init g c =
    record {
      gave = given_none (g.S.Source.known c.args.trace.now);
      looks = λ whole may stop left after looked. rw (c.new-reader.ensures, prepend_known-nil (left_in g.S.Source.known whole c.args.trace.now)) at looked;
      looks_first = λ whole may told looked. rw (c.new-reader.ensures, prepend_known-nil (left_in g.S.Source.known whole c.args.trace.now)) at looked;
      looked_first = λ whole may. inl refl;
      kept = refl;
      may_pull = λ held. held;
    }

pub returns-in-Some-clause-gave : goal.returns-in-Some-clause-gave
returns-in-Some-clause-gave g c = given_on _ _ _ c.lines.invariant.gave c.check_next.ensures.gave

pub returns-in-Err-clause-gave : goal.returns-in-Err-clause-gave
returns-in-Err-clause-gave g c = given_on _ _ _ c.lines.invariant.gave c.is_ended.ensures.gave

pub returns-in-Ok-true-clause-gave : goal.returns-in-Ok-true-clause-gave
returns-in-Ok-true-clause-gave g c = given_on _ _ _ c.lines.invariant.gave c.is_ended.ensures.gave

pub returns-in-Ok-false-clause-gave : goal.returns-in-Ok-false-clause-gave
returns-in-Ok-false-clause-gave g c = given_on _ _ _ c.lines.invariant.gave c.is_ended.ensures.gave

pub returns-in-Some-clause-looked : goal.returns-in-Some-clause-looked
returns-in-Some-clause-looked g c = λ whole may.
    c.lines.invariant.looks whole (may_before _ _ c.check_next.ensures.gave whole may) c.in-Some.stop (left_in g.S.Source.known whole c.check_next.new.trace)
    c.check_next.new.found (c.in-Some.ensures.turn whole may)

pub returns-in-Some-clause-reads : goal.returns-in-Some-clause-reads
returns-in-Some-clause-reads g c = CountsFault-map _ _ _ _ _ (λ same. cc) (ap Some) c.lines.invariant.kept c.in-Some.ensures.reads

pub returns-in-Err-clause-reads : goal.returns-in-Err-clause-reads
returns-in-Err-clause-reads g c = CountsFault-err _ _ _ _ refl (rw c.lines.invariant.kept at c.in-Err.ensures.cause)

pub returns-in-Ok-true-clause-reads : goal.returns-in-Ok-true-clause-reads
returns-in-Ok-true-clause-reads g c = CountsFault-none _ _ _ (λ same. cc) (c.in-Ok-true.ensures.cause.kept ∙ c.lines.invariant.kept)

pub returns-in-Ok-false-clause-reads : goal.returns-in-Ok-false-clause-reads
returns-in-Ok-false-clause-reads g c = CountsFault-none _ _ _ (λ same. cc) (c.in-Ok-false.ensures.cause.kept ∙ c.lines.invariant.kept)

pub lines-preserved : goal.lines-preserved
lines-preserved g c =
    let before = c.lines.invariant in record {
      gave = given_on _ _ _ before.gave c.check_next.ensures.gave;
      looks = λ whole may stop left after looked.
          let (line, taken, within, checked) = c.in_default.ensures.turn whole may in
          before.looks whole (may_before _ _ c.check_next.ensures.gave whole may) stop left after
          (HasCheckedLines-after stop c.lines.found c.check_next.new.found c.lines.served (prepend_known c.lines.reader (left_in g.S.Source.known whole c.lines.trace))
          (prepend_known c.check_next.new.reader (left_in g.S.Source.known whole c.check_next.new.trace)) left line after taken within checked looked);
      looks_first = λ whole may told looked.
          let (line, taken, within, checked) = c.in_default.ensures.turn whole may in
          before.looks_first whole (may_before _ _ c.check_next.ensures.gave whole may) told
          (HasLookedFirst-after c.lines.found c.check_next.new.found c.lines.served (prepend_known c.lines.reader (left_in g.S.Source.known whole c.lines.trace))
          (prepend_known c.check_next.new.reader (left_in g.S.Source.known whole c.check_next.new.trace)) told line taken within checked looked);
      looked_first = λ whole may.
          let was = may_before _ _ c.check_next.ensures.gave whole may in
          looked_on _ _ _ (left_before_in g.S.Source.known whole) _ _ _ _ _ (before.looks_first whole was) (before.looked_first whole was)
          (c.check_next.ensures.last_pull whole may);
      kept = c.check_next.ensures.reads.kept (λ same. cc (c.in_default.is, same)) ∙ before.kept;
      may_pull = λ held. c.check_next.ensures.pulls.may_pull c.in_default.is (before.may_pull held);
    }

pub returns-in-Err-clause-looked : goal.returns-in-Err-clause-looked
returns-in-Err-clause-looked g c = λ whole may.
    let was = may_before _ _ c.is_ended.ensures.gave whole may in
    let ahead = prepend_known c.lines.reader (left_in g.S.Source.known whole c.lines.trace) in
    let left = left_in g.S.Source.known whole c.is_ended.new.source in
    c.lines.invariant.looks whole was ReadFault left c.lines.found
    (HasCheckedLines-fault ahead left c.lines.found [] c.lines.served (Consumes-kept ahead ahead left [] (Consumes-nil ahead) (c.in-Err.ensures.fault whole may))
    (All-nil (λ b. is_line_end b ≡ false)) (omega arith) (omega arith) (λ full. refl))

pub returns-in-Ok-true-clause-looked : goal.returns-in-Ok-true-clause-looked
returns-in-Ok-true-clause-looked g c = λ whole may.
    let was = may_before _ _ c.is_ended.ensures.gave whole may in
    let ahead = prepend_known c.lines.reader (left_in g.S.Source.known whole c.lines.trace) in
    let left = left_in g.S.Source.known whole c.is_ended.new.source in
    let now = prepend_known c.is_ended.new.self left in
    c.lines.invariant.looks whole was Finished left c.lines.found
    (HasCheckedLines-kept Finished ahead now left c.lines.found c.lines.found c.lines.served (c.is_ended.ensures.ahead whole may)
    (HasCheckedLines-end now now left c.lines.found c.lines.served (Consumes-nil now) (c.in-Ok-true.ensures.end c.in-Ok-true.field-0-test whole may) (omega arith)))

pub returns-in-Ok-false-clause-looked : goal.returns-in-Ok-false-clause-looked
returns-in-Ok-false-clause-looked g c = λ whole may.
    let was = may_before _ _ c.is_ended.ensures.gave whole may in
    let ahead = prepend_known c.lines.reader (left_in g.S.Source.known whole c.lines.trace) in
    let left = left_in g.S.Source.known whole c.is_ended.new.source in
    let now = prepend_known c.is_ended.new.self left in
    c.lines.invariant.looks whole was TooManyLines left c.lines.found
    (HasCheckedLines-kept TooManyLines ahead now left c.lines.found c.lines.found c.lines.served (c.is_ended.ensures.ahead whole may)
    (HasCheckedLines-limit left left c.is_ended.new.self c.lines.found c.lines.served (c.in-Ok-false.ensures.more c.in-Ok-false.field-0-test) (omega arith)))

-- ---- before a pull

pub returns-in-Some-clause-looked_first : goal.returns-in-Some-clause-looked_first
returns-in-Some-clause-looked_first g c = λ whole may.
    let was = may_before _ _ c.check_next.ensures.gave whole may in
    looked_on _ _ _ (left_before_in g.S.Source.known whole) _ _ _ _ _ (c.lines.invariant.looks_first whole was) (c.lines.invariant.looked_first whole was) (c.in-Some.ensures.last_pull whole may)

pub returns-in-Err-clause-looked_first : goal.returns-in-Err-clause-looked_first
returns-in-Err-clause-looked_first g c = λ whole may.
    let was = may_before _ _ c.is_ended.ensures.gave whole may in
    looked_on _ _ _ (left_before_in g.S.Source.known whole) _ _ _ _ _ (c.lines.invariant.looks_first whole was) (c.lines.invariant.looked_first whole was)
    (pulled_at_hand _ _ (left_in g.S.Source.known whole) (left_before_in g.S.Source.known whole) c.lines.served _ (omega arith) (c.in-Err.ensures.last_pull whole may))

pub returns-in-Ok-true-clause-looked_first : goal.returns-in-Ok-true-clause-looked_first
returns-in-Ok-true-clause-looked_first g c = λ whole may.
    let was = may_before _ _ c.is_ended.ensures.gave whole may in
    looked_on _ _ _ (left_before_in g.S.Source.known whole) _ _ _ _ _ (c.lines.invariant.looks_first whole was) (c.lines.invariant.looked_first whole was)
    (pulled_at_hand _ _ (left_in g.S.Source.known whole) (left_before_in g.S.Source.known whole) c.lines.served _ (omega arith) (c.in-Ok-true.ensures.last_pull whole may))

pub returns-in-Ok-false-clause-looked_first : goal.returns-in-Ok-false-clause-looked_first
returns-in-Ok-false-clause-looked_first g c = λ whole may.
    let was = may_before _ _ c.is_ended.ensures.gave whole may in
    looked_on _ _ _ (left_before_in g.S.Source.known whole) _ _ _ _ _ (c.lines.invariant.looks_first whole was) (c.lines.invariant.looked_first whole was)
    (pulled_at_hand _ _ (left_in g.S.Source.known whole) (left_before_in g.S.Source.known whole) c.lines.served _ (omega arith) (c.in-Ok-false.ensures.last_pull whole may))
