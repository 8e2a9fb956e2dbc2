-- A line goes to its place, or to the end.
use Rattle.std.proofs.Common.{true, false, None, sym, ap, ◌∙◌, rules}
use Rattle.txn_session.proofs.Common.{not, is_some}
use Rattle.txn_session.proofs.Puts.{seen_as, found_at, found_none, with_new, full_is, refilled}
use Rattle.txn_session.proofs.committing.put_line.Goals as goal

pub returns-in-Some-clause-put : goal.returns-in-Some-clause-put
returns-in-Some-clause-put c = search (rules, refilled, found_at, seen_as)

pub returns-in-Some-clause-full : goal.returns-in-Some-clause-full
returns-in-Some-clause-full c =
    sym (ap not (full_is c.args.txn.now.items c.args.at true
    (found_at c.args.txn.now.items c.args.at c.in-Some.i c.args.line.now
    (seen_as c.deref.result.now c.args.txn.now.items c.args.at c.place_in.result _ c.deref.ensures.0 c.place_in.ensures.place c.in-Some.is)).1))

pub returns-then-room-clause-put : goal.returns-then-room-clause-put
returns-then-room-clause-put c = λ is.
    c.push.ensures.items
    ∙ sym (with_new c.args.txn.now.items c.args.at c.args.line.now
    (found_none c.args.txn.now.items c.args.at (seen_as c.deref.result.now c.args.txn.now.items c.args.at c.place_in.result None c.deref.ensures.0 c.place_in.ensures.place c.in-None.is)))

pub returns-else-room-clause-full : goal.returns-else-room-clause-full
returns-else-room-clause-full c =
    ap not (c.is_full-room.ensures.value
    ∙ sym (full_is _ c.args.at false
    (ap is_some (found_none _ c.args.at (seen_as _ _ c.args.at _ None c.deref.ensures.0 c.place_in.ensures.place c.in-None.is)))))
