-- A line is put, or isn't if the transaction is full.
use Rattle.std.proofs.Common.{◌≡◌, Some, sym, ap, subst, arith}
use Rattle.txn_session.proofs.Common.{option_map, Setup, setup_in, txn_store}
use Rattle.txn_session.proofs.Puts.{put_txn}
use Rattle.txn_session.proofs.Worlds.{IsOpenTxn, open_as, lines_are, put_world}
use Rattle.txn_session.proofs.world.TxnWorld.put.Goals as goal

pub invariant_of-self-2 : goal.invariant_of-self-2
invariant_of-self-2 g c =
    let setup : Setup = setup_in g.S.Suite.formulas_of c.self.inside.session.state in
    let there : c.self.inside.session.store ≡ Some (txn_store c.in-Some.store.now.inner) = sym c.in-Some.ensures.store in
    let txn = option_map (λ txn. txn.items) c.self.inside.txn in
    let open_so = open_as setup c.self.inside.session c.in-Some.store.now.inner there txn c.self.invariant in
    let n = lines_are setup c.self.inside.session c.in-Some.store.now.inner there c.in-Some.ensures.world in
    put_world setup c.self.inside.session c.in-Some.store.now.inner there txn (Some c.put_line.new.txn.items) c.self.invariant
    (put_txn setup c.in-Some.store.now.inner.stuck c.in-Some-txn.txn.items c.put_line.new.txn.items c.args.at c.args.line.now c.put_line.result
    (omega (arith, c.if-at-from.false, c.from.ensures, c.lines.ensures.value, n)) c.put_line.ensures.put c.put_line.ensures.full c.put_line.ensures.left
    (subst (IsOpenTxn setup c.in-Some.store.now.inner.stuck) (ap (option_map (λ txn. txn.items)) c.in-Some-txn.is) open_so.1))
