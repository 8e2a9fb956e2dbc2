-- A flag is set: its stamp is the epoch's, and it is counted where it wasn't before.
use Rattle.std.proofs.Common.{length, sym, ap, ◌∙◌, arith}
use Rattle.plain_model.specs.State.{with_flag}
use Rattle.pmem_replay.proofs.Boards.StampLemmas.{length-flags, stamped-set, count-fits, flags-set_true, flags-already}
use Rattle.pmem_replay.proofs.flags.Flags.set.Goals as goal

pub index-requires : goal.index-requires
index-requires c =
    omega (arith, c.requires, ap length c.self.view_is, length-flags c.self.inside.stamps.items c.self.inside.epoch)

pub index_mut-requires : goal.index_mut-requires
index_mut-requires c =
    omega (arith, c.requires, ap length c.self.view_is, length-flags c.self.inside.stamps.items c.self.inside.epoch)

pub overflow_add-self : goal.overflow_add-self
overflow_add-self c =
    let fits =
    count-fits c.self.inside.stamps.items c.self.inside.epoch c.self.inside.count c.args.i c.index.result.now c.self.invariant
    (omega (arith, c.requires, ap length c.self.view_is, length-flags c.self.inside.stamps.items c.self.inside.epoch))
    c.index.ensures c.if-index-self.true in
    omega (arith, fits)

pub invariant_of-self : goal.invariant_of-self
invariant_of-self c =
    stamped-set c.self.inside.stamps.items c.self.inside.epoch c.self.inside.count c.args.i c.index.result.now c.self.invariant
    (omega (arith, c.requires, ap length c.self.view_is, length-flags c.self.inside.stamps.items c.self.inside.epoch))
    c.index.ensures c.if-index-self.true

pub returns-then-index-self : goal.returns-then-index-self
returns-then-index-self c =
    flags-set_true c.self.inside.stamps.items c.self.inside.epoch c.args.i
    ∙ ap (λ flags. with_flag flags c.args.i) c.self.view_is

pub returns-else-index-self : goal.returns-else-index-self
returns-else-index-self c =
    sym c.self.view_is
    ∙ flags-already c.self.inside.stamps.items c.self.inside.epoch c.args.i c.index.result.now
    (omega (arith, c.requires, ap length c.self.view_is, length-flags c.self.inside.stamps.items c.self.inside.epoch))
    c.index.ensures c.if-index-self.false
    ∙ ap (λ flags. with_flag flags c.args.i) c.self.view_is
