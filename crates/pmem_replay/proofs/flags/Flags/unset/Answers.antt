-- A flag is cleared: its stamp is of no epoch, and it is counted no more where it was set.
use Rattle.std.proofs.Common.{length, sym, ap, ◌∙◌, arith}
use Rattle.plain_model.specs.State.{without_flag}
use Rattle.pmem_replay.proofs.Boards.StampLemmas.{length-flags, stamped-unset, count-some, flags-set_false, flags-unset_already}
use Rattle.pmem_replay.proofs.flags.Flags.unset.Goals as goal

pub index-requires : goal.index-requires
index-requires c =
    omega (arith, c.requires, ap length c.self.view_is, length-flags c.self.inside.stamps.items c.self.inside.epoch)

pub index_mut-requires : goal.index_mut-requires
index_mut-requires c =
    omega (arith, c.requires, ap length c.self.view_is, length-flags c.self.inside.stamps.items c.self.inside.epoch)

pub overflow_sub-self : goal.overflow_sub-self
overflow_sub-self c =
    count-some c.self.inside.stamps.items c.self.inside.epoch c.self.inside.count c.args.i c.index.result.now c.self.invariant
    (omega (arith, c.requires, ap length c.self.view_is, length-flags c.self.inside.stamps.items c.self.inside.epoch))
    c.index.ensures c.if-index-self.true

pub invariant_of-self : goal.invariant_of-self
invariant_of-self c =
    stamped-unset c.self.inside.stamps.items c.self.inside.epoch c.self.inside.count c.args.i c.index.result.now c.self.invariant
    (omega (arith, c.requires, ap length c.self.view_is, length-flags c.self.inside.stamps.items c.self.inside.epoch))
    c.index.ensures c.if-index-self.true

pub returns-then-index-self : goal.returns-then-index-self
returns-then-index-self c =
    flags-set_false c.self.inside.stamps.items c.self.inside.epoch c.self.inside.count c.args.i c.self.invariant
    ∙ ap (λ flags. without_flag flags c.args.i) c.self.view_is

pub returns-else-index-self : goal.returns-else-index-self
returns-else-index-self c =
    sym c.self.view_is
    ∙ flags-unset_already c.self.inside.stamps.items c.self.inside.epoch c.args.i c.index.result.now
    (omega (arith, c.requires, ap length c.self.view_is, length-flags c.self.inside.stamps.items c.self.inside.epoch))
    c.index.ensures c.if-index-self.false
    ∙ ap (λ flags. without_flag flags c.args.i) c.self.view_is
