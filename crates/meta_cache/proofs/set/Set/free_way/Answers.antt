-- The first way that is free.
use Rattle.std.proofs.Common.{sym, ◌∙◌, arith}
use Rattle.meta_cache.proofs.SetLemmas.{free_way_is}
use Rattle.meta_cache.proofs.set.Set.free_way.Goals as goal

pub returns-then-not-uses : goal.returns-then-not-uses
returns-then-not-uses c =
    free_way_is c.args.ways c.ways.way c.args.self.now (omega arith) c.ways.invariant (λ l. sym c.uses.ensures ∙ c.if-not-uses.true)

pub returns : goal.returns
returns c =
    free_way_is c.args.ways c.args.ways c.args.self.now (omega arith) (λ k h. c.ways.invariant k (omega arith))
    (λ l. absurd (omega arith))
