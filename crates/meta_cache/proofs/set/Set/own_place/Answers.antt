-- The position is there once.
use Rattle.std.proofs.Common.{[], false, sym, subst}
use Rattle.std.specs.Prelude.{◌==◌}
use Rattle.meta_cache.specs.Alone.{IsAlone}
use Rattle.meta_cache.specs.Banks.{Slot}
use Rattle.meta_cache.proofs.SetLemmas.{alone_at}
use Rattle.meta_cache.proofs.set.Set.own_place.Goals as goal

pub returns-clause-alone : goal.returns-clause-alone
returns-clause-alone c =
    λ d.
    subst (λ i. IsAlone (λ (slot : Slot). slot.position == c.args.x) c.args.self.now i d) (sym c.place_of.ensures.value)
    (alone_at c.args.self.now c.args.x d c.requires.holds c.requires.apart)

pub returns-clause-within : goal.returns-clause-within
returns-clause-within c =
    (returns-clause-alone c (record { way = 0; position = 0; line = record { 0 = [] }; dirty = false })).within
