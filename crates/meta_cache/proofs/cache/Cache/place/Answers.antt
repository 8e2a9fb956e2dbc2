-- The set of the position is changed in its bank.
use Rattle.std.proofs.Common.{◌≡◌, List, set, sym, subst, rules}
use Rattle.pmem_base.specs.Geo.{shape_of}
use Rattle.meta_cache.specs.Banks.{Slot, set_of, set_index}
use Rattle.meta_cache.specs.Sets.{placed, IsSetOf}
use Rattle.meta_cache.specs.State.{CacheState, slots_of, ChangesSet}
use Rattle.meta_cache.proofs.FormLemmas.{IsSetOf-placed}
use Rattle.meta_cache.proofs.WayLemmas.{KeepsWays-placed}
use Rattle.meta_cache.proofs.StepLemmas.{IsStep, keeps_form, changes_set, is_absent}
use Rattle.meta_cache.proofs.cache.Cache.place.Goals as goal

pub invariant_of-self : goal.invariant_of-self
invariant_of-self c =
    let change : List Slot → List Slot = λ slots. placed c.ways-ways.result slots c.args.x c.args.line.now in
    let g = shape_of c.self.inside.geo in
    let banks = c.self.inside.banks.items in
    let n = c.set_of-n.result in
    let step : IsStep change g banks c.args.self.now c.args.bank c.args.x n c.from.result
    c.index_mut-bank.result.now c.place.new.self =
    record {
      view = c.self.view_is;
      form = c.self.invariant;
      low = c.requires.bank;
      index = c.set_of-n.ensures.value;
      within = c.set_of-n.ensures.within;
      place = c.from.ensures;
      read = c.index_mut-bank.ensures.value;
      written = c.place.ensures;
    } in
    let its : set_index g c.args.x ≡ n = search rules in
    keeps_form change g banks c.args.self.now c.args.bank c.args.x n c.from.result
    c.index_mut-bank.result.now c.place.new.self step
    (subst (λ ways. IsSetOf g n (placed ways (set_of banks c.args.bank n) c.args.x c.args.line.now))
    (sym c.ways-ways.ensures)
    (IsSetOf-placed g n (set_of banks c.args.bank n) c.args.x c.args.line.now c.self.inside.geo.has_ways.0
    c.is_whole.ensures its
    (is_absent change g banks c.args.self.now c.args.bank c.args.x n c.from.result
    c.index_mut-bank.result.now c.place.new.self step c.requires.absent)
    (c.self.invariant.each_set c.args.bank n)))

pub returns : goal.returns
returns c =
    let change : List Slot → List Slot = λ slots. placed c.ways-ways.result slots c.args.x c.args.line.now in
    let g = shape_of c.self.inside.geo in
    let banks = c.self.inside.banks.items in
    let ways : c.ways-ways.result ≡ c.args.self.now.shape.ways = search rules in
    let new : CacheState = record { shape = g; banks = set banks c.from.result c.place.new.self } in
    subst
    (λ ways.
    ChangesSet c.args.self.now new c.args.bank (set_index c.args.self.now.shape c.args.x)
    (placed ways (slots_of c.args.self.now c.args.bank c.args.x) c.args.x c.args.line.now))
    ways
    (changes_set change g banks c.args.self.now c.args.bank c.args.x c.set_of-n.result c.from.result
    c.index_mut-bank.result.now c.place.new.self
    (record {
      view = c.self.view_is;
      form = c.self.invariant;
      low = c.requires.bank;
      index = c.set_of-n.ensures.value;
      within = c.set_of-n.ensures.within;
      place = c.from.ensures;
      read = c.index_mut-bank.ensures.value;
      written = c.place.ensures;
    })
    (KeepsWays-placed c.ways-ways.result (slots_of c.args.self.now c.args.bank c.args.x) c.args.x c.args.line.now c.requires.absent))
