-- The set of the position is changed in its bank.
use Rattle.std.proofs.Common.{List}
use Rattle.pmem_base.specs.Geo.{shape_of}
use Rattle.meta_cache.specs.Banks.{Slot, set_of}
use Rattle.meta_cache.specs.Sets.{with_slot_line}
use Rattle.meta_cache.proofs.FormLemmas.{IsSetOf-with_slot_line}
use Rattle.meta_cache.specs.State.{slots_of}
use Rattle.meta_cache.proofs.WayLemmas.{KeepsWays-with_slot_line}
use Rattle.meta_cache.proofs.StepLemmas.{IsStep, keeps_form, changes_set}
use Rattle.meta_cache.proofs.cache.Cache.store.Goals as goal

pub invariant_of-self : goal.invariant_of-self
invariant_of-self c =
    let change : List Slot → List Slot = λ slots. with_slot_line slots c.args.x c.args.line.now in
    let g = shape_of c.self.inside.geo in
    let banks = c.self.inside.banks.items in
    let step : IsStep change g banks c.args.self.now c.args.bank c.args.x c.set_of-n.result c.from.result
    c.index_mut-bank.result.now c.store.new.self =
    record {
      view = c.self.view_is;
      form = c.self.invariant;
      low = c.requires.bank;
      index = c.set_of-n.ensures.value;
      within = c.set_of-n.ensures.within;
      place = c.from.ensures;
      read = c.index_mut-bank.ensures.value;
      written = c.store.ensures;
    } in
    keeps_form change g banks c.args.self.now c.args.bank c.args.x c.set_of-n.result c.from.result
    c.index_mut-bank.result.now c.store.new.self step
    (IsSetOf-with_slot_line g c.set_of-n.result (set_of banks c.args.bank c.set_of-n.result) c.args.x c.args.line.now c.is_whole.ensures
    (c.self.invariant.each_set c.args.bank c.set_of-n.result))

pub returns : goal.returns
returns c =
    let change : List Slot → List Slot = λ slots. with_slot_line slots c.args.x c.args.line.now in
    let g = shape_of c.self.inside.geo in
    let banks = c.self.inside.banks.items in
    changes_set change g banks c.args.self.now c.args.bank c.args.x c.set_of-n.result c.from.result
    c.index_mut-bank.result.now c.store.new.self
    (record {
      view = c.self.view_is;
      form = c.self.invariant;
      low = c.requires.bank;
      index = c.set_of-n.ensures.value;
      within = c.set_of-n.ensures.within;
      place = c.from.ensures;
      read = c.index_mut-bank.ensures.value;
      written = c.store.ensures;
    })
    (KeepsWays-with_slot_line (slots_of c.args.self.now c.args.bank c.args.x) c.args.x c.args.line.now)
