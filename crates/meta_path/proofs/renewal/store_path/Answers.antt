-- The levels so far and the next one.
use Rattle.std.proofs.Common.{rules, ◌≡◌, ℕ, ◌+◌, ◌<◌, List, [], take, length, get_or, refl, sym, ap, subst, ◌∙◌, arith}
use Rattle.std.proofs.Math.Seq.{take-length}
use Rattle.pmem_base.specs.declared.lines.Line.{Line}
use Rattle.meta_path.specs.Storing.{IsStoredTo, HasMetaLines}
use Rattle.meta_path.proofs.StoreLemmas.{IsStoredTo-none, IsStoredTo-more, HasMetaLines-none, HasMetaLines-more, level_stored, next_cached, next_on_tree, mark_is, length-path_lines, KeepsSlots-stored, IsPathCached-stored, AreInTheirBanks-stored}
use Rattle.meta_path.proofs.renewal.store_path.Goals as goal

-- what stands past the last entry
abbrev past : ℕ × Line
past = (0, record { 0 = [] })

pub levels-init : goal.levels-init
levels-init g c = search (rules, IsStoredTo-none, HasMetaLines-none)

pub store_level-requires-clause-bank : goal.store_level-requires-clause-bank
store_level-requires-clause-bank g c =
    let path = c.requires.path in
    let lines = c.args.path.now.lines.items in
    omega (
      arith,
      ap (λ shape. shape.levels) (c.levels.invariant.stored path.page path.path).shape,
      length-path_lines c.args.cache.now.shape path.page lines path.path,
      c.levels-test.true,
      ap (λ (xs : List (ℕ × Line)). length xs) c.as_slice-x-items.ensures.value,
    )

pub store_level-requires-clause-cached : goal.store_level-requires-clause-cached
store_level-requires-clause-cached g c =
    let path = c.requires.path in
    let lines = c.args.path.now.lines.items in
    next_cached _ path.page _ lines c.levels.bank (get_or c.as_slice-x-items.result.now c.levels.bank past) past _ c.levels.cache path.path
    (omega (arith, c.levels-test.true, ap (λ (xs : List (ℕ × Line)). length xs) c.as_slice-x-items.ensures.value)) refl
    (ap (λ (xs : List (ℕ × Line)). get_or xs c.levels.bank past) c.as_slice-x-items.ensures.value)
    (c.levels.invariant.stored path.page path.path) path.cached

pub store_level-requires-clause-truth : goal.store_level-requires-clause-truth
store_level-requires-clause-truth g c =
    let path = c.requires.path in
    let lines = c.args.path.now.lines.items in
    omega (
      arith,
      next_on_tree c.args.cache.now.shape path.page lines c.levels.bank
          (get_or c.as_slice-x-items.result.now c.levels.bank past) past path.path
          (omega (arith, c.levels-test.true, ap (λ (xs : List (ℕ × Line)). length xs) c.as_slice-x-items.ensures.value))
          (ap (λ (xs : List (ℕ × Line)). get_or xs c.levels.bank past) c.as_slice-x-items.ensures.value),
      c.levels.invariant.told.count,
      c.requires.truth,
    )

pub levels-preserved : goal.levels-preserved
levels-preserved g c =
    let shape = c.args.cache.now.shape in
    let lines = c.args.path.now.lines.items in
    let within : c.levels.bank < length lines =
    omega (arith, c.levels-test.true, ap (λ (xs : List (ℕ × Line)). length xs) c.as_slice-x-items.ensures.value) in
    let entry = ap (λ (xs : List (ℕ × Line)). get_or xs c.levels.bank past) c.as_slice-x-items.ensures.value in
    record {
      stored = λ page path.
          IsStoredTo-more (c.levels.invariant.stored page path) (level_stored shape page _ lines c.levels.bank
          (get_or c.as_slice-x-items.result.now c.levels.bank past) past c.is_left_dirty-dirty.result c.levels.cache c.store_level.new.cache
          path within (c.levels.invariant.stored page path).shape entry
          (mark_is shape.levels c.levels.bank c.len-count.result _ c.is_left_dirty-dirty.result
          (omega (arith, c.len-count.ensures.value, length-path_lines shape page lines path)) c.is_left_dirty-dirty.ensures)
          c.store_level.ensures.cache);
      told = HasMetaLines-more lines c.levels.bank _ _ past _ _ _ within (sym entry) c.levels.invariant.told c.store_level.ensures.ledger;
      capacity = c.store_level.ensures.capacity ∙ c.levels.invariant.capacity;
    }

pub returns-clause-cache : goal.returns-clause-cache
returns-clause-cache g c page path =
    let lines = c.args.path.now.lines.items in
    let all : c.levels.bank ≡ c.args.cache.now.shape.levels + 1 =
    omega (
      arith,
      c.levels-test.false,
      c.levels.auto.bank-end,
      length-path_lines c.args.cache.now.shape page lines path,
      ap (λ (xs : List (ℕ × Line)). length xs) c.as_slice-x-items.ensures.value,
    ) in
    subst (λ n. IsStoredTo c.args.cache.now.shape page c.args.grouped lines n c.args.cache.now c.levels.cache) all
    (c.levels.invariant.stored page path)

pub returns-clause-slots : goal.returns-clause-slots
returns-clause-slots g c page path =
    KeepsSlots-stored (returns-clause-cache g c page path) (record { each = c.are_banks.ensures.cache.each_set })

pub returns-clause-cached : goal.returns-clause-cached
returns-clause-cached g c page cached =
    IsPathCached-stored (returns-clause-cache g c c.requires.path.page c.requires.path.path) cached

pub returns-clause-banks : goal.returns-clause-banks
returns-clause-banks g c its = AreInTheirBanks-stored (returns-clause-slots g c c.requires.path.page c.requires.path.path) its

pub returns-clause-shape : goal.returns-clause-shape
returns-clause-shape g c = (c.levels.invariant.stored c.requires.path.page c.requires.path.path).shape

pub returns-clause-ledger : goal.returns-clause-ledger
returns-clause-ledger g c =
    let lines = c.args.path.now.lines.items in
    let all : c.levels.bank ≡ length lines =
    omega (
      arith,
      c.levels-test.false,
      c.levels.auto.bank-end,
      ap (λ (xs : List (ℕ × Line)). length xs) c.as_slice-x-items.ensures.value,
    ) in
    subst (λ entries. HasMetaLines entries (g.A.Audit.ledger c.args.audit.now) (g.A.Audit.ledger c.levels.audit))
    (ap (λ n. take n lines) all ∙ take-length lines) c.levels.invariant.told
