-- The line goes in after the path above it.
use Rattle.std.proofs.Common.{suc, ◌≡◌, ◌+◌, ◌-◌, List, length, sym, ap, ◌∙◌, arith, rules}
use Rattle.counter_tree.proofs.Common.{Line, length-put_lines, line_at, risen_times, new_path, new_root, risen_times-add}
use Rattle.counter_tree.proofs.ChipLemmas.{level-within, level-above, level-low, put-more, root-more, node-is}
use Rattle.counter_tree.proofs.shadow.ShadowTree.+put_at.Goals as goal

pub set_line-requires : goal.set_line-requires
set_line-requires g t c = level-within c.args.self.now c.args.level c.args.x c.is_whole-2.ensures c.requires.place

pub parent-above-requires : goal.parent-above-requires
parent-above-requires g t c = level-low c.args.self.now c.args.level c.args.x (omega arith) c.requires.place

pub line-requires : goal.line-requires
line-requires g t c =
    level-within c.args.self.now (c.args.level - 1) c.parent-above.result c.is_whole-2.ensures
    (level-above c.args.self.now c.args.level (c.args.level - 1) c.args.x c.parent-above.result (omega arith) c.parent-above.ensures.value c.requires.place)

pub put_at-root-requires : goal.put_at-root-requires
put_at-root-requires g t c κs within = (
  omega arith,
  (
    within,
    level-above c.args.self.now c.args.level (c.args.level - 1) c.args.x c.parent-above.result (omega arith) c.parent-above.ensures.value c.requires.place,
  ),
)

pub set_line-requires-2 : goal.set_line-requires-2
set_line-requires-2 g t c =
    omega (
      arith,
      level-within c.args.self.now c.args.level c.args.x c.is_whole-2.ensures c.requires.place,
      ap (λ (ls : List Line). length ls) c.put_at-root.ensures.lines,
      length-put_lines (new_path (g.S.Suite.formulas_of (g.S.Suite.keys c.digest-digest.new.self)) (line_at c.args.self.now.lines) (c.args.level - 1) c.parent-above.result c.set_child.new.node) c.args.self.now.lines,
    )

pub returns-clause-lines : goal.returns-clause-lines
returns-clause-lines g t c = search (rules, put-more, node-is)

pub returns-clause-root : goal.returns-clause-root
returns-clause-root g t c =
    let f = g.S.Suite.formulas_of (g.S.Suite.keys c.args.suite.now) in
    let lines : List Line = c.args.self.now.lines in
    root-more f lines c.args.level (c.args.level - 1) c.args.x c.parent-above.result c.args.line.now c.set_child.new.node c.put_at-root.result
    (omega arith) c.parent-above.ensures.value
    (node-is f lines c.args.x c.child_slot.result c.parent-above.result c.args.line.now c.line.result.now c.set_child.new.node c.digest-digest.result
    c.parent-above.ensures.value c.child_slot.ensures.value c.line.ensures c.digest-digest.ensures.digest c.set_child.ensures.value)
    (c.put_at-root.ensures.root
    ∙ ap (λ keys. new_root (g.S.Suite.formulas_of keys) (line_at lines) (c.args.level - 1) c.parent-above.result c.set_child.new.node) c.digest-digest.ensures.keys)

pub returns-clause-digests : goal.returns-clause-digests
returns-clause-digests g t c =
    let below : suc (c.args.level - 1) ≡ c.args.level = omega arith in
    let more : 1 + c.args.level ≡ suc c.args.level = omega arith in
    c.put_at-root.ensures.digests
    ∙ (ap (λ n. risen_times n (g.S.Suite.digests c.digest-digest.new.self)) below
    ∙ (ap (risen_times c.args.level) c.digest-digest.ensures.digests
    ∙ (sym (risen_times-add 1 c.args.level (g.S.Suite.digests c.args.suite.now))
    ∙ ap (λ n. risen_times n (g.S.Suite.digests c.args.suite.now)) more)))
