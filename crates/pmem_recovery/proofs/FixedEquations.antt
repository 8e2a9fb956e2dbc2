-- The fixed line of each position by that of its children: the equations of the recursion, without its
-- count of levels. They hold of any device.
use Rattle.std.proofs.Common.{ℕ, zero, suc, ◌≡◌, ◌<◌, ◌+◌, ◌-◌, true, false, List, ap, sym, ◌∙◌, arith}
use Rattle.std.proofs.lemmas.Bool.{cond-true, cond-false}
use Rattle.pmem_base.specs.declared.lines.Line.{Line}
use Rattle.pmem_base.specs.declared.registers.Regs.{Regs}
use Rattle.pmem_base.specs.Shape.{IsShape}
use Rattle.pmem_base.specs.Layout as layout
use Rattle.split_counters.specs.Blocks.{packed}
use Rattle.bonsai_tree.specs.Positions.{level_of, child_position, counter_position}
use Rattle.bonsai_tree.specs.Nodes.{node_over}
use Rattle.bonsai_tree.proofs.Levels.{IsAtLevel, child-IsAtLevel, counter_position-IsAtLevel, level_of-at}
use Rattle.bonsai_tree.proofs.NodeLaws.{node_over-same}
use Rattle.suite.specs.Setup.{Setup}
use Rattle.pmem_engine.specs.Invariants.{stored_meta, is_doubted}
use Rattle.pmem_recovery.specs.Fixed.{fixed_block, fixed_line_above, fixed_line}

-- a line that isn't doubted is the device's
fixed_line_above-unnamed : (setup : Setup) (lines : List Line) (regs : Regs) (j x : ℕ) → is_doubted setup.shape lines x ≡ false → fixed_line_above setup lines regs j x ≡ stored_meta setup.shape lines x
fixed_line_above-unnamed setup lines regs zero x q =
    cond-false (is_doubted setup.shape lines x) (packed (fixed_block setup lines regs (x - counter_position setup.shape 0))) (stored_meta setup.shape lines x) q
fixed_line_above-unnamed setup lines regs (suc j) x q =
    cond-false (is_doubted setup.shape lines x) (node_over setup.formulas x (fixed_line_above setup lines regs j)) (stored_meta setup.shape lines x) q

pub fixed_line-unnamed : (setup : Setup) (lines : List Line) (regs : Regs) (x : ℕ) → is_doubted setup.shape lines x ≡ false → fixed_line setup lines regs x ≡ stored_meta setup.shape lines x
fixed_line-unnamed setup lines regs x q =
    fixed_line_above-unnamed setup lines regs (setup.shape.levels - level_of x) x q

-- at a position of level i the recursion has the rest of the levels
pub fixed_line-at : (setup : Setup) (lines : List Line) (regs : Regs) (i j x : ℕ) → IsShape setup.shape → i + j ≡ setup.shape.levels → IsAtLevel i x → fixed_line setup lines regs x ≡ fixed_line_above setup lines regs j x
fixed_line-at setup lines regs i j x shape e l =
    let six = shape.at_most_six_levels in
    let same : level_of x ≡ i = level_of-at i x (omega arith) l in
    let rest : setup.shape.levels - i ≡ j = omega arith in
    ap (λ k. fixed_line_above setup lines regs (setup.shape.levels - k) x) same
    ∙ ap (λ k. fixed_line_above setup lines regs k x) rest

-- a doubted counter block is made by its trials
pub fixed_line-block : (setup : Setup) (lines : List Line) (regs : Regs) (page : ℕ) → IsShape setup.shape → page < layout.pages setup.shape → is_doubted setup.shape lines (counter_position setup.shape page) ≡ true → fixed_line setup lines regs (counter_position setup.shape page) ≡ packed (fixed_block setup lines regs page)
fixed_line-block setup lines regs page shape h q =
    let x = counter_position setup.shape page in
    let its_page : counter_position setup.shape page - counter_position setup.shape 0 ≡ page = omega arith in
    fixed_line-at setup lines regs setup.shape.levels 0 x shape (omega arith) (counter_position-IsAtLevel setup.shape page h)
    ∙ cond-true (is_doubted setup.shape lines x) (packed (fixed_block setup lines regs (x - counter_position setup.shape 0))) (stored_meta setup.shape lines x) q
    ∙ ap (λ p. packed (fixed_block setup lines regs p)) its_page

-- a doubted node is made of the fixed lines of its children
pub fixed_line-node : (setup : Setup) (lines : List Line) (regs : Regs) (i x : ℕ) → IsShape setup.shape → i < setup.shape.levels → IsAtLevel i x → is_doubted setup.shape lines x ≡ true → fixed_line setup lines regs x ≡ node_over setup.formulas x (fixed_line setup lines regs)
fixed_line-node setup lines regs i x shape h l q =
    let j = setup.shape.levels - suc i in
    fixed_line-at setup lines regs i (suc j) x shape (omega arith) l
    ∙ cond-true (is_doubted setup.shape lines x) (node_over setup.formulas x (fixed_line_above setup lines regs j)) (stored_meta setup.shape lines x) q
    ∙ node_over-same setup.formulas x (fixed_line_above setup lines regs j) (fixed_line setup lines regs)
    (λ c small. sym (fixed_line-at setup lines regs (suc i) j (child_position x c) shape (omega arith) (child-IsAtLevel i x c l small)))
