-- Nodes: a node is the digests of its four children, and depends on their lines alone.
use Rattle.std.proofs.Common.{ℕ, zero, suc, ◌≡◌, ◌≢◌, ◌<◌, length, ap, arith, rules}
use Rattle.pmem_base.specs.declared.lines.Line.{Line}
use Rattle.suite.specs.Formulas.{Formulas}
use Rattle.bonsai_tree.specs.Positions.{child_position}
use Rattle.bonsai_tree.specs.Nodes.{node_over, child_digest, child_digest_over}
use Rattle.bonsai_tree.specs.Paths.{with_child_digest}
use Rattle.bonsai_tree.proofs.Slots.{put_first, put_second, put_third, put_fourth, four-same, first_of_four, second_of_four, third_of_four, fourth_of_four}

-- a child's digest follows its line
digest-same : (f : Formulas) (x i : ℕ) (a b : ℕ → Line) → a (child_position x i) ≡ b (child_position x i) → child_digest_over f x a i ≡ child_digest_over f x b i
digest-same f x i a b e = ap (f.digest_of (child_position x i)) e

-- a node depends on the lines of its four children alone
pub node_over-same : (f : Formulas) (x : ℕ) (a b : ℕ → Line) → ((i : ℕ) → i < 4 → a (child_position x i) ≡ b (child_position x i)) → node_over f x a ≡ node_over f x b
node_over-same f x a b same = search (rules, four-same, digest-same)

-- each digest of the four children is 16 bytes
abbrev pub AreSixteen : Formulas → ℕ → (ℕ → Line) → Type 0
AreSixteen f x a = (i : ℕ) → i < 4 → length (child_digest_over f x a i) ≡ 16

-- the node whose child in slot s has a new line
pub child_replaced : (f : Formulas) (x s : ℕ) (a b : ℕ → Line) → s < 4 → AreSixteen f x a → AreSixteen f x b → ((i : ℕ) → i < 4 → i ≢ s → a (child_position x i) ≡ b (child_position x i)) → with_child_digest (node_over f x a) s (f.digest_of (child_position x s) (b (child_position x s))) ≡ node_over f x b
child_replaced f x zero a b small la lb same = search (rules, put_first, four-same, digest-same)
child_replaced f x (suc zero) a b small la lb same = search (rules, put_second, four-same, digest-same)
child_replaced f x (suc (suc zero)) a b small la lb same = search (rules, put_third, four-same, digest-same)
child_replaced f x (suc (suc (suc zero))) a b small la lb same = search (rules, put_fourth, four-same, digest-same)
child_replaced f x (suc (suc (suc (suc s)))) a b small la lb same = absurd (omega arith)

-- the slots of a node are the digests of the children
pub child_digest-node_over : (f : Formulas) (x i : ℕ) (line : ℕ → Line) → AreSixteen f x line → i < 4 → child_digest (node_over f x line) i ≡ child_digest_over f x line i
child_digest-node_over f x zero line long small = search (rules, first_of_four)
child_digest-node_over f x (suc zero) line long small = search (rules, second_of_four)
child_digest-node_over f x (suc (suc zero)) line long small = search (rules, third_of_four)
child_digest-node_over f x (suc (suc (suc zero))) line long small = search (rules, fourth_of_four)
child_digest-node_over f x (suc (suc (suc (suc i)))) line long small = absurd (omega (arith, small))
