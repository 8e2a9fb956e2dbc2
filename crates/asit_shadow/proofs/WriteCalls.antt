-- When a write is spent, and that its group can be armed.
use Rattle.std.proofs.Common.{ℕ, ◌≡◌, ◌<◌, ◌^◌, ◌-◌, List, map, sym, ap, subst, rules}
use Rattle.asit_shadow.proofs.Common.{Result, Err, ◌↔◌, replicate, length-replicate, Line, IsGroup, Shape, IsShape, meta_lines, Setup, Node, LineSeal, total, zero_node, tree_lines, tree_size, IsLineSeal, node_at, TreeFault, top_node, TreeEngineParts, AreTreeTrusted, line_path, IsTreeSpentAnswer, IsLineWritten, IsFetchFault, armed_lines, set_pairs, HasWrittenUp}
use Rattle.asit_shadow.specs.declared.fault.TreeFault.TheVariants as Fail
use Rattle.asit_shadow.proofs.PathSteps.{top-in, in-true}
use Rattle.asit_shadow.proofs.PairSets.{pairs-are, lines-are}
use Rattle.asit_shadow.proofs.PutLaws.{write_group-IsGroup}

-- ---- when a write is spent

-- the engine's top is the true node 0 where the engine is trusted
pub top-used_up : (setup : Setup) (old : TreeEngineParts) → AreTreeTrusted setup old → total (top_node old.engine.cache) ≡ total (node_at old.watch.nodes 0)
top-used_up setup old trusted = ap total (in-true setup 0 (top_node old.engine.cache) old trusted (top-in setup old trusted))

pub fetch-unspent : (fault : TreeFault) → IsFetchFault fault → IsTreeSpentAnswer {T = ℕ} (Err fault) → ⊥
fetch-unspent Fail.Cut kind spent = spent
fetch-unspent Fail.Down kind spent = spent
fetch-unspent (Fail.Node x) kind spent = spent
fetch-unspent (Fail.Tag at) kind spent = spent
fetch-unspent Fail.Spent kind spent = kind
fetch-unspent Fail.Shown kind spent = spent

-- ---- the group can be armed

pub armed-IsGroup : (g : Shape) (a : ℕ) (seal : LineSeal) (pairs : List (ℕ × Node)) → IsShape g → a < tree_lines g → IsLineSeal seal → map (λ pair. pair.0) pairs ≡ line_path g a → IsGroup (tree_size g) (armed_lines g a seal pairs)
armed-IsGroup g a seal pairs shape inside good positions =
    let blank : List Node = replicate (meta_lines g) zero_node in
    let its = pairs-are g a pairs (replicate (meta_lines g) zero_node) shape inside positions (length-replicate {A = Node} (meta_lines g) zero_node) in
    subst (IsGroup (tree_size g)) (sym (lines-are g a seal pairs (set_pairs pairs (replicate (meta_lines g) zero_node)) its))
    (write_group-IsGroup g a seal (set_pairs pairs (replicate (meta_lines g) zero_node)) shape inside good)

-- ---- a write of an engine that wasn't down

pub written-up : (setup : Setup) (a : ℕ) (plain : Line) (old new : TreeEngineParts) (answer : Result ℕ TreeFault) → HasWrittenUp setup a plain old new answer → (IsTreeSpentAnswer answer ↔ (total (top_node old.engine.cache) ≡ 2 ^ 64 - 1)) → IsLineWritten setup a plain old new answer
written-up setup a plain old new answer it spent = search rules
