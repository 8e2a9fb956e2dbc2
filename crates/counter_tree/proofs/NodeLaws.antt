-- A node's line is read back as the node, and what is read back has the tag of its counters.
use Rattle.std.proofs.Common.{ℕ, ◌≡◌, ◌<◌, ◌+◌, ◌^◌, List, [], ◌∷◌, ◌++◌, length, take, drop, replicate, true, Some, refl, sym, ap, ◌∙◌, arith, append_assoc, length-append, lit<, rules}
use Rattle.counter_tree.proofs.Common.{eq-eqb, take_at, drop_at, length-take-le, All-append, All-replicate, Line, IsLine, IsTag, AreBytes, line_of, big_endian, from_big_endian, tag_slot, big_endian-AreBytes, same_bytes-from, same_bytes-true, put_bytes-IsLine, Formulas, AreInRange, with_tag, Node, IsNode, counter, total, zero_node, without_tag, node_tag_of, node_line, node_read}
use Rattle.line_seal.proofs.TagSlots.{tag_slot-with_same}
use Rattle.counter_tree.specs.Nodes.{untagged_line, stored_node, has_zero_bytes, has_node_tag}

-- ---- four counters

four_numbers : (ns : List ℕ) → length ns ≡ 4 → ns ≡ counter (record { 0 = ns }) 0 ∷ counter (record { 0 = ns }) 1 ∷ counter (record { 0 = ns }) 2 ∷ counter (record { 0 = ns }) 3 ∷ []
four_numbers (a ∷ b ∷ c ∷ d ∷ []) four = refl
four_numbers ns four = absurd (omega (arith, four))

pub its_counters : (node : Node) → length node.0 ≡ 4 → node ≡ record { 0 = counter node 0 ∷ counter node 1 ∷ counter node 2 ∷ counter node 3 ∷ [] }
its_counters node four = ap (λ (ns : List ℕ). let n : Node = record { 0 = ns } in n) (four_numbers node.0 four)

pub IsNode-zero_node : IsNode zero_node
IsNode-zero_node = search rules

-- ---- the line before its tag

pub untagged_line-IsLine : (node : Node) → IsLine (untagged_line node)
unfolding untagged_line
untagged_line-IsLine node =
    let d : List ℕ = big_endian 8 (counter node 3) ++ replicate 32 0 in
    let c : List ℕ = big_endian 8 (counter node 2) ++ d in
    let b : List ℕ = big_endian 8 (counter node 1) ++ c in
    let zeros : AreBytes (replicate 32 0) = All-replicate (λ b. b < 256) 32 0 (lit< tt) in
    record {
      long = refl;
      bytes = search (All-append, big_endian-AreBytes);
    }

-- ---- a tag put in over another

with_tag-again : (line : Line) (first second : List ℕ) → length line.0 ≡ 64 → length first ≡ 16 → length second ≡ 16 → with_tag (with_tag line 3 first) 3 second ≡ with_tag line 3 second
with_tag-again line first second long one two =
    let front = take 48 line.0 in
    let rest = drop (48 + length first) line.0 in
    let count : length (take 48 line.0) ≡ 48 = length-take-le 48 line.0 (omega (arith, long)) in
    let head : take 48 (take 48 line.0 ++ first ++ drop (48 + length first) line.0) ≡ take 48 line.0 = search (append_assoc, take_at) in
    let same : length first ≡ length second = one ∙ sym two in
    let tail : drop (48 + length second) (take 48 line.0 ++ first ++ drop (48 + length first) line.0) ≡ drop (48 + length second) line.0 = search (rules, drop_at, length-append) in
    ap (λ xs. line_of (xs ++ second ++ drop (48 + length second) (take 48 line.0 ++ first ++ drop (48 + length first) line.0))) head
    ∙ ap (λ xs. line_of (take 48 line.0 ++ second ++ xs)) tail

-- ---- a node's line

pub node_tag-long : (f : Formulas) (x : ℕ) (node : Node) → AreInRange f → total node < 2 ^ 64 → IsTag (node_tag_of f x (total node) (untagged_line node))
node_tag-long f x node in_range small = search (rules, untagged_line-IsLine)

pub node_line-IsLine : (f : Formulas) (x : ℕ) (node : Node) → AreInRange f → total node < 2 ^ 64 → IsLine (node_line f x node)
node_line-IsLine f x node in_range small =
    let tag = node_tag-long f x node in_range small in
    put_bytes-IsLine (untagged_line node) 48 (node_tag_of f x (total node) (untagged_line node)) (untagged_line-IsLine node) tag.bytes (omega (arith, tag.long))

untagged_without : (node : Node) → without_tag (untagged_line node) ≡ untagged_line node
unfolding untagged_line
untagged_without node = refl

without_tag-node_line : (f : Formulas) (x : ℕ) (node : Node) → AreInRange f → total node < 2 ^ 64 → without_tag (node_line f x node) ≡ untagged_line node
without_tag-node_line f x node in_range small =
    let tag = node_tag-long f x node in_range small in
    let whole = untagged_line-IsLine node in
    with_tag-again (untagged_line node) (node_tag_of f x (total node) (untagged_line node)) (replicate 16 0) whole.long tag.long refl ∙ untagged_without node

stored_with_tag : (node : Node) (tag : List ℕ) → stored_node (with_tag (untagged_line node) 3 tag) ≡ record { 0 = from_big_endian (big_endian 8 (counter node 0)) ∷ from_big_endian (big_endian 8 (counter node 1)) ∷ from_big_endian (big_endian 8 (counter node 2)) ∷ from_big_endian (big_endian 8 (counter node 3)) ∷ [] }
unfolding stored_node untagged_line
stored_with_tag node tag = refl

pub stored_node-node_line : (f : Formulas) (x : ℕ) (node : Node) → IsNode node → stored_node (node_line f x node) ≡ node
stored_node-node_line f x node whole = search (rules, stored_with_tag, its_counters)

zero_bytes : (node : Node) (tag : List ℕ) → has_zero_bytes (with_tag (untagged_line node) 3 tag) ≡ true
unfolding has_zero_bytes untagged_line
zero_bytes node tag = refl

has_node_tag-node_line : (f : Formulas) (x : ℕ) (node : Node) → AreInRange f → total node < 2 ^ 64 → has_node_tag f x (node_line f x node) (total node) ≡ true
unfolding has_node_tag
has_node_tag-node_line f x node in_range small =
    let tag = node_tag-long f x node in_range small in
    let whole = untagged_line-IsLine node in
    same_bytes-from (node_tag_of f x (total node) (without_tag (node_line f x node))) (tag_slot (node_line f x node) 3)
    (ap (node_tag_of f x (total node)) (without_tag-node_line f x node in_range small)
    ∙ sym (tag_slot-with_same (untagged_line node) 3 (node_tag_of f x (total node) (untagged_line node)) whole.long tag.long))

-- the law: it is read back
pub node_read-node_line : (f : Formulas) (x : ℕ) (node : Node) → AreInRange f → IsNode node → total node < 2 ^ 64 → node_read f x (node_line f x node) (total node) ≡ Some node
node_read-node_line f x node in_range whole small = search (stored_node-node_line, eq-eqb, zero_bytes, has_node_tag-node_line)

-- ---- what is read

-- a node that was read: its counters stand in the line, their sum is the version, and the tag fits
pub record IsReadNode (f : Formulas) (x : ℕ) (line : Line) (version : ℕ) (node : Node) : Type 0 where
  pub stored : stored_node line ≡ node
  pub sum : total node ≡ version
  pub tagged : node_tag_of f x version (without_tag line) ≡ tag_slot line 3

has_node_tag-fits : (f : Formulas) (x : ℕ) (line : Line) (version : ℕ) → has_node_tag f x line version ≡ true → node_tag_of f x version (without_tag line) ≡ tag_slot line 3
unfolding has_node_tag
has_node_tag-fits f x line version t = same_bytes-true (node_tag_of f x version (without_tag line)) (tag_slot line 3) t

pub node_read-IsReadNode : (f : Formulas) (x : ℕ) (line : Line) (version : ℕ) (node : Node) → node_read f x line version ≡ Some node → IsReadNode f x line version node
node_read-IsReadNode f x line version node e = search (rules, has_node_tag-fits)
