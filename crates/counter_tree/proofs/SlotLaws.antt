-- Slot lines: each is a line, and names its node.
use Rattle.std.proofs.Common.{ℕ, ◌≡◌, ◌<◌, ◌+◌, ◌-◌, ◌^◌, List, [], ◌∷◌, ◌++◌, replicate, Some, None, false, refl, lit<, rules}
use Rattle.counter_tree.proofs.Common.{◌==◌, cond-false, All-append, All-replicate, IsLine, big_endian, from_big_endian, Node, IsNode, counter, NamedNode, big_endian-AreBytes}
use Rattle.pmem_base.specs.Lines.{zero_line}
use Rattle.counter_tree.specs.Slots.{slot_line, slot_read}
use Rattle.counter_tree.proofs.NodeLaws.{its_counters}

pub slot_line-IsLine : (x : ℕ) (node : Node) → IsLine (slot_line x node)
unfolding slot_line
slot_line-IsLine x node =
    let d : List ℕ = big_endian 8 (counter node 3) ++ replicate 24 0 in
    let c : List ℕ = big_endian 8 (counter node 2) ++ d in
    let b : List ℕ = big_endian 8 (counter node 1) ++ c in
    let a : List ℕ = big_endian 8 (counter node 0) ++ b in
    let z : List ℕ = replicate 4 0 ++ a in
    record {
      long = refl;
      bytes =
          All-append (λ b. b < 256) (big_endian 4 (x + 1)) z (big_endian-AreBytes 4 (x + 1))
          (All-append (λ b. b < 256) (replicate 4 0) a (All-replicate (λ b. b < 256) 4 0 (lit< tt))
          (All-append (λ b. b < 256) (big_endian 8 (counter node 0)) b (big_endian-AreBytes 8 (counter node 0))
          (All-append (λ b. b < 256) (big_endian 8 (counter node 1)) c (big_endian-AreBytes 8 (counter node 1))
          (All-append (λ b. b < 256) (big_endian 8 (counter node 2)) d (big_endian-AreBytes 8 (counter node 2))
          (All-append (λ b. b < 256) (big_endian 8 (counter node 3)) (replicate 24 0) (big_endian-AreBytes 8 (counter node 3)) (All-replicate (λ b. b < 256) 24 0 (lit< tt)))))));
    }

-- what stands in it
node_from : ℕ → ℕ → ℕ → ℕ → ℕ → NamedNode
node_from n a b c d = record { x = n - 1; node = record { 0 = a ∷ b ∷ c ∷ d ∷ [] } }

read_is : (x : ℕ) (node : Node) → (from_big_endian (big_endian 4 (x + 1)) == 0) ≡ false → slot_read (slot_line x node) ≡ Some (node_from (from_big_endian (big_endian 4 (x + 1))) (from_big_endian (big_endian 8 (counter node 0))) (from_big_endian (big_endian 8 (counter node 1))) (from_big_endian (big_endian 8 (counter node 2))) (from_big_endian (big_endian 8 (counter node 3))))
unfolding slot_line slot_read node_from
read_is x node some = cond-false (from_big_endian (big_endian 4 (x + 1)) == 0) None _ some

-- the law: it names its node
pub slot_read-slot_line : (x : ℕ) (node : Node) → x < 2 ^ 32 - 1 → IsNode node → slot_read (slot_line x node) ≡ Some (record { x = x; node = node })
unfolding node_from
slot_read-slot_line x node small whole = search (rules, read_is, its_counters)

-- a zero line names nothing
pub slot_read-zero : slot_read zero_line ≡ None
unfolding slot_read zero_line
slot_read-zero = refl
