-- Nodes of the counter tree: four counters, and the line in which they stand with their tag.
use Rattle.std.specs.Prelude.{ℕ, ◌≡◌, ◌<◌, ◌+◌, ◌%◌, ◌^◌, ◌==◌, ◌&&◌, nat_lt, Bool, List, [], ◌∷◌, ◌++◌, length, replicate, slice_index, slice_range, All, Option, Some, None, if◌then◌else◌}
use Rattle.pmem_base.specs.declared.lines.Line.{Line}
use Rattle.pmem_base.specs.declared.lines.Ctr.{Ctr}
use Rattle.pmem_base.specs.Lines.{line_of, big_endian, from_big_endian, same_bytes, tag_slot}
use Rattle.suite.specs.Formulas.{Formulas}
use Rattle.line_seal.specs.Seals.{with_tag}
use Rattle.counter_tree.specs.declared.nodes.Node.{Node}

-- four counters of 64 bits
pub record IsNode (node : Node) : Type 0 where
  pub count : length node.0 ≡ 4
  pub counters : All (λ c. c < 2 ^ 64) node.0

-- counter i
abbrev pub counter : Node → ℕ → ℕ
counter node i = slice_index node.0 i

-- the sum of the counters: the node's version
abbrev pub total : Node → ℕ
total node = counter node 0 + counter node 1 + counter node 2 + counter node 3

-- the version, if it is a number of 64 bits
abbrev pub version_of : Node → Option ℕ
version_of node = if nat_lt (total node) (2 ^ 64) then Some (total node) else None

-- the sum as a number of 64 bits: the version of a node that has one
abbrev pub wrapped_version : Node → ℕ
wrapped_version node = total node % 2 ^ 64

-- four zero counters
abbrev pub zero_node : Node
zero_node = record { 0 = 0 ∷ 0 ∷ 0 ∷ 0 ∷ [] }

-- tags of nodes are taken at numbers past all data lines
abbrev pub node_place : ℕ → ℕ
node_place x = 2147483648 + x

-- a version as a counter
abbrev pub version_counter : ℕ → Ctr
version_counter version = record { major = version; minor = 0 }

-- a line with zeros in the place of a node's tag, its last 16 bytes
abbrev pub without_tag : Line → Line
without_tag line = with_tag line 3 (replicate 16 0)

-- the tag of a node's line under a version, the tag's place being zero
abbrev pub node_tag_of : Formulas → ℕ → ℕ → Line → List ℕ
node_tag_of f x version line = f.tag_of (node_place x) (version_counter version) line

-- the four counters of 8 bytes each, and 32 zero bytes
unfoldable pub untagged_line : Node → Line
untagged_line node =
    line_of
    (big_endian 8 (counter node 0)
    ++ (big_endian 8 (counter node 1)
    ++ (big_endian 8 (counter node 2) ++ (big_endian 8 (counter node 3) ++ replicate 32 0))))

-- the line of node x, its tag in the last 16 bytes
abbrev pub node_line : Formulas → ℕ → Node → Line
node_line f x node =
    with_tag (untagged_line node) 3 (node_tag_of f x (total node) (untagged_line node))

-- the counters of a line
unfoldable pub stored_node : Line → Node
stored_node line =
    record {
      0 =
          from_big_endian (slice_range line.0 0 8)
          ∷ from_big_endian (slice_range line.0 8 16)
          ∷ from_big_endian (slice_range line.0 16 24)
          ∷ from_big_endian (slice_range line.0 24 32)
          ∷ [];
    }

-- the line has the form of a node's line
unfoldable pub has_zero_bytes : Line → Bool
has_zero_bytes line = same_bytes (slice_range line.0 32 48) (replicate 16 0)

-- the tag of the line at x fits it under a version
unfoldable pub has_node_tag : Formulas → ℕ → Line → ℕ → Bool
has_node_tag f x line version = same_bytes (node_tag_of f x version (without_tag line)) (tag_slot line 3)

-- a line at x is taken as a node of a version if bytes 32 to 47 are zero, its counters' sum is the version, and its tag fits
abbrev pub is_node_line : Formulas → ℕ → Line → ℕ → Bool
is_node_line f x line version =
    has_zero_bytes line && (total (stored_node line) == version && has_node_tag f x line version)

-- whether a tag is made as a line is read as a node of a version: only if nothing else is wrong with it
abbrev pub makes_node_tag : Line → ℕ → Bool
makes_node_tag line version = has_zero_bytes line && total (stored_node line) == version

-- the node of a line at x, under the version that its parent has for it
abbrev pub node_read : Formulas → ℕ → Line → ℕ → Option Node
node_read f x line version = if is_node_line f x line version then Some (stored_node line) else None
