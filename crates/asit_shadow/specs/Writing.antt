-- A write's parts: the path's nodes with their new counters, what is reported of them, and what is stored.
use Rattle.std.specs.Prelude.{ℕ, ◌≡◌, ◌<◌, ◌≤◌, ◌+◌, ◌-◌, ◌%◌, ◌^◌, ◌==◌, true, List, [], ◌∷◌, Option, Some, Result, length, map, take, slice_index_or, slice_set, All, if◌then◌else◌}
use Rattle.pmem_base.specs.declared.lines.Line.{Line}
use Rattle.pmem_base.specs.declared.registers.Regs.{Regs}
use Rattle.pmem_base.specs.Lines.{put_lines}
use Rattle.pmem_base.specs.Shape.{Shape}
use Rattle.bonsai_tree.specs.Positions.{child_slot}
use Rattle.suite.specs.Formulas.{Formulas, cipher_of}
use Rattle.suite.specs.Setup.{Setup}
use Rattle.call_effects.specs.Outcomes.{is_going}
use Rattle.counter_tree.specs.declared.nodes.Node.{Node}
use Rattle.counter_tree.specs.declared.watch.LineSeal.{LineSeal}
use Rattle.counter_tree.specs.Nodes.{counter, total, version_counter, zero_node}
use Rattle.counter_tree.specs.Layout.{tree_slots, line_of_tag, line_of_slot}
use Rattle.counter_tree.specs.Trees.{raised, line_position}
use Rattle.counter_tree.specs.Slots.{slot_of, slot_line}
use Rattle.counter_tree.specs.Shadow.{ChipTree, IsShadowTree, root_of}
use Rattle.counter_tree.specs.Watch.{WatchState, IsLineSeal}
use Rattle.asit_shadow.specs.declared.cache.CachedNode.{CachedNode}
use Rattle.asit_shadow.specs.State.{IsCachedAs, IsHeldNode}
use Rattle.asit_shadow.specs.Paths.{line_path, path_node, tag_only}
use Rattle.asit_shadow.specs.Steps.{KeepsOtherRegisters}
use Rattle.asit_shadow.specs.declared.fault.TreeFault.{TreeFault}
use Rattle.asit_shadow.specs.Parts.{TreeEngineParts, AreTreeTrusted, AreTreeSound, IsBoardReady, IsWatchReady}
use Rattle.asit_shadow.specs.Calls.{AnswersTreeWrite, TreeCallEffect, IsTreeDownAnswer, IsTreeRefusal, IsTreeUnrefused, IsWriteAnswer, KeepsWatch, tree_outcome_of}
use Rattle.asit_shadow.specs.Work.{WorksOfWrite}

-- a list with each value set at its place, in order
abbrev pub set_pairs : {X : Type 0} → List (ℕ × X) → List X → List X
set_pairs [] list = list
set_pairs (pair ∷ rest) list = set_pairs rest (slice_set list pair.0 pair.1)

-- the position below a level of the path of data line a: the next of the path, or the line's own
abbrev pub position_below : Shape → ℕ → ℕ → ℕ
position_below g a level = if level == g.levels then line_position g a else path_node g a (level + 1)

-- the pair of a path's level, as a list of pairs has it
abbrev pub pair_at : List (ℕ × Node) → ℕ → ℕ × Node
pair_at pairs level = slice_index_or pairs level (0, zero_node)

-- the nodes of a path with their new counters: of those cached, each whose version can rise has the counter
-- for the position below one greater
pub record IsPathRaised (g : Shape) (cache : List (Option CachedNode)) (a : ℕ) (pairs : List (ℕ × Node)) : Type 0 where
  pub positions : map (λ pair. pair.0) pairs ≡ line_path g a
  pub whole : All (λ pair. IsHeldNode g (record { x = pair.0; node = pair.1; dirty = true })) pairs
  pub each_raised :
      (level : ℕ) (node : Node) → level ≤ g.levels → IsCachedAs g cache (path_node g a level) node
      → total node < 2 ^ 64 - 1
      → (pair_at pairs level).1 ≡ raised node (child_slot (position_below g a level))

-- so for the first n levels
pub record IsRaisedTo (g : Shape) (cache : List (Option CachedNode)) (a n : ℕ) (pairs : List (ℕ × Node)) : Type 0 where
  pub count : length pairs ≡ n
  pub positions : map (λ pair. pair.0) pairs ≡ take n (line_path g a)
  pub whole : All (λ pair. IsHeldNode g (record { x = pair.0; node = pair.1; dirty = true })) pairs
  pub each_raised :
      (level : ℕ) (node : Node) → level < n → IsCachedAs g cache (path_node g a level) node
      → total node < 2 ^ 64 - 1
      → (pair_at pairs level).1 ≡ raised node (child_slot (position_below g a level))

-- the slot lines of the path's nodes, each at its slot or at a place that depends on it
abbrev pub slot_entries : Shape → (ℕ → ℕ) → List (ℕ × Node) → List (ℕ × Line)
slot_entries g place pairs = map (λ pair. (place (slot_of g pair.0), slot_line pair.0 pair.1)) pairs

-- the path's nodes as the cache holds them
abbrev pub dirty_entries : Shape → List (ℕ × Node) → List (ℕ × Option CachedNode)
dirty_entries g pairs = map (λ pair. (slot_of g pair.0, Some (record { x = pair.0; node = pair.1; dirty = true }))) pairs

-- the lines that a write arms
abbrev pub armed_lines : Shape → ℕ → LineSeal → List (ℕ × Node) → List (ℕ × Line)
armed_lines g a seal pairs = (a, seal.cipher) ∷ (line_of_tag g a, tag_only seal.tag) ∷ slot_entries g (line_of_slot g) pairs

-- the shadow tree with the path's nodes named, whatever slot lines it was made over, and the root over them
pub record IsTreeNamed (f : Formulas) (g : Shape) (pairs : List (ℕ × Node)) (old new : ChipTree) (root : List ℕ) (slots : List Line) : Type 0 where
  pub tree : IsShadowTree f old.height (put_lines (slot_entries g (λ i. i) pairs) slots) new.lines
  pub its_root : root ≡ root_of f old.height (put_lines (slot_entries g (λ i. i) pairs) slots)

-- what is reported to a watch of a write
pub record IsWriteTold (g : Shape) (a : ℕ) (seal : LineSeal) (pairs : List (ℕ × Node)) (old new : WatchState) : Type 0 where
  pub setup : new.setup ≡ old.setup
  pub seals : new.seals ≡ slice_set old.seals a (Some seal)
  pub nodes : new.nodes ≡ set_pairs pairs old.nodes
  pub slots : new.slots ≡ put_lines (slot_entries g (λ i. i) pairs) old.slots
  pub exhibit : new.exhibit ≡ old.exhibit

-- the seal of a plain line under a counter
pub record IsSealMade (f : Formulas) (a counter : ℕ) (plain : Line) (seal : LineSeal) : Type 0 where
  pub its_counter : seal.counter ≡ counter
  pub cipher : seal.cipher ≡ cipher_of f a (version_counter counter) plain
  pub tag : f.tag_of a (version_counter counter) seal.cipher ≡ seal.tag
  pub in_range : IsLineSeal seal

-- a write over a fetched path, made and armed by these registers, told and stored
pub record IsWriteMade (setup : Setup) (a : ℕ) (plain : Line) (seal : LineSeal) (pairs : List (ℕ × Node)) (regs : Regs) (old new : TreeEngineParts) : Type 0 where
  pub raised : IsPathRaised setup.shape old.engine.cache a pairs
  pub made : IsSealMade setup.formulas a seal.counter plain seal
  pub counted : seal.counter ≡ counter (pair_at pairs setup.shape.levels).1 (a % 4)
  pub group : regs.group.items ≡ armed_lines setup.shape a seal pairs
  pub root :
      (slots : List Line) → length slots ≡ tree_slots setup.shape
      → IsShadowTree setup.formulas old.engine.tree.height slots old.engine.tree.lines
      → IsTreeNamed setup.formulas setup.shape pairs old.engine.tree new.engine.tree regs.root slots
  pub others : KeepsOtherRegisters old.device.regs regs
  pub told : IsWriteTold setup.shape a seal pairs old.watch new.watch
  pub cache : new.engine.cache ≡ set_pairs (dirty_entries setup.shape pairs) old.engine.cache
  pub shape : new.engine.shape ≡ old.engine.shape
  pub down : new.engine.down ≡ old.engine.down

-- a write of an engine that isn't down, before a cut or an exhibit takes it down
pub record HasWrittenUp (setup : Setup) (a : ℕ) (plain : Line) (old new : TreeEngineParts) (answer : Result ℕ TreeFault) : Type 0 where
  pub kind : IsWriteAnswer answer
  pub up : IsTreeDownAnswer answer → ⊥
  pub down : new.engine.down ≡ old.engine.down
  pub effect : TreeCallEffect setup (tree_outcome_of answer) old new
  pub work : WorksOfWrite setup a old new answer
  pub answered : AreTreeTrusted setup old → AnswersTreeWrite setup a plain old new answer
  pub unrefused : AreTreeSound setup old → IsTreeUnrefused answer
  pub watch : IsTreeRefusal answer → KeepsWatch (tree_outcome_of answer) old.watch new.watch
  pub ready : IsWatchReady setup.shape old.watch → IsWatchReady setup.shape new.watch
  pub board : IsBoardReady setup.shape old.device → IsBoardReady setup.shape new.device
  pub no_group : is_going (tree_outcome_of answer) ≡ true → old.device.regs.group.items ≡ [] → new.device.regs.group.items ≡ []
