-- One level of a page's path is fetched: its block is used, or read, checked and placed.
use Rattle.std.specs.Prelude.{ℕ, zero, suc, ◌≡◌, ◌≤◌, true, false, List, [], ◌∷◌, Option, Some, None, IsTrue, IsSomeAnd, if◌then◌else◌, ⊤}
use Rattle.pmem_base.specs.declared.lines.Line.{Line}
use Rattle.pmem_base.specs.Counts.{risen_times}
use Rattle.pmem_base.specs.Shape.{Shape}
use Rattle.pmem_base.specs.Layout.{meta_line}
use Rattle.pmem_base.specs.Lines.{IsLine, line_at}
use Rattle.suite.specs.Formulas.{Formulas}
use Rattle.bonsai_tree.specs.Positions.{parent, child_slot}
use Rattle.bonsai_tree.specs.Nodes.{child_digest}
use Rattle.board.specs.Device.{Device}
use Rattle.board.specs.Steps.{Tells}
use Rattle.meta_cache.specs.declared.slot.Slot.{Slot}
use Rattle.meta_cache.specs.Banks.{Banks, set_index, is_cached}
use Rattle.meta_cache.specs.Sets.{touched, with_mark, victim_of, placed}
use Rattle.meta_cache.specs.State.{CacheState, ChangesSet}
use Rattle.meta_path.specs.Blocks.{slots_at, line_in}
use Rattle.meta_path.specs.Work.{HasWorked, FetchState}

-- the digest that the line at x has to have: the root's at the top, below it its cached parent's entry
abbrev pub expected_digest : Shape → List ℕ → Banks → ℕ → ℕ → List ℕ
expected_digest g root banks zero x = root
expected_digest g root banks (suc above) x =
    child_digest (line_in g banks above (parent x)) (child_slot x)

-- below the top, the parent of x is cached one bank above
abbrev pub HasParent : Shape → Banks → ℕ → ℕ → Type 0
HasParent g banks zero x = ⊤
HasParent g banks (suc above) x = (1 ≤ x) × IsTrue (is_cached g banks above (parent x))

-- the write that a block takes to be evicted: none if it is clean
abbrev pub victim_write : Shape → Option Slot → List (ℕ × Line)
victim_write g None = []
victim_write g (Some victim) =
    if victim.dirty then (meta_line g victim.position, victim.line) ∷ [] else []

-- the position of a block to be evicted, if it is dirty
abbrev pub dirty_position : Option Slot → Option ℕ
dirty_position None = None
dirty_position (Some victim) = if victim.dirty then Some victim.position else None

-- the write that makes room in a set
abbrev pub room_write : Shape → List Slot → List (ℕ × Line)
room_write g slots = victim_write g (victim_of g.ways slots)

-- a set in which no dirty block is left to give way
abbrev pub without_dirty : List Slot → Option Slot → List Slot
without_dirty slots None = slots
without_dirty slots (Some victim) =
    if victim.dirty then with_mark slots victim.position false else slots

-- the block to give way is dirty
abbrev pub HasDirtyVictim : Shape → List Slot → Type 0
HasDirtyVictim g slots = IsSomeAnd (victim_of g.ways slots) (λ victim. victim.dirty ≡ true)

-- the write that fetching x into a bank takes
abbrev pub level_write : Shape → Banks → ℕ → ℕ → List (ℕ × Line)
level_write g banks bank x =
    if is_cached g banks bank x then [] else room_write g (slots_at g banks bank x)

-- the reads, and the digests, that fetching x into a bank takes
abbrev pub level_reads : Shape → Banks → ℕ → ℕ → ℕ
level_reads g banks bank x = if is_cached g banks bank x then 0 else 1

-- the set of x once it is fetched: it comes first, with the true line if it wasn't cached
abbrev pub fetched_set : Shape → List Line → Banks → ℕ → ℕ → List Slot
fetched_set g truth banks bank x =
    if is_cached g banks bank x then touched (slots_at g banks bank x) x
    else placed g.ways (slots_at g banks bank x) x (line_at truth x)

-- a dirty block that would give way was written to its place and is clean, and nothing else changed
pub record HasRoomMade (g : Shape) (bank x : ℕ) (old_cache new_cache : CacheState) (old new : Device) :
    Type 0 where
  pub cache :
      let slots = slots_at g old_cache.banks bank x in
      ChangesSet old_cache new_cache bank (set_index g x)
      (without_dirty slots (victim_of g.ways slots))
  pub work : HasWorked 0 (room_write g (slots_at g old_cache.banks bank x)) old new

-- position x of a bank was fetched: what was read, if it wasn't cached, is the true line and has the digest that it has to have
pub record IsLevelFetched (g : Shape) (f : Formulas) (truth : List Line) (bank x : ℕ) (old new : FetchState) :
    Type 0 where
  pub cache :
      ChangesSet old.cache new.cache bank (set_index g x) (fetched_set g truth old.cache.banks bank x)
  pub work :
      HasWorked (level_reads g old.cache.banks bank x) (level_write g old.cache.banks bank x) old.device
      new.device
  pub digests : new.digests ≡ risen_times (level_reads g old.cache.banks bank x) old.digests
  pub told :
      is_cached g old.cache.banks bank x ≡ false
      → Tells old.device.lines (meta_line g x) (line_at truth x)
  pub checked :
      is_cached g old.cache.banks bank x ≡ false
      → f.digest_of x (line_at truth x)
      ≡ expected_digest g old.device.regs.root old.cache.banks bank x

-- position x of a bank isn't cached, its line was read and a digest made, and nothing else changed
pub record IsLevelRead (g : Shape) (bank x : ℕ) (line : Line) (old new : FetchState) : Type 0 where
  pub absent : is_cached g old.cache.banks bank x ≡ false
  pub cache : new.cache ≡ old.cache
  pub work : HasWorked 1 [] old.device new.device
  pub digests : new.digests ≡ risen_times 1 old.digests
  pub tells : Tells new.device.lines (meta_line g x) line
  pub whole : IsLine line
