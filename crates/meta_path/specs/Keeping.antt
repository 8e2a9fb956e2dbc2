-- What a fetch keeps, whatever it answers.
use Rattle.std.specs.Prelude.{ℕ, ◌≡◌, ◌≢◌, ◌≤◌, ◌<◌, ◌+◌, true, false, ◌⊎◌, List, length, Option, Some, Contains, ⊤}
use Rattle.pmem_base.specs.declared.lines.Line.{Line}
use Rattle.pmem_base.specs.Shape.{Shape}
use Rattle.pmem_base.specs.Layout.{meta_line, meta_lines}
use Rattle.pmem_base.specs.Lines.{IsLine, line_at}
use Rattle.pmem_base.specs.declared.answers.Exhibit.TheVariants.{Clash}
use Rattle.suite.specs.Formulas.{Formulas}
use Rattle.bonsai_tree.specs.Nodes.{IsHashTree}
use Rattle.board.specs.Counts.{RisesBy}
use Rattle.board.specs.Device.{Device}
use Rattle.board.specs.Steps.{Tells}
use Rattle.commit_regs.specs.Groups.{redone_told}
use Rattle.seal_ledger.specs.Ledger.{LedgerState}
use Rattle.seal_ledger.specs.Notes.{HasExhibit}
use Rattle.meta_cache.specs.declared.slot.Slot.{Slot}
use Rattle.meta_cache.specs.Banks.{Banks, set_of, set_index, is_cached}
use Rattle.meta_cache.specs.Sets.{victim_of}
use Rattle.meta_path.specs.declared.faults.PathFault.{PathFault}
use Rattle.meta_path.specs.declared.faults.PathFault.TheVariants as Fault
use Rattle.meta_path.specs.Blocks.{path_at, dirty_count, AreInTheirBanks, AreCachedTrue}
use Rattle.meta_path.specs.Work.{told_line, FetchState}
use Rattle.meta_path.specs.Fetching.{absent_count}

-- a slot came in: it is that of the path's position in this bank, which wasn't cached, clean and true
pub record HasComeIn (g : Shape) (truth : List Line) (page : ℕ) (old : Banks) (bank set : ℕ) (slot : Slot) :
    Type 0 where
  pub on_path : bank ≤ g.levels
  pub position : slot.position ≡ path_at g page bank
  pub its_set : set ≡ set_index g (path_at g page bank)
  pub absent : is_cached g old bank (path_at g page bank) ≡ false
  pub clean : slot.dirty ≡ false
  pub true_line : slot.line ≡ line_at truth slot.position

-- a slot was evicted: it was the victim of its set for the path's position in this bank, which wasn't cached, and if it was dirty its line
-- stands in its place on the board
pub record HasGivenWay (g : Shape) (page : ℕ) (old new : Banks) (told : Option (List Line)) (bank set : ℕ)
    (slot : Slot) : Type 0 where
  pub on_path : bank ≤ g.levels
  pub its_set : set ≡ set_index g (path_at g page bank)
  pub absent : is_cached g old bank (path_at g page bank) ≡ false
  pub victim : victim_of g.ways (set_of old bank set) ≡ Some slot
  pub gone : is_cached g new bank slot.position ≡ false
  pub written : slot.dirty ≡ true → Tells told (meta_line g slot.position) slot.line

-- the line at a place is that of a block that was cached dirty, and which isn't cached any more
pub record WasWrittenBack (g : Shape) (old new : Banks) (told : Option (List Line)) (at : ℕ) : Type 0 where
  pub bank : ℕ
  pub set : ℕ
  pub slot : Slot
  pub was_cached : Contains (set_of old bank set) slot
  pub was_dirty : slot.dirty ≡ true
  pub gone : is_cached g new bank slot.position ≡ false
  pub place : at ≡ meta_line g slot.position
  pub line : Tells told at slot.line

-- What a fetch of the page's path keeps. Each slot was there before, unchanged, or has come in; each
-- slot that was there still is, or has given way. No other line of the board changes than those of
-- dirty blocks that gave way, and each of these takes one line write.
pub record KeepsBlocks (g : Shape) (truth : List Line) (page : ℕ) (old new : Banks) (before after : Device) :
    Type 0 where
  pub slots_now :
      (bank set : ℕ) (slot : Slot) → Contains (set_of new bank set) slot
      → Contains (set_of old bank set) slot ⊎ HasComeIn g truth page old bank set slot
  pub slots_before :
      (bank set : ℕ) (slot : Slot) → Contains (set_of old bank set) slot
      → Contains (set_of new bank set) slot ⊎ HasGivenWay g page old new after.lines bank set slot
  pub entries : List (ℕ × Line)
  pub lines : after.lines ≡ redone_told entries before.lines
  pub writes : RisesBy (length entries) before.writes after.writes
  pub one_a_level : length entries ≤ absent_count g old page (g.levels + 1)
  pub some_levels : absent_count g old page (g.levels + 1) ≤ g.levels + 1
  pub dirty : dirty_count g new + length entries ≡ dirty_count g old
  pub line_writes :
      (at : ℕ)
      → (told_line after.lines at ≡ told_line before.lines at) ⊎ WasWrittenBack g old new after.lines at
  pub size : after.size ≡ before.size
  pub regs : after.regs ≡ before.regs
  pub latches : after.latches ≡ before.latches
  pub steady : before.steady ≡ true → after.steady ≡ true
  pub in_their_banks : AreInTheirBanks g new
  pub cached_true : AreCachedTrue old truth → AreCachedTrue new truth

-- nothing was read, written or digested
pub record IsUndisturbed (old new : FetchState) : Type 0 where
  pub lines : new.device.lines ≡ old.device.lines
  pub reads : new.device.reads ≡ old.device.reads
  pub writes : new.device.writes ≡ old.device.writes
  pub latches : new.device.latches ≡ old.device.latches
  pub digests : new.digests ≡ old.digests

-- ---- if the chip is right

-- the true lines are a hash tree whose top has the root register's digest
pub record IsTrueTree (g : Shape) (f : Formulas) (truth : List Line) (root : List ℕ) : Type 0 where
  pub tree : IsHashTree g f truth
  pub root_digest : root ≡ f.digest_of 0 (line_at truth 0)

-- the board's line at x doesn't have the digest of the true line
pub record HasFalseDigest (g : Shape) (f : Formulas) (truth : List Line) (x : ℕ) (told : Option (List Line)) :
    Type 0 where
  pub line : Line
  pub whole : IsLine line
  pub on_tree : x < meta_lines g
  pub tells : Tells told (meta_line g x) line
  pub differs : f.digest_of x line ≢ f.digest_of x (line_at truth x)

-- the board's line at some x isn't the true one, but has its digest, and both are shown
pub record HasClash (g : Shape) (f : Formulas) (told : Option (List Line)) (old new : LedgerState) : Type 0 where
  pub x : ℕ
  pub line : Line
  pub whole : IsLine line
  pub on_tree : x < meta_lines g
  pub tells : Tells told (meta_line g x) line
  pub same_digest : f.digest_of x line ≡ f.digest_of x (line_at old.truth x)
  pub differs : line ≢ line_at old.truth x
  pub shown : HasExhibit old new (Clash x line (line_at old.truth x))

-- what a fault then says of the board's lines
abbrev pub IsFaultCaused : Shape → Formulas → Option (List Line) → LedgerState → LedgerState → PathFault → Type 0
IsFaultCaused g f told old new Fault.Cut = ⊤
IsFaultCaused g f told old new (Fault.Meta x) = HasFalseDigest g f old.truth x told
IsFaultCaused g f told old new Fault.Shown = HasClash g f told old new
