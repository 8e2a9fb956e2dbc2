-- What fetching a node or a data line does, by its answer.
use Rattle.std.specs.Prelude.{ℕ, ◌≡◌, ◌≢◌, true, false, Some, None, Result, Ok, Err, IfSome}
use Rattle.pmem_base.specs.declared.lines.Line.{Line}
use Rattle.pmem_base.specs.declared.answers.Exhibit.TheVariants.{Forged}
use Rattle.pmem_base.specs.Lines.{tag_slot, xor_lines}
use Rattle.suite.specs.Setup.{Setup}
use Rattle.board.specs.Device.{Device}
use Rattle.board.specs.Steps.{HasRead, WasCut}
use Rattle.counter_tree.specs.declared.nodes.Node.{Node}
use Rattle.counter_tree.specs.declared.accepted.FetchFault.{FetchFault}
use Rattle.counter_tree.specs.declared.accepted.FetchFault.TheVariants as Fail
use Rattle.counter_tree.specs.Nodes.{version_counter, node_read}
use Rattle.counter_tree.specs.Layout.{line_of_node, line_of_tag}
use Rattle.counter_tree.specs.Trees.{node_at}
use Rattle.counter_tree.specs.Watch.{WatchState, last_seal_of, HasShown, forged_node}

-- ---- a node

-- A cut comes only of a board that had no power. A node that goes on is the true one.
pub record IsNodeAccepted (setup : Setup) (x version : ℕ) (old new : Device) (watch after : WatchState) (node : Node) : Type 0 where
  pub line : Line
  pub read : HasRead old (line_of_node setup.shape x) line new
  pub accepted : node_read setup.formulas x line version ≡ Some node
  pub seen : node ≡ node_at watch.nodes x
  pub watch_kept : after ≡ watch

-- a line that isn't that of a node of this version
pub record IsNodeUnaccepted (setup : Setup) (x version : ℕ) (old new : Device) (watch after : WatchState) : Type 0 where
  pub line : Line
  pub read : HasRead old (line_of_node setup.shape x) line new
  pub refused : node_read setup.formulas x line version ≡ None
  pub watch_kept : after ≡ watch

-- a line that is that of another node of this version
pub record IsNodeForged (setup : Setup) (x version : ℕ) (old new : Device) (watch after : WatchState) : Type 0 where
  pub line : Line
  pub node : Node
  pub read : HasRead old (line_of_node setup.shape x) line new
  pub accepted : node_read setup.formulas x line version ≡ Some node
  pub other : node ≢ node_at watch.nodes x
  pub exhibit : HasShown watch after (forged_node watch x line)

-- what fetching a node does
abbrev pub IsNodeFetched : Setup → ℕ → ℕ → Device → Device → WatchState → WatchState → Result Node FetchFault → Type 0
IsNodeFetched setup x version old new watch after (Ok node) = IsNodeAccepted setup x version old new watch after node
IsNodeFetched setup x version old new watch after (Err Fail.Cut) = WasCut old new × (old.live ≡ false) × (after ≡ watch)
IsNodeFetched setup x version old new watch after (Err Fail.Refused) = IsNodeUnaccepted setup x version old new watch after
IsNodeFetched setup x version old new watch after (Err Fail.Shown) = IsNodeForged setup x version old new watch after

-- ---- a data line

-- its line and its tag line were read
pub record HasLineRead (setup : Setup) (a : ℕ) (cipher tags : Line) (old new : Device) : Type 0 where
  pub between : Device
  pub first : HasRead old a cipher between
  pub second : HasRead between (line_of_tag setup.shape a) tags new

-- a cut before a read, or after one and before the next call
pub record IsCutReading (old new : Device) : Type 0 where
  pub between : Device
  pub cut : WasCut between new
  pub lines : between.lines ≡ old.lines
  pub regs : between.regs ≡ old.regs
  pub size : between.size ≡ old.size
  pub writes : between.writes ≡ old.writes
  pub latches : between.latches ≡ old.latches
  pub cuts : between.cuts ≡ old.cuts
  pub steady : old.steady ≡ true → between.steady ≡ true

pub record IsLineAccepted (setup : Setup) (a counter : ℕ) (old new : Device) (watch after : WatchState) (plain : Line) : Type 0 where
  pub cipher : Line
  pub tags : Line
  pub read : HasLineRead setup a cipher tags old new
  pub fits : setup.formulas.tag_of a (version_counter counter) cipher ≡ tag_slot tags 0
  pub its_plain : plain ≡ xor_lines cipher (setup.formulas.pad_of a (version_counter counter))
  pub seen : IfSome (last_seal_of watch a) (λ seal. cipher ≡ seal.cipher)
  pub watch_kept : after ≡ watch

pub record IsLineUnaccepted (setup : Setup) (a counter : ℕ) (old new : Device) (watch after : WatchState) : Type 0 where
  pub cipher : Line
  pub tags : Line
  pub read : HasLineRead setup a cipher tags old new
  pub fails : setup.formulas.tag_of a (version_counter counter) cipher ≢ tag_slot tags 0
  pub watch_kept : after ≡ watch

pub record IsLineForged (setup : Setup) (a counter : ℕ) (old new : Device) (watch after : WatchState) : Type 0 where
  pub cipher : Line
  pub tags : Line
  pub read : HasLineRead setup a cipher tags old new
  pub fits : setup.formulas.tag_of a (version_counter counter) cipher ≡ tag_slot tags 0
  pub exhibit :
      IfSome (last_seal_of watch a)
      (λ seal.
      (cipher ≢ seal.cipher)
      × HasShown watch after (Forged a (version_counter seal.counter) cipher (tag_slot tags 0)))

abbrev pub IsLineFetched : Setup → ℕ → ℕ → Device → Device → WatchState → WatchState → Result Line FetchFault → Type 0
IsLineFetched setup a counter old new watch after (Ok plain) = IsLineAccepted setup a counter old new watch after plain
IsLineFetched setup a counter old new watch after (Err Fail.Cut) = IsCutReading old new × (old.live ≡ false) × (after ≡ watch)
IsLineFetched setup a counter old new watch after (Err Fail.Refused) = IsLineUnaccepted setup a counter old new watch after
IsLineFetched setup a counter old new watch after (Err Fail.Shown) = IsLineForged setup a counter old new watch after
