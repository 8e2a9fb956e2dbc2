-- The world behind a run, and what it always holds until an answer was an exhibit.
use Rattle.std.specs.Prelude.{ℕ, ◌≡◌, ◌≢◌, ◌≤◌, ◌<◌, ◌+◌, Bool, true, false, List, Option, Some, None, length, is_some, All, IsTrue, IfSome}
use Rattle.pmem_base.specs.declared.lines.Line.{Line}
use Rattle.pmem_base.specs.declared.commands.Posted.{Posted}
use Rattle.pmem_base.specs.declared.answers.Mark.{Mark}
use Rattle.pmem_base.specs.declared.answers.Stat.{Stat}
use Rattle.pmem_base.specs.Counts.{last_count}
use Rattle.pmem_base.specs.Shape.{Shape, IsShape, is_lazy}
use Rattle.pmem_base.specs.Layout as layout
use Rattle.pmem_base.specs.Lines.{line_at}
use Rattle.pmem_base.specs.Marks.{last_seal}
use Rattle.bonsai_tree.specs.Positions.{counter_position, level_of}
use Rattle.board.specs.Device.{AreLinesOf}
use Rattle.board.specs.Memory.{BoardMemory}
use Rattle.seal_ledger.specs.Ledger.{LedgerState}
use Rattle.commit_regs.specs.Groups.{redone}
use Rattle.write_ports.specs.Queues.{ArePorts}
use Rattle.meta_cache.specs.Banks.{IsBanksOf, is_cached_dirty}
use Rattle.suite.specs.Formulas.{Formulas, AreInRange}
use Rattle.suite.specs.Setup.{Setup}
use Rattle.plain_model.specs.State.{PlainState, is_flagged, has_flags}
use Rattle.plain_model.specs.View.{DeviceView, IsMemoryOf, view_of, plain_memory}
use Rattle.plain_model.specs.Bounds.{can_be_dirty, group_bound}
use Rattle.pmem_replay.specs.Flagged.{Tampering, Dirtying}
use Rattle.pmem_engine.specs.Engine.{EngineState, on_chip}
use Rattle.pmem_engine.specs.Recached.{IsTrueOrDirty}
use Rattle.pmem_engine.specs.Invariants.{IsAnchored, IsTrusted, IsDurable, IsSound, IsSealStored, IsCounterStored, stored_meta}

-- the geometry and the keys; the plain machine that the world stands for; the device with its
-- registers, power, fuse and snapshot; marks and truth; how many marks there is room for in all; the
-- engine while power is on; the suite's tags and digests; the counts as formatting ended; whether an
-- answer was an exhibit
pub record WorldState : Type 0 where
  pub shape : Shape
  pub keys : List ℕ
  pub state : PlainState
  pub board : BoardMemory
  pub ledger : LedgerState
  pub capacity : ℕ
  pub engine : Option EngineState
  pub tags : ℕ
  pub digests : ℕ
  pub start : Stat
  pub shown : Bool

-- the geometry, and a suite's formulas under the world's keys
abbrev pub setup_of_world : (List ℕ → Formulas) → WorldState → Setup
setup_of_world formulas_of world = record { shape = world.shape; formulas = formulas_of world.keys }

-- what the world's marks say
abbrev pub view_in : Setup → WorldState → DeviceView
view_in setup world = view_of setup.shape world.ledger.marks

-- the device's lines with the armed group redone
abbrev pub lines_in : WorldState → List Line
lines_in world = redone world.board.regs.group.items world.board.lines

-- ---- a world of its parts

-- what the program keeps of a world next to the geometry
pub record WorldParts : Type 0 where
  pub keys : List ℕ
  pub board : BoardMemory
  pub ledger : LedgerState
  pub capacity : ℕ
  pub engine : Option EngineState
  pub tags : ℕ
  pub digests : ℕ
  pub queues : List (List Posted)
  pub tampering : Tampering
  pub dirtying : Dirtying
  pub steps : ℕ
  pub start : Stat
  pub shown : Bool

-- the plain machine that these stand for
abbrev pub state_in : Setup → WorldParts → PlainState
state_in setup parts =
    record {
      memory = plain_memory setup parts.ledger.marks;
      queues = parts.queues;
      power = parts.board.powered;
      snapped = is_some parts.board.snapshot;
      fuse = parts.board.fuse;
      steps = parts.steps;
      named = parts.tampering.named;
      hurt = parts.tampering.hurt;
      spoiled = parts.tampering.spoiled;
      loose = parts.tampering.loose;
      touched = parts.dirtying.touched;
      flushed = parts.dirtying.flushed;
      loss = parts.board.regs.loss;
    }

abbrev pub world_of : Setup → WorldParts → WorldState
world_of setup parts =
    record {
      shape = setup.shape;
      keys = parts.keys;
      state = state_in setup parts;
      board = parts.board;
      ledger = parts.ledger;
      capacity = parts.capacity;
      engine = parts.engine;
      tags = parts.tags;
      digests = parts.digests;
      start = parts.start;
      shown = parts.shown;
    }

-- ---- parts of what it holds

-- the line isn't the cipher that data line a was last sealed as
abbrev pub IsOtherCipher : List Mark → ℕ → Line → Type 0
IsOtherCipher marks a line = IfSome (last_seal marks a) (λ seal. line ≢ seal.cipher)

-- what the device's lines keep, place by place: the last seal of a line that isn't hurt, no last seal
-- of a spoiled line, what can be mended of a counter block that isn't named while nothing is loose, and the true line of
-- each position of a strict level that isn't named
pub record AreKept (setup : Setup) (state : PlainState) (lines : List Line) (loss : ℕ)
    (ledger : LedgerState) : Type 0 where
  pub seals :
      (a : ℕ) → a < layout.data_lines setup.shape → is_flagged state.hurt a ≡ false
      → IsSealStored setup.shape lines ledger.marks a
  pub spoiled :
      (a : ℕ) → a < layout.data_lines setup.shape → is_flagged state.spoiled a ≡ true
      → IsOtherCipher ledger.marks a (line_at lines a)
  pub counters :
      state.loose ≡ false → (page : ℕ) → page < layout.pages setup.shape
      → is_flagged state.named (layout.meta_line setup.shape (counter_position setup.shape page)) ≡ false
      → IsCounterStored setup lines loss ledger.truth page
  pub strict :
      (x : ℕ) → x < layout.meta_lines setup.shape → is_lazy setup.shape (level_of x) ≡ false
      → is_flagged state.named (layout.meta_line setup.shape x) ≡ false
      → stored_meta setup.shape lines x ≡ line_at ledger.truth x

-- with power on the engine is up and the chip is trusted, and all is sound if no line was tampered with; while nothing is loose a metadata
-- line that isn't named is true on the device or cached dirty; and only a block of a touched page that wasn't flushed is dirty
pub record IsOn (setup : Setup) (world : WorldState) (engine : EngineState) : Type 0 where
  pub powered : world.state.power ≡ true
  pub up : engine.down ≡ false
  pub trusted : IsTrusted setup (on_chip engine) world.board.regs world.ledger
  pub sound :
      has_flags world.state.named ≡ false
      → IsSound setup (on_chip engine) world.board.lines world.board.regs world.ledger
  pub whole_cache : IsBanksOf setup.shape engine.cache
  pub metadata :
      world.state.loose ≡ false → (x : ℕ) → x < layout.meta_lines setup.shape
      → is_flagged world.state.named (layout.meta_line setup.shape x) ≡ false
      → IsTrueOrDirty setup.shape engine.cache (lines_in world) world.ledger.truth x
  pub dirty :
      (bank x : ℕ) → is_cached_dirty setup.shape engine.cache bank x ≡ true
      → IsTrue (can_be_dirty setup.shape world.state x)

-- with power off the registers are anchored, and the device is durable if no line was tampered with
pub record IsOff (setup : Setup) (world : WorldState) : Type 0 where
  pub unpowered : world.state.power ≡ false
  pub anchored : IsAnchored setup world.board.regs world.ledger
  pub durable :
      has_flags world.state.named ≡ false
      → IsDurable setup world.board.lines world.board.regs world.ledger

-- the engine is there exactly while power is on
abbrev pub IsPowered : Setup → WorldState → Option EngineState → Type 0
IsPowered setup world None = IsOff setup world
IsPowered setup world (Some engine) = IsOn setup world engine

-- there is a flag for each device line, data line, page or position
pub record HasFlags (g : Shape) (state : PlainState) : Type 0 where
  pub named : length state.named ≡ layout.device_lines g
  pub hurt : length state.hurt ≡ layout.data_lines g
  pub spoiled : length state.spoiled ≡ layout.data_lines g
  pub touched : length state.touched ≡ layout.pages g
  pub flushed : length state.flushed ≡ layout.meta_lines g

-- eight queues of writes to data lines
pub record HasQueues (g : Shape) (state : PlainState) : Type 0 where
  pub ports : ArePorts state.queues
  pub on_memory : All (λ queue. All (λ write. write.at < layout.data_lines g) queue) state.queues

-- the board's power, fuse, snapshot and stop-loss number are the state's
pub record HasBoard (g : Shape) (state : PlainState) (board : BoardMemory) : Type 0 where
  pub power : board.powered ≡ state.power
  pub fuse : board.fuse ≡ state.fuse
  pub snapped : is_some board.snapshot ≡ state.snapped
  pub loss : board.regs.loss ≡ state.loss
  pub few_armed : length board.regs.group.items ≤ group_bound g

-- the counts of line writes and latches stand below their end
pub record AreExact (board : BoardMemory) : Type 0 where
  pub writes : board.writes < last_count
  pub latches : board.latches < last_count

-- the steps are the line writes and latches since formatting ended
pub record HasSteps (state : PlainState) (board : BoardMemory) (start : Stat) : Type 0 where
  pub in_range : state.steps ≤ last_count
  pub reads : start.reads ≤ board.reads
  pub writes : start.writes ≤ board.writes
  pub latches : start.latches ≤ board.latches
  pub sum :
      AreExact board → state.steps < last_count
      → start.writes + start.latches + state.steps ≡ board.writes + board.latches

-- ---- the whole

pub record IsWorld (setup : Setup) (world : WorldState) : Type 0 where
  pub its_shape : world.shape ≡ setup.shape
  pub whole_shape : IsShape setup.shape
  pub whole_formulas : AreInRange setup.formulas
  pub whole_lines : AreLinesOf (layout.device_lines setup.shape) world.board.lines
  pub memory : IsMemoryOf setup world.ledger.marks world.state.memory
  pub chip : IsPowered setup world world.engine
  pub kept : AreKept setup world.state (lines_in world) world.board.regs.loss world.ledger
  pub flags : HasFlags setup.shape world.state
  pub queues : HasQueues setup.shape world.state
  pub board : HasBoard setup.shape world.state world.board
  pub steps : HasSteps world.state world.board world.start
