-- What a world holds depends on these parts of it.
use Rattle.std.proofs.Common.{◌≡◌, sym, subst}
use Rattle.pmem_base.specs.Shape.{Shape}
use Rattle.pmem_base.specs.declared.answers.Stat.{Stat}
use Rattle.std.specs.Prelude.{Option, Some, None}
use Rattle.board.specs.Memory.{BoardMemory}
use Rattle.seal_ledger.specs.Ledger.{LedgerState}
use Rattle.suite.specs.Setup.{Setup}
use Rattle.plain_model.specs.State.{PlainState}
use Rattle.pmem_engine.specs.Engine.{EngineState}
use Rattle.pmem_replay.specs.World.{WorldState, IsWorld, IsPowered}

-- the same but for the keys, the suite's counts and whether an exhibit was shown
pub record IsSameWorld (one other : WorldState) : Type 0 where
  pub shape : other.shape ≡ one.shape
  pub start : other.start ≡ one.start
  pub board : other.board ≡ one.board
  pub ledger : other.ledger ≡ one.ledger
  pub engine : other.engine ≡ one.engine
  pub state : other.state ≡ one.state

pub same_world : (setup : Setup) (one other : WorldState) → IsSameWorld one other → IsWorld setup one → IsWorld setup other
same_world setup one other same whole =
    let first : IsWorld setup (record other { shape = one.shape; start = one.start; board = one.board; ledger = one.ledger; engine = one.engine; state = one.state }) =
    record {
      its_shape = whole.its_shape;
      whole_shape = whole.whole_shape;
      whole_formulas = whole.whole_formulas;
      whole_lines = whole.whole_lines;
      memory = whole.memory;
      chip = chip one.engine whole.chip;
      kept = whole.kept;
      flags = whole.flags;
      queues = whole.queues;
      board = whole.board;
      steps = whole.steps;
    } in
    let second = subst (λ (s : PlainState). IsWorld setup (record other { shape = one.shape; start = one.start; board = one.board; ledger = one.ledger; engine = one.engine; state = s })) (sym same.state) first in
    let third = subst (λ (e : Option EngineState). IsWorld setup (record other { shape = one.shape; start = one.start; board = one.board; ledger = one.ledger; engine = e })) (sym same.engine) second in
    let fourth = subst (λ (l : LedgerState). IsWorld setup (record other { shape = one.shape; start = one.start; board = one.board; ledger = l })) (sym same.ledger) third in
    let fifth = subst (λ (b : BoardMemory). IsWorld setup (record other { shape = one.shape; start = one.start; board = b })) (sym same.board) fourth in
    let sixth = subst (λ (c : Stat). IsWorld setup (record other { shape = one.shape; start = c })) (sym same.start) fifth in
    subst (λ (g : Shape). IsWorld setup (record other { shape = g })) (sym same.shape) sixth
  where
    chip : (engine : Option EngineState) → IsPowered setup one engine
        → IsPowered setup (record other { shape = one.shape; start = one.start; board = one.board; ledger = one.ledger; engine = one.engine; state = one.state }) engine
    chip None off = record { unpowered = off.unpowered; anchored = off.anchored; durable = off.durable }
    chip (Some engine) on =
        record {
          powered = on.powered;
          up = on.up;
          trusted = on.trusted;
          sound = on.sound;
          whole_cache = on.whole_cache;
          metadata = on.metadata;
          dirty = on.dirty;
        }
