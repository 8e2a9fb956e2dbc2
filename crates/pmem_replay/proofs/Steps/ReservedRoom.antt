-- Room for marks changes nothing that a world holds.
use Rattle.std.proofs.Common.{rules}
use Rattle.std.proofs.Common.{ℕ, ◌≤◌, Option, Some, None, refl, arith}
use Rattle.seal_ledger.specs.Notes.{HasRoom}
use Rattle.suite.specs.Setup.{Setup}
use Rattle.pmem_engine.specs.Engine.{EngineState}
use Rattle.pmem_replay.specs.World.{WorldState, WorldParts, IsWorld, IsPowered, world_of}
use Rattle.pmem_replay.specs.Given.{HasMarkRoom}
use Rattle.pmem_replay.proofs.Table.UnchangedSteps.{IsGoingOn}

-- the room there is
pub same_room : (capacity : ℕ) → capacity ≤ capacity
same_room capacity = omega arith

roomy_power : (setup : Setup) (world : WorldState) (capacity : ℕ) (engine : Option EngineState)
    → IsPowered setup world engine → IsPowered setup (record world { capacity = capacity }) engine
roomy_power setup world capacity None off = record { unpowered = off.unpowered; anchored = off.anchored; durable = off.durable }
roomy_power setup world capacity (Some engine) on =
    record {
      powered = on.powered;
      up = on.up;
      trusted = on.trusted;
      sound = on.sound;
      whole_cache = on.whole_cache;
      metadata = on.metadata;
      dirty = on.dirty;
    }

-- a world with more room is one
pub roomy_world : (setup : Setup) (world : WorldState) (capacity : ℕ) → IsWorld setup world → IsWorld setup (record world { capacity = capacity })
roomy_world setup world capacity whole = search (rules, roomy_power)

-- a world in which room was made
pub room_made : (setup : Setup) (p : WorldParts) (capacity n : ℕ) → p.capacity ≤ capacity → HasRoom p.ledger capacity n
    → IsGoingOn setup (world_of setup p) → HasMarkRoom setup (world_of setup p) n (world_of setup (record p { capacity = capacity }))
room_made setup p capacity n grown room going =
    record { same = refl; never_falls = grown; room = room; holds = roomy_world setup (world_of setup p) capacity going.whole }
