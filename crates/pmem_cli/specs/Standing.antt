-- Where a run stands between two commands, and how it goes on.
use Rattle.std.specs.Prelude.{◌≡◌, ◌⊎◌, ℕ, false, List, [], ◌∷◌}
use Rattle.suite.specs.Formulas.{Formulas}
use Rattle.suite.specs.Setup.{Setup}
use Rattle.plain_model.specs.declared.Stop.{Stop}
use Rattle.plain_model.specs.declared.Stop.TheVariants.{Memory}
use Rattle.plain_model.specs.Run.{Machine, Step, machine_after_all}
use Rattle.pmem_replay.specs.World.{WorldState, setup_of_world, view_in}
use Rattle.pmem_replay.specs.Stepped.{HasFormatWork, IsNewWorld, HasStepped, AddsFewSteps}

-- what stays the same through the run, the plain machine, and the world that stands for it
pub record Standing : Type 0 where
  pub setup : Setup
  pub machine : Machine
  pub world : WorldState

-- as a world stands for it, whose suite has these formulas
abbrev pub standing_of : (List ℕ → Formulas) → WorldState → Standing
standing_of formulas_of world =
    record {
      setup = setup_of_world formulas_of world;
      machine = record { state = world.state; view = view_in (setup_of_world formulas_of world) world };
      world = world;
    }

-- the world answered a command, in few persist steps
pub record IsWorldStep (setup : Setup) (world : WorldState) (step : Step) (next : WorldState) : Type 0 where
  pub stepped : HasStepped setup world step.command step.reply next
  pub few : AddsFewSteps world next

-- each of these commands was answered by the world that the ones before it left
abbrev pub AreStepped : Setup → WorldState → List Step → WorldState → Type 0
AreStepped setup world [] last = last ≡ world
AreStepped setup world (step ∷ steps) last =
    (next : WorldState) × IsWorldStep setup world step next × AreStepped setup next steps last

-- the world that a run begins with: a formatted one, whose suite had made nothing before
pub record IsFirstWorld (setup : Setup) (world : WorldState) : Type 0 where
  pub new : IsNewWorld setup world
  pub work : HasFormatWork setup.shape 0 0 world

-- a formatted world answered them, or memory was needed for it and none was answered
abbrev pub IsReplayed : Setup → Stop → List Step → Type 0
IsReplayed setup stop steps =
    ((stop ≡ Memory) × (steps ≡ [])) ⊎ ((first last : WorldState) × IsFirstWorld setup first × AreStepped setup first steps last)

-- the run went on by these steps
pub record StandingAfter (before after : Standing) (steps : List Step) : Type 0 where
  pub setup : after.setup ≡ before.setup
  pub machine : after.machine ≡ machine_after_all before.setup before.machine steps
  pub running : after.world.shown ≡ false
  pub chain : AreStepped before.setup before.world steps after.world
