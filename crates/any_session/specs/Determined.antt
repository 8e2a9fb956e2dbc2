-- That what comes of a line told leaves nothing open: of two outcomes of one line in one session, both are the same.
use Rattle.std.specs.Prelude.{◌≡◌, ⊤, ℕ, false, List}
use Rattle.any_suite.specs.Kinds.{any_formulas}
use Rattle.pmem_replay.specs.Determined.{AreSameWorlds}
use Rattle.pmem_replay.specs.World.{IsWorld, setup_of_world}
use Rattle.any_session.specs.declared.Told.{Told}
use Rattle.any_session.specs.declared.Told.TheVariants.{Replied, NoMemory}
use Rattle.any_session.specs.declared.kinds.AnySession.{AnySession}
use Rattle.any_session.specs.declared.kinds.AnySession.TheVariants.{Run}
use Rattle.any_session.specs.Kinds.{IsTold}

-- memory was there for the answer and for its text
abbrev pub IsWhole : Told → Type 0
IsWhole NoMemory = ⊥
IsWhole (Replied over false) = ⊥
IsWhole told = ⊤

-- what the world of a run always keeps before an exhibit
abbrev pub IsHeld : AnySession → Type 0
IsHeld (Run its) = its.world.shown ≡ false → IsWorld (setup_of_world any_formulas its.world) its.world
IsHeld any = ⊤

-- The same session. Of a run it is all of the world but how many marks there is room for.
abbrev pub AreSame : AnySession → AnySession → Type 0
AreSame (Run a) (Run b) = (a.logged ≡ b.logged) × AreSameWorlds a.world b.world
AreSame a b = a ≡ b

abbrev pub ToldIsDetermined : Type 0
ToldIsDetermined =
    (old a b : AnySession) (line : List ℕ) (first second : Told) (text other : List ℕ) → IsHeld old → IsTold old line first text a
    → IsTold old line second other b → IsWhole first → IsWhole second → (first ≡ second) × (text ≡ other) × AreSame a b
