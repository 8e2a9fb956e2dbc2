-- Chains of legal replies that fit the device view, as a whole program gives them.
use Rattle.std.specs.Prelude.{List, [], ◌∷◌, IsFalse, ⊤}
use Rattle.pmem_base.specs.declared.commands.Command.{Command}
use Rattle.suite.specs.Setup.{Setup}
use Rattle.plain_model.specs.State.{PlainState, Reply}
use Rattle.plain_model.specs.View.{DeviceView, view_after_marks}
use Rattle.plain_model.specs.After.{state_after}
use Rattle.plain_model.specs.Fits.{Fits}
use Rattle.plain_model.specs.Shown.{IsLegal}
use Rattle.plain_model.specs.Answers.{is_shown}

-- if commands follow, the reply isn't an exhibit
abbrev pub MayGoOn : Reply → List Command → Type 0
MayGoOn reply [] = ⊤
MayGoOn reply (command ∷ commands) = IsFalse (is_shown reply.answer)

-- each command has a reply that is legal and fits after those before it, and only the last may be
-- an exhibit
abbrev pub IsChain : Setup → PlainState → DeviceView → List Command → List Reply → Type 0
IsChain setup state view [] [] = ⊤
IsChain setup state view [] (reply ∷ replies) = ⊥
IsChain setup state view (command ∷ commands) [] = ⊥
IsChain setup state view (command ∷ commands) (reply ∷ replies) =
    IsLegal setup state view command reply
    × Fits setup state view command reply
    × MayGoOn reply commands
    × IsChain setup
    (state_after setup.shape state command reply)
    (view_after_marks view reply.marks)
    commands replies
