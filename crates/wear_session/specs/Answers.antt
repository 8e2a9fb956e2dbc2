-- The texts of a levelled memory's answers.
use Rattle.std.specs.Prelude.{ℕ, List, [], ◌∷◌, codes, decimal}
use Rattle.collision_witness.specs.Words.{Word}
use Rattle.collision_witness.specs.Texts.{sentence, line_text}
use Rattle.wear_session.specs.declared.answers.WearAnswer.{WearAnswer}
use Rattle.wear_session.specs.declared.answers.WearAnswer.TheVariants as Say

abbrev pub wear_words : WearAnswer → List Word
wear_words Say.Ok = codes "ok" ∷ []
wear_words Say.Off = codes "off" ∷ []
wear_words Say.Already = codes "already" ∷ []
wear_words Say.Range = codes "range" ∷ []
wear_words (Say.Written steps) = codes "ok" ∷ decimal steps ∷ []
wear_words (Say.Held page steps) = codes "held" ∷ decimal page ∷ decimal steps ∷ []
wear_words (Say.Spent page steps) = codes "spent" ∷ decimal page ∷ decimal steps ∷ []
wear_words (Say.CutKept steps) = codes "cut" ∷ codes "kept" ∷ decimal steps ∷ []
wear_words (Say.CutLost steps) = codes "cut" ∷ codes "lost" ∷ decimal steps ∷ []
wear_words (Say.Cut steps) = codes "cut" ∷ decimal steps ∷ []
wear_words (Say.Got line steps) = codes "line" ∷ line_text line ∷ decimal steps ∷ []
wear_words (Say.At place) = codes "at" ∷ decimal place ∷ []
wear_words (Say.Opened start gap steps) =
    codes "on" ∷ decimal start ∷ decimal gap ∷ decimal steps ∷ []

unfoldable pub wear_text : WearAnswer → List ℕ
wear_text answer = sentence (wear_words answer)
