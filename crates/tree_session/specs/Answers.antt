-- The texts of the answers of a session over a counter tree.
use Rattle.std.specs.Prelude.{ℕ, List, [], ◌∷◌, codes, decimal}
use Rattle.collision_witness.specs.Words.{Word}
use Rattle.collision_witness.specs.Texts.{sentence, line_text, hex_text}
use Rattle.tree_session.specs.declared.answers.TreeAnswer.{TreeAnswer}
use Rattle.tree_session.specs.declared.answers.TreeAnswer.TheVariants as Say

abbrev pub tree_words : TreeAnswer → List Word
tree_words Say.Ok = codes "ok" ∷ []
tree_words Say.Off = codes "off" ∷ []
tree_words Say.Already = codes "already" ∷ []
tree_words Say.Range = codes "range" ∷ []
tree_words Say.NoSnap = codes "none" ∷ []
tree_words (Say.Written steps) = codes "ok" ∷ decimal steps ∷ []
tree_words (Say.Got line steps) = codes "line" ∷ line_text line ∷ decimal steps ∷ []
tree_words (Say.Recovered digests steps) = codes "on" ∷ decimal digests ∷ decimal steps ∷ []
tree_words (Say.RefusedNode x steps) =
    codes "refused" ∷ codes "node" ∷ decimal x ∷ decimal steps ∷ []
tree_words (Say.RefusedData at steps) =
    codes "refused" ∷ codes "data" ∷ decimal at ∷ decimal steps ∷ []
tree_words (Say.RefusedShadow kept found steps) =
    codes "refused" ∷ codes "shadow" ∷ hex_text kept ∷ hex_text found ∷ decimal steps ∷ []
tree_words (Say.Spent steps) = codes "spent" ∷ decimal steps ∷ []
tree_words (Say.CutKept steps) = codes "cut" ∷ codes "kept" ∷ decimal steps ∷ []
tree_words (Say.CutLost steps) = codes "cut" ∷ codes "lost" ∷ decimal steps ∷ []
tree_words (Say.Cut steps) = codes "cut" ∷ decimal steps ∷ []

unfoldable pub tree_text : TreeAnswer → List ℕ
tree_text answer = sentence (tree_words answer)
