-- The texts of the answers of a memory that is written by transactions.
use Rattle.std.specs.Prelude.{ℕ, List, [], ◌∷◌, codes, decimal}
use Rattle.collision_witness.specs.Words.{Word}
use Rattle.collision_witness.specs.Texts.{sentence, line_text}
use Rattle.txn_session.specs.declared.answers.TxnAnswer.{TxnAnswer}
use Rattle.txn_session.specs.declared.answers.TxnAnswer.TheVariants as Say

abbrev pub txn_words : TxnAnswer → List Word
txn_words Say.Ok = codes "ok" ∷ []
txn_words Say.Off = codes "off" ∷ []
txn_words Say.Already = codes "already" ∷ []
txn_words (Say.Blocked page) = codes "stuck" ∷ decimal page ∷ []
txn_words Say.Busy = codes "busy" ∷ []
txn_words Say.Closed = codes "closed" ∷ []
txn_words Say.Range = codes "range" ∷ []
txn_words Say.Full = codes "full" ∷ []
txn_words (Say.Applied steps) = codes "ok" ∷ decimal steps ∷ []
txn_words (Say.Stuck page steps) = codes "stuck" ∷ decimal page ∷ decimal steps ∷ []
txn_words (Say.Spent page steps) = codes "spent" ∷ decimal page ∷ decimal steps ∷ []
txn_words (Say.CutKept steps) = codes "cut" ∷ codes "kept" ∷ decimal steps ∷ []
txn_words (Say.CutLost steps) = codes "cut" ∷ codes "lost" ∷ decimal steps ∷ []
txn_words (Say.Cut steps) = codes "cut" ∷ decimal steps ∷ []
txn_words (Say.Got line steps) = codes "line" ∷ line_text line ∷ decimal steps ∷ []
txn_words (Say.Opened redone steps) = codes "on" ∷ decimal redone ∷ decimal steps ∷ []

unfoldable pub txn_text : TxnAnswer → List ℕ
txn_text answer = sentence (txn_words answer)
