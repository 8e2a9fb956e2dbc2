-- The grammar of a session of transactions: what one line asks for.
use Rattle.std.specs.Prelude.{ℕ, List, [], ◌∷◌, codes, Option, Result}
use Rattle.pmem_base.specs.declared.commands.Kind.{Kind}
use Rattle.collision_witness.specs.Words.{Word}
use Rattle.plain_model.specs.Grammar.{alone, with_number}
use Rattle.trace_text.specs.Entries.{reading_by, sort_of_reading, with_number_and_line, command_by_verb}
use Rattle.txn_session.specs.declared.commands.TxnCommand.{TxnCommand}
use Rattle.txn_session.specs.declared.commands.TxnCommand.TheVariants as Do
use Rattle.trace_text.specs.Talks.{Sort}

-- ---- the words of each command

-- the first words that begin a command
pub data TxnVerb : Type 0 where
  begin : TxnVerb
  put : TxnVerb
  commit : TxnVerb
  abort : TxnVerb
  read : TxnVerb
  cut : TxnVerb
  off : TxnVerb
  on : TxnVerb

-- all of them, as they are written
abbrev pub txn_verbs : List (Word × TxnVerb)
txn_verbs =
    (codes "begin", begin) ∷ (codes "put", put) ∷ (codes "commit", commit) ∷ (codes "abort", abort)
    ∷ (codes "read", read) ∷ (codes "cut", cut) ∷ (codes "off", off) ∷ (codes "on", on) ∷ []

-- ---- the commands of these words

-- the command of a verb and its further words: the number of words first, then the first word from
-- the left that breaks its rule
abbrev pub txn_command_of_verb : TxnVerb → List Word → Result TxnCommand Kind
txn_command_of_verb begin words = alone Do.Begin words
txn_command_of_verb put words = with_number_and_line Do.Put words
txn_command_of_verb commit words = alone Do.Commit words
txn_command_of_verb abort words = alone Do.Abort words
txn_command_of_verb read words = with_number Do.Read words
txn_command_of_verb cut words = with_number Do.Cut words
txn_command_of_verb off words = alone Do.Off words
txn_command_of_verb on words = alone Do.On words

-- the command of a first word and of those after it
unfoldable pub txn_command_of : Word → List Word → Result TxnCommand Kind
txn_command_of name words = command_by_verb txn_command_of_verb txn_verbs name words

-- ---- a line

-- what a line asks for; its bytes are those before its LF or the trace's end
abbrev pub reading_of_txn : List ℕ → Result (Option TxnCommand) Kind
reading_of_txn line = reading_by txn_command_of line

abbrev pub sort_of_txn : List ℕ → Sort
sort_of_txn line = sort_of_reading (reading_of_txn line)
