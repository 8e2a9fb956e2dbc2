-- What a session's answers promise: in each chain of them from the beginning on a read shows zeros changed by the
-- transactions that were written, each whole and in order, recovery that isn't cut succeeds or is stuck, and what
-- is refused is refused as used up.
use Rattle.std.specs.Prelude.{ℕ, ◌≡◌, ◌≤◌, ◌<◌, List, [], ◌∷◌, length, replicate, slice_get, Option, Some, None, option_map, unwrap_or, MatchOption, All, ⊤}
use Rattle.pmem_base.specs.declared.commands.Posted.{Posted}
use Rattle.pmem_base.specs.Lines.{line_at, put_lines, zero_line}
use Rattle.pmem_base.specs.Layout.{page_of}
use Rattle.suite.specs.Setup.{Setup}
use Rattle.plain_model.specs.State.{Memory}
use Rattle.plain_model.specs.Fits.{next_marks}
use Rattle.line_txn.specs.Store.{logged_lines}
use Rattle.txn_session.specs.declared.commands.TxnCommand.{TxnCommand}
use Rattle.txn_session.specs.declared.commands.TxnCommand.TheVariants as Do
use Rattle.txn_session.specs.declared.answers.TxnAnswer.{TxnAnswer}
use Rattle.txn_session.specs.declared.answers.TxnAnswer.TheVariants as Say
use Rattle.line_session.specs.State.{moment_in, places_in}
use Rattle.txn_session.specs.State.{TxnState, Entries, IsNewTxn, txn_lines_in, entry_in, with_put_line, commit_writes, redo_writes}
use Rattle.txn_session.specs.Answered.{IsTxnAnswered}

-- ---- chains of answers

-- a command and its answer
pub record TxnReply : Type 0 where
  pub command : TxnCommand
  pub answer : TxnAnswer

-- each was answered in the state that those before it left
abbrev pub AreTxnAnswered : Setup → TxnState → List TxnReply → TxnState → Type 0
AreTxnAnswered setup first [] last = last ≡ first
AreTxnAnswered setup first (reply ∷ replies) last =
    (next : TxnState) × IsTxnAnswered setup first reply.command reply.answer next
    × AreTxnAnswered setup next replies last

-- a chain from a new session on
pub record IsTxnSession (setup : Setup) (replies : List TxnReply) (last : TxnState) : Type 0 where
  pub first : TxnState
  pub is_new : IsNewTxn setup first
  pub answered : AreTxnAnswered setup first replies last

-- ---- what is read

-- the data lines and the open transaction, by the answers alone
pub record Seen : Type 0 where
  pub memory : Memory
  pub txn : Option Entries

-- no transaction is open
abbrev pub closed : Seen → Seen
closed seen = record seen { txn = None }

-- the open transaction is written whole
abbrev pub written : Seen → Seen
written seen = record { memory = put_lines (unwrap_or seen.txn []) seen.memory; txn = None }

-- A transaction changes the lines by a commit that was answered ok, stuck or kept. A cut, and power that goes off,
-- drop it.
abbrev pub seen_after : Seen → TxnCommand → TxnAnswer → Seen
seen_after seen Do.Begin Say.Ok = record seen { txn = Some [] }
seen_after seen (Do.Put a line) Say.Ok =
    record seen { txn = option_map (λ entries. with_put_line entries a line) seen.txn }
seen_after seen Do.Commit (Say.Applied steps) = written seen
seen_after seen Do.Commit (Say.Stuck page steps) = written seen
seen_after seen Do.Commit (Say.CutKept steps) = written seen
seen_after seen Do.Commit (Say.CutLost steps) = closed seen
seen_after seen Do.Commit (Say.Spent page steps) = closed seen
seen_after seen Do.Abort Say.Ok = closed seen
seen_after seen (Do.Read a) (Say.Cut steps) = closed seen
seen_after seen Do.On (Say.Cut steps) = closed seen
seen_after seen Do.Off Say.Ok = closed seen
seen_after seen command answer = seen

-- a read shows the line that the open transaction holds, with no step, or else that of memory
abbrev pub IsTxnReadOf : Seen → TxnCommand → TxnAnswer → Type 0
IsTxnReadOf seen (Do.Read a) (Say.Got line steps) =
    MatchOption (entry_in (unwrap_or seen.txn []) a) (line ≡ line_at seen.memory a)
    (λ held. (line ≡ held) × (steps ≡ 0))
IsTxnReadOf seen command answer = ⊤

abbrev pub AreReadAsCommitted : Seen → List TxnReply → Type 0
AreReadAsCommitted seen [] = ⊤
AreReadAsCommitted seen (reply ∷ replies) =
    IsTxnReadOf seen reply.command reply.answer
    × AreReadAsCommitted (seen_after seen reply.command reply.answer) replies

-- ---- recovery

-- recovery ends with power on, if it may be stuck, unless it is cut; or it shows a twin
abbrev pub IsTxnMendedAnswer : TxnCommand → TxnAnswer → Type 0
IsTxnMendedAnswer Do.On Say.Already = ⊤
IsTxnMendedAnswer Do.On (Say.Opened redone steps) = ⊤
IsTxnMendedAnswer Do.On (Say.Stuck page steps) = ⊤
IsTxnMendedAnswer Do.On (Say.Cut steps) = ⊤
IsTxnMendedAnswer Do.On answer = ⊥
IsTxnMendedAnswer command answer = ⊤

-- ---- stuck

-- the page that the store is stuck at, by the answers alone: from a commit or a recovery that is, until power is off
-- or cut
abbrev pub stuck_after : Option ℕ → TxnCommand → TxnAnswer → Option ℕ
stuck_after stuck Do.Commit (Say.Stuck page steps) = Some page
stuck_after stuck Do.Commit (Say.CutKept steps) = None
stuck_after stuck Do.Commit (Say.CutLost steps) = None
stuck_after stuck Do.On (Say.Stuck page steps) = Some page
stuck_after stuck Do.On (Say.Cut steps) = None
stuck_after stuck Do.Off Say.Ok = None
stuck_after stuck (Do.Read a) (Say.Cut steps) = None
stuck_after stuck command answer = stuck

-- a transaction is refused as stuck exactly then
abbrev pub IsStuckAnswer : Option ℕ → TxnCommand → TxnAnswer → Type 0
IsStuckAnswer stuck Do.Begin (Say.Blocked page) = stuck ≡ Some page
IsStuckAnswer stuck Do.Begin Say.Busy = stuck ≡ None
IsStuckAnswer stuck Do.Begin Say.Ok = stuck ≡ None
IsStuckAnswer stuck command answer = ⊤

abbrev pub AreStuckAnswers : Option ℕ → List TxnReply → Type 0
AreStuckAnswers stuck [] = ⊤
AreStuckAnswers stuck (reply ∷ replies) =
    IsStuckAnswer stuck reply.command reply.answer
    × AreStuckAnswers (stuck_after stuck reply.command reply.answer) replies

-- ---- used up

-- the next of these writes was answered as used up, and its line lies in this page
pub record WasTxnSpent (setup : Setup) (old : TxnState) (writes : List Posted) (done page : ℕ) : Type 0 where
  pub used_up : next_marks setup.formulas (moment_in setup old.session) writes done ≡ None
  pub its_page : MatchOption (slice_get writes done) ⊥ (λ write. page_of write.at ≡ page)

abbrev pub writes_of_commit : TxnState → List Posted
writes_of_commit old = commit_writes (txn_lines_in old) (unwrap_or old.txn [])

-- a commit is spent only so, before its header, by which nothing changes but that it is closed; it is stuck only so
-- after it, and so is a recovery
abbrev pub IsTxnSpentAnswer : Setup → TxnState → TxnCommand → TxnAnswer → TxnState → Type 0
IsTxnSpentAnswer setup old Do.Commit (Say.Spent page steps) new =
    (done : ℕ) × (done ≤ length (unwrap_or old.txn [])) × WasTxnSpent setup old (writes_of_commit old) done page
    × (new.memory ≡ old.memory)
IsTxnSpentAnswer setup old Do.Commit (Say.Stuck page steps) new =
    (done : ℕ) × (length (unwrap_or old.txn []) < done) × WasTxnSpent setup old (writes_of_commit old) done page
IsTxnSpentAnswer setup old Do.On (Say.Stuck page steps) new =
    (done : ℕ)
    × WasTxnSpent setup old (redo_writes (txn_lines_in old) old.in_force (places_in setup old.session)) done page
IsTxnSpentAnswer setup old command answer new = ⊤

-- so it is of each answer of a chain
abbrev pub AreTxnSpentAsUsedUp : Setup → TxnState → List TxnReply → Type 0
AreTxnSpentAsUsedUp setup first [] = ⊤
AreTxnSpentAsUsedUp setup first (reply ∷ replies) =
    (next : TxnState) × IsTxnAnswered setup first reply.command reply.answer next
    × IsTxnSpentAnswer setup first reply.command reply.answer next × AreTxnSpentAsUsedUp setup next replies

-- ---- the whole

-- zeros, and no transaction
abbrev pub nothing_seen : ℕ → Seen
nothing_seen n = record { memory = replicate n zero_line; txn = None }

-- What the replies of a session say by themselves: reads show zeros changed by whole transactions, recovery that isn't cut succeeds or is
-- stuck, and a transaction is refused as stuck if and only if the store is.
pub record AreTxnReplies (n : ℕ) (replies : List TxnReply) : Type 0 where
  pub reads : AreReadAsCommitted (nothing_seen n) replies
  pub mended : All (λ reply. IsTxnMendedAnswer reply.command reply.answer) replies
  pub stuck : AreStuckAnswers None replies

-- each session's replies do
abbrev pub AreTxnsKept : Setup → Type 0
AreTxnsKept setup =
    (replies : List TxnReply) (last : TxnState)
    → IsTxnSession setup replies last → AreTxnReplies (logged_lines setup.shape) replies

-- and each is stuck or spent only if a counter is exhausted
abbrev pub AreTxnsSpent : Setup → Type 0
AreTxnsSpent setup =
    (first last : TxnState) (replies : List TxnReply)
    → IsNewTxn setup first → AreTxnAnswered setup first replies last → AreTxnSpentAsUsedUp setup first replies
