-- Logical memory of a memory with a log: of its lines, the first n are data, line n is the header, and the
-- next 15 are the bodies. A transaction that was decided is in force, whatever of it was written to its place.
use Rattle.std.specs.Prelude.{ℕ, ◌≡◌, ◌<◌, ◌+◌, List, [], ◌∷◌, length, take, drop, map, slice_set, slice_index}
use Rattle.std.specs.List.{zip}
use Rattle.pmem_base.specs.declared.lines.Line.{Line}
use Rattle.pmem_base.specs.Lines.{line_at, put_lines}
use Rattle.line_txn.specs.Header.{AreTargets, IsHeader, header_of}

-- each target with its body
abbrev pub entries_in : ℕ → List ℕ → List Line → List (ℕ × Line)
entries_in n targets lines = zip targets (drop (n + 1) lines)

-- the data lines with the bodies put into their targets
abbrev pub memory_in : ℕ → List ℕ → List Line → List Line
memory_in n targets lines = put_lines (entries_in n targets lines) (take n lines)

-- the lines have this header, and hold this memory under it
pub record IsLogged (n : ℕ) (lines : List Line) (targets : List ℕ) (memory : List Line) : Type 0 where
  pub size : length lines ≡ n + 16
  pub header : IsHeader n (line_at lines n) targets
  pub its_memory : memory_in n targets lines ≡ memory

-- ---- the writes, one by one

-- these bodies are written from line k on
abbrev pub with_bodies : ℕ → List Line → List Line → List Line
with_bodies k [] lines = lines
with_bodies k (body ∷ bodies) lines = with_bodies (k + 1) bodies (slice_set lines k body)

-- the header is written
abbrev pub with_header : ℕ → List ℕ → List Line → List Line
with_header n targets lines = slice_set lines n (header_of targets)

abbrev pub targets_of : List (ℕ × Line) → List ℕ
targets_of txn = map (λ entry. entry.0) txn

abbrev pub bodies_of : List (ℕ × Line) → List Line
bodies_of txn = map (λ entry. entry.1) txn

-- how far a commit has come: that many bodies were written; or the header was, and that many targets; or all, and the zero header
pub data CommitStage : Type 0 where
  logged : ℕ → CommitStage
  decided : ℕ → CommitStage
  cleared : CommitStage

abbrev pub lines_decided : ℕ → List (ℕ × Line) → List Line → List Line
lines_decided n txn lines = with_header n (targets_of txn) (with_bodies (n + 1) (bodies_of txn) lines)

abbrev pub commit_lines_at : CommitStage → ℕ → List (ℕ × Line) → List Line → List Line
commit_lines_at (logged k) n txn lines = with_bodies (n + 1) (take k (bodies_of txn)) lines
commit_lines_at (decided k) n txn lines = put_lines (take k txn) (lines_decided n txn lines)
commit_lines_at cleared n txn lines = with_header n [] (put_lines txn (lines_decided n txn lines))

-- the header in force, and the memory
abbrev pub targets_at : CommitStage → List (ℕ × Line) → List ℕ
targets_at (decided k) txn = targets_of txn
targets_at stage txn = []

abbrev pub commit_memory_at : CommitStage → List (ℕ × Line) → List Line → List Line
commit_memory_at (logged k) txn memory = memory
commit_memory_at stage txn memory = put_lines txn memory

-- at whatever stage a commit is cut off, the lines hold the memory without the transaction, until the header
-- is written, and with the whole of it from then on
abbrev pub IsWholeAtEachStage : ℕ → Type 0
IsWholeAtEachStage n =
    (lines memory : List Line) (txn : List (ℕ × Line)) (stage : CommitStage)
    → AreTargets n (targets_of txn) → IsLogged n lines [] memory
    → IsLogged n (commit_lines_at stage n txn lines) (targets_at stage txn) (commit_memory_at stage txn memory)

-- ---- the redo

-- that many of the bodies were put into their targets
abbrev pub redone_to : ℕ → ℕ → List ℕ → List Line → List Line
redone_to k n targets lines = put_lines (take k (entries_in n targets lines)) lines

-- all of them were, and then the zero header was written
abbrev pub lines_cleared : ℕ → List ℕ → List Line → List Line
lines_cleared n targets lines = with_header n [] (redone_to 15 n targets lines)

-- a redo keeps the memory however far it comes, from any lines that hold it, so also when it is begun again;
-- and once it is through, so does the zero header
abbrev pub IsKeptByRedo : ℕ → Type 0
IsKeptByRedo n =
    (lines memory : List Line) (targets : List ℕ) → IsLogged n lines targets memory
    → ((k : ℕ) → IsLogged n (redone_to k n targets lines) targets memory)
    × IsLogged n (lines_cleared n targets lines) [] memory

-- what lies at a target doesn't count: whatever line is written there, its body above all, the memory stays
abbrev pub IsKeptByTarget : ℕ → Type 0
IsKeptByTarget n =
    (lines memory : List Line) (targets : List ℕ) (i : ℕ) (line : Line)
    → i < length targets → IsLogged n lines targets memory
    → IsLogged n (slice_set lines (slice_index targets i) line) targets memory

-- how far an opening has come, which redoes the header that it read: that many targets, at a cut or if a line is spent; or all of them, and
-- the zero header
pub data Opening : Type 0 where
  partly : ℕ → Opening
  through : Opening

abbrev pub lines_opened : Opening → ℕ → List ℕ → List Line → List Line
lines_opened (partly k) n targets lines = redone_to k n targets lines
lines_opened through n targets lines = lines_cleared n targets lines

abbrev pub targets_opened : Opening → List ℕ → List ℕ
targets_opened (partly k) targets = targets
targets_opened through targets = []

-- lines that hold a memory have a header. Whatever header an opening reads there, and wherever it ends, the lines hold the same memory:
-- under that header, or under the zero header if it is through
abbrev pub IsKeptByOpening : ℕ → Type 0
IsKeptByOpening n =
    (lines memory : List Line) (targets found : List ℕ) (opening : Opening)
    → IsLogged n lines targets memory → IsHeader n (line_at lines n) found
    → IsLogged n (lines_opened opening n found lines) (targets_opened opening found) memory

-- ---- what a read finds while a header is in force

-- a target is read from its body, and every other line from its place
pub record IsReadFrom (n : ℕ) (lines : List Line) (targets : List ℕ) (memory : List Line) : Type 0 where
  pub target : (i : ℕ) → i < length targets → line_at memory (slice_index targets i) ≡ line_at lines (n + 1 + i)
  pub other :
      (a : ℕ) → a < n → ((i : ℕ) → i < length targets → slice_index targets i ≡ a → ⊥)
      → line_at memory a ≡ line_at lines a

abbrev pub IsReadThroughLog : ℕ → Type 0
IsReadThroughLog n =
    (lines memory : List Line) (targets : List ℕ) → IsLogged n lines targets memory → IsReadFrom n lines targets memory
