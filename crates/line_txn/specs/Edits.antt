-- The changes of data lines that a commit and its redo are made of.
use Rattle.std.specs.Prelude.{ℕ, ◌≤◌, ◌+◌, List, [], ◌∷◌, ◌++◌, length, map, All}
use Rattle.pmem_base.specs.declared.lines.Line.{Line}
use Rattle.pmem_base.specs.Lines.{IsLine, zero_line}
use Rattle.engine_lines.specs.declared.edits.Edit.{Edit}
use Rattle.engine_lines.specs.declared.edits.Edit.TheVariants as Make
use Rattle.line_txn.specs.Header.{header_of}
use Rattle.line_txn.specs.Logged.{targets_of, bodies_of}

-- at most fifteen lines of 64 bytes, with a header of as many
pub record IsWholeTxn (txn : List (ℕ × Line)) : Type 0 where
  pub few : length txn ≤ 15
  pub whole : All IsLine (bodies_of txn)
  pub header : IsLine (header_of (targets_of txn))

-- these bodies are written from line k on
abbrev pub body_edits : ℕ → List Line → List Edit
body_edits k [] = []
body_edits k (body ∷ bodies) = Make.Put k body ∷ body_edits (k + 1) bodies

-- bodies and header, which decides
abbrev pub deciding_edits : ℕ → List (ℕ × Line) → List Edit
deciding_edits n txn = body_edits (n + 1) (bodies_of txn) ++ (Make.Put n (header_of (targets_of txn)) ∷ [])

abbrev pub target_edits : List (ℕ × Line) → List Edit
target_edits txn = map (λ entry. Make.Put entry.0 entry.1) txn

-- targets and zero header
abbrev pub applying_edits : ℕ → List (ℕ × Line) → List Edit
applying_edits n txn = target_edits txn ++ (Make.Put n zero_line ∷ [])

-- the bodies from line k on are copied to these targets
abbrev pub copy_edits : ℕ → List ℕ → List Edit
copy_edits k [] = []
copy_edits k (target ∷ targets) = Make.Copy k target ∷ copy_edits (k + 1) targets

-- then comes the zero header; without targets nothing is done
abbrev pub redoing_edits : ℕ → List ℕ → List Edit
redoing_edits n [] = []
redoing_edits n (target ∷ targets) = copy_edits (n + 1) (target ∷ targets) ++ (Make.Put n zero_line ∷ [])
