-- The ledger after a note, as an equation; and a line told from another one by its bytes.
use Rattle.std.proofs.Common.{rules, ◌≡◌, ◌≢◌, ℕ, List, Option, Some, None, true, false, refl, ap, ap₂, ◌∙◌, inl, inr}
use Rattle.std.specs.Prelude.{IfSome, IsSome, slice_set}
use Rattle.std.proofs.lemmas.Bool.{cases_Bool}
use Rattle.pmem_base.specs.declared.lines.Line.{Line}
use Rattle.pmem_base.specs.declared.answers.Mark.{Mark}
use Rattle.pmem_base.specs.declared.answers.Exhibit.{Exhibit}
use Rattle.pmem_base.specs.Lines.{same_bytes}
use Rattle.pmem_base.specs.Marks.{SealOf}
use Rattle.pmem_base.proofs.ByteLaws.{same_bytes-from, same_bytes-true}
use Rattle.seal_ledger.specs.Ledger.{LedgerState}
use Rattle.seal_ledger.specs.Notes.{HasMark, HasMeta, HasExhibit, noted, with_truth, shown, is_cipher_of}

-- a ledger is its fields
pub same_ledger : (a b : LedgerState) → a.marks ≡ b.marks → a.truth ≡ b.truth → a.data_lines ≡ b.data_lines
    → a.exhibit ≡ b.exhibit → a ≡ b
same_ledger a b marks truth count exhibit =
    ap₂ (λ m t. record { marks = m; truth = t; data_lines = a.data_lines; exhibit = a.exhibit }) marks truth
    ∙ ap₂ (λ n e. record { marks = b.marks; truth = b.truth; data_lines = n; exhibit = e }) count exhibit

pub noted_is : (old new : LedgerState) (mark : Mark) → HasMark old new mark → new ≡ noted old mark
noted_is old new mark it = same_ledger new (noted old mark) it.marks it.truth it.data_lines it.exhibit

pub told_is : (old new : LedgerState) (x : ℕ) (line : Line) → HasMeta old new x line
    → new ≡ with_truth old (slice_set old.truth x line)
told_is old new x line it =
    same_ledger new (with_truth old (slice_set old.truth x line)) it.marks it.truth it.data_lines it.exhibit

pub shown_is : (old new : LedgerState) (exhibit : Exhibit) → HasExhibit old new exhibit → new ≡ shown old exhibit
shown_is old new exhibit it = same_ledger new (shown old exhibit) it.marks it.truth it.data_lines it.exhibit

-- ---- lines by their bytes

line_is : (a b : Line) → a.0 ≡ b.0 → a ≡ b
line_is a b e = ap (λ (bytes : List ℕ). let l : Line = record { 0 = bytes } in l) e

pub same_line : (a b : Line) → a ≡ b → same_bytes a.0 b.0 ≡ true
same_line a b is = same_bytes-from a.0 b.0 (ap (λ (l : Line). l.0) is)

pub other_bytes : (xs ys : List ℕ) → xs ≢ ys → same_bytes xs ys ≡ false
other_bytes xs ys differ =
    elim (cases_Bool (same_bytes xs ys)) [
      | inl same ↦ absurd (differ (same_bytes-true xs ys same))
      | inr other ↦ other
    ]

pub other_line : (a b : Line) → a ≢ b → same_bytes a.0 b.0 ≡ false
other_line a b differs = other_bytes a.0 b.0 (λ same. differs (line_is a b same))

pub last_cipher : (seal : Option SealOf) (cipher : Line) → IfSome seal (λ s. cipher ≡ s.cipher) → is_cipher_of seal cipher ≡ true
last_cipher None cipher it = refl
last_cipher (Some seal) cipher it = same_line cipher seal.cipher it

pub other_cipher : (seal : Option SealOf) (cipher : Line) → IfSome seal (λ s. cipher ≢ s.cipher)
    → IsSome seal → is_cipher_of seal cipher ≡ false
other_cipher None cipher it some = search rules
other_cipher (Some seal) cipher it some = other_line cipher seal.cipher it
