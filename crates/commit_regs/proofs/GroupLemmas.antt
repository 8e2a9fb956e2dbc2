-- Writing a group, step by step and again.
use Rattle.std.proofs.Common.{◌≡◌, ℕ, ◌<◌, List, [], ◌∷◌, Option, Some, None, set, get_or, length, refl, ap, ◌∙◌, inl, inr, arith, suc, zero, rules, ◌++◌, ◌≤◌}
use Rattle.std.specs.List.{All}
use Rattle.std.proofs.lemmas.Bool.{cases_eq}
use Rattle.std.proofs.lemmas.List.{set-set, set_comm}
use Rattle.std.proofs.lemmas.List.Elements.{All-head, All-tail}
use Rattle.std.specs.Prelude.{is_some}
use Rattle.pmem_base.specs.declared.lines.Line.{Line}
use Rattle.pmem_base.specs.Lines.{IsLine}
use Rattle.pmem_base.proofs.LineSets.{length-put_lines, put_lines-AreLines, put_lines-append}
use Rattle.pmem_base.specs.Registers.{IsGroup}
use Rattle.board.specs.Device.{AreLinesOf}
use Rattle.board.specs.Steps.{with_line}
use Rattle.commit_regs.specs.Groups.{redone, redone_told, Writes, finishing_latches}

-- what stood at a place that the group writes is lost
pub redone-set : (group : List (ℕ × Line)) (lines : List Line) (at : ℕ) (line : Line) → Writes at group
    → redone group (set lines at line) ≡ redone group lines
redone-set [] lines at line writes = absurd writes
redone-set (entry ∷ rest) lines at line writes =
    elim (cases_eq at entry.0) [
      | inl same ↦ ap (redone rest) (ap (λ i. set (set lines i line) entry.0 entry.1) same ∙ set-set lines entry.0 line entry.1)
      | inr other ↦ elim writes [
        | inl same ↦ absurd (other same)
        | inr later ↦ ap (redone rest) (set_comm lines at entry.0 line entry.1 other)
            ∙ redone-set rest (set lines entry.0 entry.1) at line later
      ]
    ]

-- the same, where the lines are told
pub redone-with_line : (group : List (ℕ × Line)) (told : Option (List Line)) (at : ℕ) (line : Line) → Writes at group
    → redone_told group (with_line told at line) ≡ redone_told group told
redone-with_line group None at line writes = refl
redone-with_line group (Some lines) at line writes = ap Some (redone-set group lines at line writes)

-- one entry is a write
pub redone-cons : (entry : ℕ × Line) (rest : List (ℕ × Line)) (told : Option (List Line))
    → redone_told (entry ∷ rest) told ≡ redone_told rest (with_line told entry.0 entry.1)
redone-cons entry rest None = refl
redone-cons entry rest (Some lines) = refl

pub redone-nil : (told : Option (List Line)) → redone_told [] told ≡ told
redone-nil None = refl
redone-nil (Some lines) = refl

-- a group writes the place of each of its entries
pub Writes-get_or : (group : List (ℕ × Line)) (i : ℕ) (d : ℕ × Line) → i < length group
    → Writes (get_or group i d).0 group
Writes-get_or [] i d l = absurd (omega arith)
Writes-get_or (entry ∷ rest) zero d l = inl refl
Writes-get_or (entry ∷ rest) (suc i) d l = inr (Writes-get_or rest i d (omega arith))

-- ---- what a redone group makes of the lines

-- writing at places of the group, in any order, leaves what the group makes of the lines
pub redone-redone : (group front : List (ℕ × Line)) (lines : List Line) → All (λ entry. Writes entry.0 group) front
    → redone group (redone front lines) ≡ redone group lines
redone-redone group [] lines writes = refl
redone-redone group (entry ∷ front) lines writes =
    redone-redone group front (set lines entry.0 entry.1) (All-tail (λ entry. Writes entry.0 group) entry front writes)
    ∙ redone-set group lines entry.0 entry.1 (All-head (λ entry. Writes entry.0 group) entry front writes)

Writes_each : (group : List (ℕ × Line)) → All (λ entry. Writes entry.0 group) group
Writes_each group = λ i d l. Writes-get_or group i d l

-- once all lines were written, redoing the group changes nothing more
pub redone-redone_same : (group : List (ℕ × Line)) (lines : List Line)
    → redone group (redone group lines) ≡ redone group lines
redone-redone_same group lines = redone-redone group group lines (Writes_each group)

-- the lines stay as many lines
pub AreLinesOf-redone : (size : ℕ) (group : List (ℕ × Line)) (lines : List Line)
    → All (λ entry. IsLine entry.1) group → AreLinesOf size lines → AreLinesOf size (redone group lines)
AreLinesOf-redone size group lines good whole =
    record {
      count = length-put_lines group lines ∙ whole.count;
      each = put_lines-AreLines group lines good whole.each;
    }

-- with no group armed the lines are as they stand
pub unarmed : (group : List (ℕ × Line)) (told : Option (List Line)) → group ≡ [] → redone_told group told ≡ told
unarmed group told none = ap (λ g. redone_told g told) none ∙ redone-nil told

pub told_redone : (group : List (ℕ × Line)) (told : Option (List Line)) → is_some (redone_told group told) ≡ is_some told
told_redone group v1 = search rules

pub redone_told-append : (front back : List (ℕ × Line)) (told : Option (List Line))
    → redone_told (front ++ back) told ≡ redone_told back (redone_told front told)
redone_told-append front back None = refl
redone_told-append front back (Some lines) = ap Some (put_lines-append front back lines)

-- one line more
pub redone-more : (front : List (ℕ × Line)) (entry : ℕ × Line) (told : Option (List Line))
    → redone_told (front ++ entry ∷ []) told ≡ with_line (redone_told front told) entry.0 entry.1
redone-more front entry None = refl
redone-more front entry (Some lines) = ap Some (put_lines-append front (entry ∷ []) lines)

-- no entries are a group
pub IsGroup-nil : (size : ℕ) → IsGroup size []
IsGroup-nil size = search rules

-- one at most
pub one_latch : (group : List (ℕ × Line)) → finishing_latches group ≤ 1
one_latch [] = omega arith
one_latch (entry ∷ rest) = omega arith
