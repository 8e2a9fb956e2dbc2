-- What a store reads: a target from its body, and every other line from its place.
use Rattle.std.proofs.Common.{ℕ, zero, suc, ◌≡◌, ◌<◌, ◌+◌, ◌⊎◌, inl, inr, cond, eqb, List, [], ◌∷◌, Result, Ok, Err, length, refl, sym, ap, subst, ◌∙◌, arith, rules}
use Rattle.line_txn.proofs.Common.{slice_index, IfOk, cases_Bool, eqb-true, eqb-false, Line, data_lines, line_at, Setup, Fault, Parts, AreTrusted, HasReadLine, HasLines, line_read, Store, IsLogged, IsReadFrom, body_or_place, served_from, HasReadServed}
use Rattle.line_txn.proofs.LoggedLaws.{read_from}

-- a target has its body, and no line that isn't one has another place
abbrev IsStoreServed : ℕ → List ℕ → ℕ → ℕ → Type 0
IsStoreServed k targets a place =
    ((i : ℕ) × (i < length targets) × (slice_index targets i ≡ a) × (place ≡ k + i))
    ⊎ (((i : ℕ) → i < length targets → slice_index targets i ≡ a → ⊥) × (place ≡ a))

served_cases : (k : ℕ) (targets : List ℕ) (a : ℕ) → IsStoreServed k targets a (body_or_place k targets a)
served_cases k [] a = inr ((λ i inside e. omega (arith, inside)), refl)
served_cases k (t ∷ targets) a =
    elim (cases_Bool (eqb t a)) [
      | inl is ↦
          subst (λ b. IsStoreServed k (t ∷ targets) a (cond b k (body_or_place (k + 1) targets a))) (sym is)
          (inl (0, omega arith, eqb-true t a is, omega arith))
      | inr isnt ↦
          subst (λ b. IsStoreServed k (t ∷ targets) a (cond b k (body_or_place (k + 1) targets a))) (sym isnt)
          (later (body_or_place (k + 1) targets a) (λ e. eqb-false t a isnt e) (served_cases (k + 1) targets a))
    ]
  where
    not : (t ≡ a → ⊥) → ((i : ℕ) → i < length targets → slice_index targets i ≡ a → ⊥) → (i : ℕ) → i < length (t ∷ targets)
        → slice_index (t ∷ targets) i ≡ a → ⊥
    not other none zero inside e = other e
    not other none (suc i) inside e = none i (omega (arith, inside)) e

    later : (place : ℕ) → (t ≡ a → ⊥) → IsStoreServed (k + 1) targets a place → IsStoreServed k (t ∷ targets) a place
    later place other (inl is) =
        let inside = is.1 in let at = is.3 in
        inl (suc is.0, omega (arith, inside), is.2, omega (arith, at))
    later place other (inr none) = inr (not other none.0, none.1)

-- what is read there is the line of the memory that the lines hold
pub served_line : (n : ℕ) (lines memory : List Line) (targets : List ℕ) (a : ℕ) → a < n → IsLogged n lines targets memory
    → line_at lines (served_from n targets a) ≡ line_at memory a
served_line n lines memory targets a inside held =
    elim (served_cases (n + 1) targets a) [
      | inl is ↦
          ap (line_at lines) is.3 ∙ sym (reads.target is.0 is.1) ∙ ap (line_at memory) is.2
      | inr none ↦ ap (line_at lines) none.1 ∙ sym (reads.other a inside none.0)
    ]
  where
    reads : IsReadFrom n lines targets memory
    reads = read_from n lines memory targets held

-- ---- the read of a store

pub read_logged : (setup : Setup) (n a place : ℕ) (targets : List ℕ) (lines memory : List Line) (old new : Parts) (answer : Result Line Fault)
    → a < n → n + 16 ≡ data_lines setup.shape → place ≡ served_from n targets a → place < n + 16 → HasLines setup lines old
    → AreTrusted setup old → IsLogged n lines targets memory → HasReadLine setup place old new answer
    → IfOk answer (λ read. read ≡ line_at memory a)
read_logged setup n a place targets lines memory old new (Ok line) inside size there low had trusted held it = search (rules, line_read, served_line)
read_logged setup n a place targets lines memory old new (Err fault) inside size there low had trusted held it = tt

pub read_served : (setup : Setup) (a : ℕ) (store : Store) (place : ℕ) (old new : Parts) (answer : Result Line Fault) → a < store.lines
    → store.lines + 16 ≡ data_lines setup.shape → place ≡ served_from store.lines store.logged.items a → place < store.lines + 16
    → HasReadLine setup place old new answer → HasReadServed setup a store old new answer
read_served setup a store place old new answer inside size there low it =
    record {
      was_read = subst (λ (k : ℕ). HasReadLine setup k old new answer) there it;
      logged =
          λ trusted lines memory had held.
          read_logged setup store.lines a place store.logged.items lines memory old new answer inside size there low had trusted held it;
    }
