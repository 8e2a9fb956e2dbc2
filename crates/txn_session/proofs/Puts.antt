-- A line that is put into a transaction: where it goes, and which targets the transaction has then.
use Rattle.std.proofs.Common.{ℕ, ◌≡◌, ◌<◌, ◌≤◌, ◌+◌, ◌++◌, inl, inr, Bool, true, false, cond, [], ◌∷◌, length, Option, Some, None, refl, sym, ap, subst, ◌∙◌, arith, rules}
use Rattle.std.proofs.lemmas.Iterator.Adapters.{position_from-zero}
use Rattle.std.proofs.lemmas.List.Quantifiers.{all_pairs_push}
use Rattle.std.proofs.lemmas.List.Recursion.{is_position_or_len}
use Rattle.txn_session.proofs.Common.{◌≢◌, All, is_some, not, nat_lt, slice_set, ◌==◌, position_or_len, position_from, refill, eqb-true, eqb-false, cases_lt, lt-ltb, le-ltb, none-some, same_Some, length-append, length-map, length-set, take_at, All-nil, All-push, Line, AreTargets, targets_of, Setup, logged_lines, Entries, entry_in, with_put_line, is_txn_full}
use Rattle.txn_session.proofs.Worlds.{IsOpenTxn}

-- ---- its targets

with_held : (entries : Entries) (a : ℕ) (line held : Line) → entry_in entries a ≡ Some held
    → targets_of (with_put_line entries a line) ≡ targets_of entries
with_held [] a line held is = absurd (none-some held is)
with_held (entry ∷ entries) a line held is = search (rules, eqb-true, (with_held entries a line held))

-- a line that it hasn't goes to the end
pub with_new : (entries : Entries) (a : ℕ) (line : Line) → entry_in entries a ≡ None → with_put_line entries a line ≡ entries ++ (a, line) ∷ []
with_new [] a line none = refl
with_new (entry ∷ entries) a line none = search (rules, (with_new entries a line))

new_apart : (entries : Entries) (a : ℕ) → entry_in entries a ≡ None → All (λ t. t ≡ a → ⊥) (targets_of entries)
new_apart [] a none = All-nil (λ t. t ≡ a → ⊥)
new_apart (entry ∷ entries) a none = search (rules, eqb-false, (new_apart entries a))

targets_push : (entries : Entries) (a : ℕ) (line : Line) → targets_of (entries ++ (a, line) ∷ []) ≡ targets_of entries ++ a ∷ []
targets_push [] a line = refl
targets_push (entry ∷ entries) a line = ap (λ ts. entry.0 ∷ ts) (targets_push entries a line)

pub put_targets : (n a : ℕ) (line : Line) (entries : Entries) → a < n → is_txn_full entries a ≡ false → AreTargets n (targets_of entries)
    → AreTargets n (targets_of (with_put_line entries a line))
put_targets n a line entries low room its = go (entry_in entries a) refl room
  where
    go : (found : Option Line) → entry_in entries a ≡ found → cond (is_some found) false (length entries == 15) ≡ false
        → AreTargets n (targets_of (with_put_line entries a line))
    go (Some held) is room = subst (AreTargets n) (sym (with_held entries a line held is)) its
    go None is room =
        let apart = new_apart entries a is in
        let few = its.few in
        let count = length-map entries (λ (e : ℕ × Line). e.0) in
        let more = length-append (targets_of entries) (a ∷ []) in
        let other : length entries ≡ 15 → ⊥ = eqb-false (length entries) 15 room in
        let fewer : length entries ≤ 14 = elim (cases_lt (length entries) 15) [
          | inl below ↦ omega (arith, below)
          | inr above ↦ absurd (other (omega (arith, above, few, count)))
        ] in
        subst (AreTargets n) (sym (ap targets_of (with_new entries a line is) ∙ targets_push entries a line))
        (record {
          few = omega (arith, more, count, fewer);
          below =
              record {
                each = All-push (λ t. t < n) (targets_of entries) a its.below.each low;
                distinct = all_pairs_push (λ t u. t ≢ u) (targets_of entries) a its.below.distinct (λ k d inside. apart k d inside);
              };
        })

-- ---- its place

-- the place of a line, or how many there are
abbrev line_place : ℕ → Entries → ℕ
line_place a [] = 0
line_place a (entry ∷ entries) = cond (entry.0 == a) 0 (1 + line_place a entries)

place_is : (a : ℕ) (entries : Entries) → line_place a entries ≡ position_or_len (λ (entry : ℕ × Line). entry.0 == a) entries
place_is a entries = is_position_or_len (line_place a) (λ (entry : ℕ × Line). entry.0 == a) refl (λ entry entries. refl) entries

-- a line that is there is put in its place
replaced : (entries : Entries) (a : ℕ) (line : Line) → line_place a entries < length entries
    → (with_put_line entries a line ≡ slice_set entries (line_place a entries) (a, line)) × (is_some (entry_in entries a) ≡ true)
replaced [] a line inside = absurd (omega (arith, inside))
replaced (entry ∷ entries) a line inside = search (rules, (replaced entries a line))

absent : (entries : Entries) (a : ℕ) → length entries ≤ line_place a entries → entry_in entries a ≡ None
absent [] a all = refl
absent (entry ∷ entries) a all = search (rules, (absent entries a))

-- as it is found
found_is : (a : ℕ) (entries : Entries)
    → position_from (λ (entry : ℕ × Line). entry.0 == a) 0 entries
    ≡ cond (nat_lt (line_place a entries) (length entries)) (Some (line_place a entries)) None
found_is a entries = search (place_is, position_from-zero)

pub seen_as : (seen entries : Entries) (a : ℕ) (found : Option ℕ) (other : Option ℕ) → seen ≡ entries
    → found ≡ position_from (λ (entry : ℕ × Line). entry.0 == a) 0 seen → found ≡ other
    → position_from (λ (entry : ℕ × Line). entry.0 == a) 0 entries ≡ other
seen_as seen entries a found other same is there =
    ap (λ (es : Entries). position_from (λ (entry : ℕ × Line). entry.0 == a) 0 es) (sym same) ∙ sym is ∙ there

pub found_at : (entries : Entries) (a i : ℕ) (line : Line) → position_from (λ (entry : ℕ × Line). entry.0 == a) 0 entries ≡ Some i
    → (with_put_line entries a line ≡ slice_set entries i (a, line)) × (is_some (entry_in entries a) ≡ true) × (i < length entries)
found_at entries a i line is =
    elim (cases_lt (line_place a entries) (length entries)) [
      | inl inside ↦
          let it = replaced entries a line inside in
          let same : line_place a entries ≡ i = search (rules, same_Some, found_is, lt-ltb) in
          (it.0 ∙ ap (λ k. slice_set entries k (a, line)) same, it.1, omega (arith, inside, same))
      | inr all ↦ search (rules, none-some, found_is, le-ltb)
    ]

pub found_none : (entries : Entries) (a : ℕ) → position_from (λ (entry : ℕ × Line). entry.0 == a) 0 entries ≡ None → entry_in entries a ≡ None
found_none entries a is = search (rules, cases_lt, none-some, found_is, lt-ltb, absent)

-- whether it is full, if the line is there, and if it isn't
pub full_is : (entries : Entries) (a : ℕ) (b : Bool) → is_some (entry_in entries a) ≡ b → is_txn_full entries a ≡ cond b false (length entries == 15)
full_is entries a b is = ap (λ t. cond t false (length entries == 15)) is

-- a transaction with a line put, or as it was
pub put_txn : (setup : Setup) (stuck : Option ℕ) (entries after : Entries) (a : ℕ) (line : Line) (done : Bool) → a < logged_lines setup.shape
    → (done ≡ true → after ≡ with_put_line entries a line) → done ≡ not (is_txn_full entries a) → (done ≡ false → after ≡ entries)
    → IsOpenTxn setup stuck (Some entries) → IsOpenTxn setup stuck (Some after)
put_txn setup stuck entries after a line true low put full left its = (
  its.0,
  subst (λ es. AreTargets (logged_lines setup.shape) (targets_of es)) (sym (put refl))
      (put_targets (logged_lines setup.shape) a line entries low (not_true (is_txn_full entries a) (sym full)) its.1),
)
  where
    not_true : (b : Bool) → not b ≡ true → b ≡ false
    not_true true is = sym is
    not_true false is = refl
put_txn setup stuck entries after a line false low put full left its = subst (λ es. IsOpenTxn setup stuck (Some es)) (sym (left refl)) its

-- ---- entries of a full vector, one of them changed

pub refilled : (items now : Entries) (i : ℕ) (entry : ℕ × Line) → now ≡ items
    → refill (length items) items (slice_set now i entry) ≡ slice_set items i entry
refilled items now i entry same = search (rules, take_at, slice_set, length-set)
