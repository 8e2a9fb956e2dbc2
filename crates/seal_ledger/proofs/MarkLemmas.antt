-- Laws of the marks: the last seal of a line, and fresh counters, as marks are appended.
use Rattle.std.proofs.Common.{ℕ, ◌≡◌, ◌≢◌, ◌⊎◌, inl, inr, Bool, true, false, List, [], ◌∷◌, ◌++◌, Option, Some, None, refl, sym, ap, subst, ◌∙◌, arith, eqb, cond, IsTrue}
use Rattle.std.specs.List.{All}
use Rattle.std.specs.Bool.{⊤}
use Rattle.std.proofs.lemmas.Option.{none-some, cond_some, same_Some}
use Rattle.std.proofs.lemmas.List.Elements.{All-push, All-head, All-tail, All-nil}
use Rattle.std.proofs.lemmas.Bool.{eqb-true, eq-eqb, ne_eqb, cond-true, cond-false}
use Rattle.std.proofs.lemmas.Bool.Decides.{nat_tests}
use Rattle.pmem_base.specs.declared.lines.Line.{Line}
use Rattle.pmem_base.specs.declared.lines.Ctr.{Ctr}
use Rattle.pmem_base.specs.declared.answers.Mark.{Mark}
use Rattle.pmem_base.specs.declared.answers.Mark.TheVariants.{Begin, Seal}
use Rattle.pmem_base.specs.Marks.{SealOf, seal_of, later_of, last_seal, is_below, IsAfter, IsFresh}

pub later_of_assoc : (a b c : Option SealOf) → later_of a (later_of b c) ≡ later_of (later_of a b) c
later_of_assoc a b None = refl
later_of_assoc a b (Some c) = refl

pub later_of_none : (a : Option SealOf) → later_of None a ≡ a
later_of_none None = refl
later_of_none (Some a) = refl

-- the last seal of line a once a mark is appended
pub last_seal-push : (marks : List Mark) (mark : Mark) (a : ℕ) → last_seal (marks ++ mark ∷ []) a ≡ later_of (last_seal marks a) (seal_of mark a)
last_seal-push [] mark a = sym (later_of_none (seal_of mark a))
last_seal-push (first ∷ marks) mark a = ap (later_of (seal_of first a)) (last_seal-push marks mark a) ∙ later_of_assoc (seal_of first a) (last_seal marks a) (seal_of mark a)

-- a seal is the last of its line once it is appended
pub last_seal-sealed : (marks : List Mark) (at : ℕ) (ctr : Ctr) (cipher : Line) (tag : List ℕ) → last_seal (marks ++ Seal at ctr cipher tag ∷ []) at ≡ Some (record { ctr = ctr; cipher = cipher; tag = tag })
last_seal-sealed marks at ctr cipher tag =
    last_seal-push marks (Seal at ctr cipher tag) at
    ∙ ap (λ t. later_of (last_seal marks at) (cond t (Some (record { ctr = ctr; cipher = cipher; tag = tag })) None)) (eq-eqb at at refl)

-- and leaves every other line's last seal
pub last_seal-other : (marks : List Mark) (at : ℕ) (ctr : Ctr) (cipher : Line) (tag : List ℕ) (a : ℕ) → a ≢ at → last_seal (marks ++ Seal at ctr cipher tag ∷ []) a ≡ last_seal marks a
last_seal-other marks at ctr cipher tag a apart =
    last_seal-push marks (Seal at ctr cipher tag) a
    ∙ ap (λ t. later_of (last_seal marks a) (cond t (Some (record { ctr = ctr; cipher = cipher; tag = tag })) None)) (ne_eqb at a (λ same. apart (sym same)))

-- a begin leaves every line's last seal
pub last_seal-begun : (marks : List Mark) (page a : ℕ) → last_seal (marks ++ Begin page ∷ []) a ≡ last_seal marks a
last_seal-begun marks page a = last_seal-push marks (Begin page) a

pub is_below_trans : (a b c : Ctr) → IsTrue (is_below a b) → IsTrue (is_below b c) → IsTrue (is_below a c)
is_below_trans a b c p q = grind (arith, nat_tests)

pub cases_seal : (o : Option SealOf) → (o ≡ None) ⊎ ((seal : SealOf) × (o ≡ Some seal))
cases_seal None = inl refl
cases_seal (Some seal) = inr (seal, refl)

later_of-cases : (a b : Option SealOf) (seal : SealOf) → later_of a b ≡ Some seal → (b ≡ Some seal) ⊎ ((b ≡ None) × (a ≡ Some seal))
later_of-cases a None seal e = inr (refl, e)
later_of-cases a (Some b) seal e = inl e

-- a seal that all these marks come after is below the last one of its line
below_last : (at : ℕ) (ctr : Ctr) (cipher : Line) (tag : List ℕ) (marks : List Mark) (seal : SealOf) → All (IsAfter (Seal at ctr cipher tag)) marks → last_seal marks at ≡ Some seal → IsTrue (is_below ctr seal.ctr)
below_last at ctr cipher tag [] seal after e = absurd (none-some seal e)
below_last at ctr cipher tag (Begin page ∷ marks) seal after e =
    elim (later_of-cases None (last_seal marks at) seal e) [
      | inl later ↦ below_last at ctr cipher tag marks seal (All-tail (IsAfter (Seal at ctr cipher tag)) (Begin page) marks after) later
      | inr here ↦ absurd (none-some seal here.1)
    ]
below_last at ctr cipher tag (Seal at' ctr' cipher' tag' ∷ marks) seal after e =
    elim (later_of-cases (seal_of (Seal at' ctr' cipher' tag') at) (last_seal marks at) seal e) [
      | inl later ↦ below_last at ctr cipher tag marks seal (All-tail (IsAfter (Seal at ctr cipher tag)) (Seal at' ctr' cipher' tag') marks after) later
      | inr here ↦
          let parts = cond_some (eqb at' at) (record { ctr = ctr'; cipher = cipher'; tag = tag' }) seal here.1 in
          subst (λ (s : SealOf). IsTrue (is_below ctr s.ctr)) parts.1
          (All-head (IsAfter (Seal at ctr cipher tag)) (Seal at' ctr' cipher' tag') marks after (eqb-true at' at parts.0))
    ]

-- a mark that is a begin, or seals its line under a counter above the last one
abbrev pub IsNewest : List Mark → Mark → Type 0
IsNewest marks (Begin page) = ⊤
IsNewest marks (Seal at ctr cipher tag) = (last : SealOf) → last_seal marks at ≡ Some last → IsTrue (is_below last.ctr ctr)

newest_after : (first : Mark) (marks : List Mark) (mark : Mark) → All (IsAfter first) marks → IsNewest (first ∷ marks) mark → IsAfter first mark
newest_after (Begin page) marks mark after newest = tt
newest_after (Seal at ctr cipher tag) marks (Begin page) after newest = tt
newest_after (Seal at ctr cipher tag) marks (Seal at' ctr' cipher' tag') after newest =
    λ same.
    elim (cases_seal (last_seal marks at)) [
      | inl none ↦
          newest (record { ctr = ctr; cipher = cipher; tag = tag })
          (subst (λ z. last_seal (Seal at ctr cipher tag ∷ marks) z ≡ Some (record { ctr = ctr; cipher = cipher; tag = tag })) (sym same)
          (ap (later_of (seal_of (Seal at ctr cipher tag) at)) none
          ∙ ap (λ t. cond t (Some (record { ctr = ctr; cipher = cipher; tag = tag })) None) (eq-eqb at at refl)))
      | inr some ↦
          is_below_trans ctr some.0.ctr ctr' (below_last at ctr cipher tag marks some.0 after some.1)
          (newest some.0
          (subst (λ z. last_seal (Seal at ctr cipher tag ∷ marks) z ≡ Some some.0) (sym same)
          (ap (later_of (seal_of (Seal at ctr cipher tag) at)) some.1)))
    ]

newest_of_rest : (first : Mark) (marks : List Mark) (mark : Mark) → IsNewest (first ∷ marks) mark → IsNewest marks mark
newest_of_rest first marks (Begin page) newest = tt
newest_of_rest first marks (Seal at ctr cipher tag) newest = λ last e. newest last (ap (later_of (seal_of first at)) e)

-- counters stay fresh
pub IsFresh-push : (marks : List Mark) (mark : Mark) → IsFresh marks → IsNewest marks mark → IsFresh (marks ++ mark ∷ [])
IsFresh-push [] mark fresh newest = (All-nil (IsAfter mark), tt)
IsFresh-push (first ∷ marks) mark fresh newest = (
  All-push (IsAfter first) marks mark fresh.0 (newest_after first marks mark fresh.0 newest),
  IsFresh-push marks mark fresh.1 (newest_of_rest first marks mark newest),
)

-- what holds of all marks holds of one that seals line a
seal_of_has : (P : Mark → Type 0) (mark : Mark) (a : ℕ) (s : SealOf) → P mark → seal_of mark a ≡ Some s → P (Seal a s.ctr s.cipher s.tag)
seal_of_has P (Begin page) a s h e = absurd (none-some s e)
seal_of_has P (Seal at ctr cipher tag) a s h e = go (eqb at a) refl
  where
    this : SealOf
    this = record { ctr = ctr; cipher = cipher; tag = tag }

    go : (b : Bool) → eqb at a ≡ b → P (Seal a s.ctr s.cipher s.tag)
    go true q =
        let same : this ≡ s = same_Some this s (sym (cond-true (eqb at a) (Some this) None q) ∙ e) in
        subst (λ z. P (Seal a z.ctr z.cipher z.tag)) same
        (subst (λ z. P (Seal z ctr cipher tag)) (eqb-true at a q) h)
    go false q = absurd (none-some s (sym (cond-false (eqb at a) (Some this) None q) ∙ e))

-- and of the last seal of line a
pub last_seal_has : (P : Mark → Type 0) (marks : List Mark) (a : ℕ) (s : SealOf) → All P marks → last_seal marks a ≡ Some s → P (Seal a s.ctr s.cipher s.tag)
last_seal_has P [] a s all e = absurd (none-some s e)
last_seal_has P (mark ∷ marks) a s all e =
    go (last_seal marks a) refl (λ r. last_seal_has P marks a s (All-tail P mark marks all) r)
  where
    go : (o : Option SealOf) → last_seal marks a ≡ o → (last_seal marks a ≡ Some s → P (Seal a s.ctr s.cipher s.tag)) → P (Seal a s.ctr s.cipher s.tag)
    go None q again =
        seal_of_has P mark a s (All-head P mark marks all)
        (sym (ap (later_of (seal_of mark a)) q) ∙ e)
    go (Some t) q again = again (q ∙ sym (ap (later_of (seal_of mark a)) q) ∙ e)
