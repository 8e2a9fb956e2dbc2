-- Flags as stamps of an epoch: read, set, cleared, counted.
use Rattle.std.proofs.Common.{rules}
use Rattle.std.proofs.Common.{ℕ, zero, suc, ◌≡◌, ◌≢◌, ◌<◌, ◌≤◌, ◌+◌, ◌-◌, ◌^◌, Bool, true, false, cond, List, [], ◌∷◌, length, replicate, get_or, refl, sym, ap, ap₂, subst, ◌∙◌, arith, inl, inr}
use Rattle.std.specs.Prelude.{All, count_by, not, ◌||◌, ◌==◌, slice_set}
use Rattle.std.proofs.lemmas.Bool.{cases_Bool, eq-eqb, ne_eqb, eqb-true}
use Rattle.std.proofs.lemmas.List.{length-map, length-set, length-replicate, map-set, set-get_or}
use Rattle.std.proofs.lemmas.List.Elements.{All-set, All-head, All-tail, All-replicate}
use Rattle.std.proofs.lemmas.List.Sums.{sum_by-set, sum_by-cons, count_by-le-length}
use Rattle.plain_model.specs.State.{no_flags, is_flagged, has_flags, with_flag, without_flag}
use Rattle.pmem_replay.specs.Stamps.{is_now, flags_of, IsStamped}

abbrev one_of : Bool → ℕ
one_of b = cond b 1 0

-- how many flags there are
pub length-flags : (stamps : List ℕ) (epoch : ℕ) → length (flags_of stamps epoch) ≡ length stamps
length-flags stamps epoch = length-map stamps (is_now epoch)

-- a flag is its stamp's
pub flag-at : (stamps : List ℕ) (epoch i d : ℕ) → i < length stamps → is_flagged (flags_of stamps epoch) i ≡ (get_or stamps i d == epoch)
flag-at [] epoch i d within = absurd (omega (arith, within))
flag-at (stamp ∷ stamps) epoch zero d within = refl
flag-at (stamp ∷ stamps) epoch (suc i) d within = flag-at stamps epoch i d (omega (arith, within))

-- stamped anew
pub flags-set : (stamps : List ℕ) (epoch i stamp : ℕ) → flags_of (slice_set stamps i stamp) epoch ≡ slice_set (flags_of stamps epoch) i (stamp == epoch)
flags-set stamps epoch i stamp = map-set (is_now epoch) stamps i stamp

-- a flag that is so already
pub flags-same : (flags : List Bool) (i : ℕ) (flag : Bool) → is_flagged flags i ≡ flag → slice_set flags i flag ≡ flags
flags-same flags i flag is = ap (slice_set flags i) (sym is) ∙ set-get_or flags i false

-- no flag is set of a new list, and of a new epoch
none_now : (stamps : List ℕ) (epoch : ℕ) → All (λ stamp. stamp < epoch) stamps → flags_of stamps epoch ≡ replicate (length stamps) false
none_now [] epoch each = refl
none_now (stamp ∷ stamps) epoch each =
    ap₂ (λ (flag : Bool) (flags : List Bool). flag ∷ flags)
    (ne_eqb stamp epoch (λ same. omega (arith, same, All-head (λ stamp. stamp < epoch) stamp stamps each)))
    (none_now stamps epoch (All-tail (λ stamp. stamp < epoch) stamp stamps each))

pub flags-none : (stamps : List ℕ) (epoch : ℕ) → All (λ stamp. stamp < epoch) stamps → flags_of stamps epoch ≡ no_flags (length stamps)
unfolding no_flags
flags-none stamps epoch each = none_now stamps epoch each

pub flags-new : (n : ℕ) → flags_of (replicate n 0) 1 ≡ no_flags n
flags-new n =
    flags-none (replicate n 0) 1 (All-replicate (λ stamp. stamp < 1) n 0 (omega arith))
    ∙ ap no_flags (length-replicate n 0)

-- the counts
count_of : (p : ℕ → Bool) (stamps : List ℕ) → ((k d : ℕ) → k < length stamps → p (get_or stamps k d) ≡ false) → count_by p stamps ≡ 0
count_of p [] none = refl
count_of p (stamp ∷ stamps) none =
    sum_by-cons (λ x. cond (p x) 1 0) stamp stamps
    ∙ ap₂ (λ n m. n + m) (ap (λ b. cond b 1 0) (none 0 0 (omega arith)))
    (count_of p stamps (λ k d within. none (suc k) d (omega (arith, within))))

count_none : (stamps : List ℕ) (epoch : ℕ) → All (λ stamp. stamp < epoch) stamps → count_by (is_now epoch) stamps ≡ 0
count_none stamps epoch each =
    count_of (is_now epoch) stamps (λ k d within. ne_eqb (get_or stamps k d) epoch (λ same. omega (arith, same, each k d within)))

pub stamped-new : (n : ℕ) → n < 2 ^ 32 → IsStamped (replicate n 0) 1 0
stamped-new n few =
    record {
      few = omega (arith, few, length-replicate {A = ℕ} n 0);
      begun = omega arith;
      each = All-replicate (λ stamp. stamp ≤ 1) n 0 (omega arith);
      counted = sym (count_none (replicate n 0) 1 (All-replicate (λ stamp. stamp < 1) n 0 (omega arith)));
    }

pub stamped-later : (stamps : List ℕ) (epoch count : ℕ) → IsStamped stamps epoch count → IsStamped stamps (epoch + 1) 0
stamped-later stamps epoch count it =
    record {
      few = it.few;
      begun = omega arith;
      each = λ k d within. omega (arith, it.each k d within);
      counted = sym (count_none stamps (epoch + 1) (λ k d within. omega (arith, it.each k d within)));
    }

pub flags-later : (stamps : List ℕ) (epoch count : ℕ) → IsStamped stamps epoch count → flags_of stamps (epoch + 1) ≡ no_flags (length stamps)
flags-later stamps epoch count it = flags-none stamps (epoch + 1) (λ k d within. omega (arith, it.each k d within))

-- a flag more, and one less
pub count-set : (stamps : List ℕ) (epoch i d : ℕ) → i < length stamps → get_or stamps i d ≢ epoch
    → count_by (is_now epoch) (slice_set stamps i epoch) ≡ count_by (is_now epoch) stamps + 1
count-set stamps epoch i d within other =
    let now : one_of (is_now epoch epoch) ≡ 1 = ap one_of (eq-eqb epoch epoch refl) in
    let was : one_of (is_now epoch (get_or stamps i d)) ≡ 0 = ap one_of (ne_eqb (get_or stamps i d) epoch other) in
    omega (arith, now, was, sum_by-set (λ x. cond (is_now epoch x) 1 0) stamps i epoch d within)

pub count-unset : (stamps : List ℕ) (epoch i d : ℕ) → i < length stamps → get_or stamps i d ≡ epoch → 1 ≤ epoch
    → count_by (is_now epoch) (slice_set stamps i 0) + 1 ≡ count_by (is_now epoch) stamps
count-unset stamps epoch i d within its begun =
    let now : one_of (is_now epoch 0) ≡ 0 = ap one_of (ne_eqb 0 epoch (λ same. omega (arith, same, begun))) in
    let was : one_of (is_now epoch (get_or stamps i d)) ≡ 1 = ap one_of (eq-eqb (get_or stamps i d) epoch its) in
    omega (arith, now, was, sum_by-set (λ x. cond (is_now epoch x) 1 0) stamps i 0 d within)

-- flag i set, which wasn't
pub stamped-set : (stamps : List ℕ) (epoch count i stamp : ℕ) → IsStamped stamps epoch count → i < length stamps
    → stamp ≡ get_or stamps i stamp → stamp ≢ epoch → IsStamped (slice_set stamps i epoch) epoch (count + 1)
stamped-set stamps epoch count i stamp it within is other = search (rules, arith, length-set, count-set)

pub count-fits : (stamps : List ℕ) (epoch count i stamp : ℕ) → IsStamped stamps epoch count → i < length stamps
    → stamp ≡ get_or stamps i stamp → stamp ≢ epoch → count + 1 < 2 ^ 32
count-fits stamps epoch count i stamp it within is other =
    let now = stamped-set stamps epoch count i stamp it within is other in
    omega (arith, now.few, now.counted, count_by-le-length (is_now epoch) (slice_set stamps i epoch))

pub flags-set_true : (stamps : List ℕ) (epoch i : ℕ) → flags_of (slice_set stamps i epoch) epoch ≡ with_flag (flags_of stamps epoch) i
flags-set_true stamps epoch i = flags-set stamps epoch i epoch ∙ ap (slice_set (flags_of stamps epoch) i) (eq-eqb epoch epoch refl)

pub flags-already : (stamps : List ℕ) (epoch i stamp : ℕ) → i < length stamps → stamp ≡ get_or stamps i stamp → stamp ≡ epoch
    → flags_of stamps epoch ≡ with_flag (flags_of stamps epoch) i
flags-already stamps epoch i stamp within is same =
    sym (flags-same (flags_of stamps epoch) i true
    (flag-at stamps epoch i stamp within ∙ eq-eqb (get_or stamps i stamp) epoch (sym is ∙ same)))

-- flag i cleared, which was set
pub stamped-unset : (stamps : List ℕ) (epoch count i stamp : ℕ) → IsStamped stamps epoch count → i < length stamps
    → stamp ≡ get_or stamps i stamp → stamp ≡ epoch → IsStamped (slice_set stamps i 0) epoch (count - 1)
stamped-unset stamps epoch count i stamp it within is same =
    let fewer = count-unset stamps epoch i stamp within (sym is ∙ same) it.begun in
    record {
      few = omega (arith, it.few, length-set stamps i 0);
      begun = it.begun;
      each = All-set (λ stamp. stamp ≤ epoch) stamps i 0 (omega arith) it.each;
      counted = omega (arith, fewer, it.counted);
    }

pub count-some : (stamps : List ℕ) (epoch count i stamp : ℕ) → IsStamped stamps epoch count → i < length stamps
    → stamp ≡ get_or stamps i stamp → stamp ≡ epoch → 1 ≤ count
count-some stamps epoch count i stamp it within is same =
    omega (arith, count-unset stamps epoch i stamp within (sym is ∙ same) it.begun, it.counted)

pub flags-set_false : (stamps : List ℕ) (epoch count i : ℕ) → IsStamped stamps epoch count
    → flags_of (slice_set stamps i 0) epoch ≡ without_flag (flags_of stamps epoch) i
flags-set_false stamps epoch count i it =
    flags-set stamps epoch i 0
    ∙ ap (slice_set (flags_of stamps epoch) i) (ne_eqb 0 epoch (λ same. omega (arith, same, it.begun)))

pub flags-unset_already : (stamps : List ℕ) (epoch i stamp : ℕ) → i < length stamps → stamp ≡ get_or stamps i stamp → stamp ≢ epoch
    → flags_of stamps epoch ≡ without_flag (flags_of stamps epoch) i
flags-unset_already stamps epoch i stamp within is other =
    sym (flags-same (flags_of stamps epoch) i false
    (flag-at stamps epoch i stamp within ∙ ne_eqb (get_or stamps i stamp) epoch (λ same. other (is ∙ same))))

-- whether any is set
pub any-counted : (stamps : List ℕ) (epoch : ℕ) → has_flags (flags_of stamps epoch) ≡ not (count_by (is_now epoch) stamps == 0)
any-counted [] epoch = refl
any-counted (stamp ∷ stamps) epoch =
    elim (cases_Bool (is_now epoch stamp)) [
      | inl set ↦
          ap (λ b. b || has_flags (flags_of stamps epoch)) set
          ∙ ap not (sym (ne_eqb (count_by (is_now epoch) (stamp ∷ stamps)) 0
          (λ same. omega (arith, same, sum_by-cons (λ x. cond (is_now epoch x) 1 0) stamp stamps, one set))))
      | inr unset ↦
          ap (λ b. b || has_flags (flags_of stamps epoch)) unset
          ∙ any-counted stamps epoch
          ∙ ap (λ n. not (n == 0)) (sym (sum_by-cons (λ x. cond (is_now epoch x) 1 0) stamp stamps ∙ none unset))
    ]
  where
    one : is_now epoch stamp ≡ true → 1 ≤ cond (is_now epoch stamp) 1 0
    one set = subst (λ b. 1 ≤ cond b 1 0) (sym set) (omega arith)

    none : is_now epoch stamp ≡ false → cond (is_now epoch stamp) 1 0 + count_by (is_now epoch) stamps ≡ count_by (is_now epoch) stamps
    none unset = subst (λ b. cond b 1 0 + count_by (is_now epoch) stamps ≡ count_by (is_now epoch) stamps) (sym unset) (omega arith)

pub stamped-none : (stamps : List ℕ) (n : ℕ) → stamps ≡ replicate n 0 → n < 2 ^ 32 → IsStamped stamps 1 0
stamped-none stamps n none few = subst (λ s. IsStamped s 1 0) (sym none) (stamped-new n few)

pub flags-empty : (stamps : List ℕ) (n : ℕ) → stamps ≡ replicate n 0 → flags_of stamps 1 ≡ no_flags n
flags-empty stamps n none = ap (λ s. flags_of s 1) none ∙ flags-new n

pub ruleset new_flags = (stamped-none, flags-empty)

pub ruleset read_flags = (flag-at, length-flags)

pub ruleset set_flags = (length-flags, flag-at)

pub ruleset any_flags = (any-counted, eqb-true)

pub ruleset clear_flags = (flags-later, stamped-later, length-flags)

-- lists of flags keep their length
pub length-none : (flags : List Bool) (n : ℕ) → flags ≡ no_flags n → length flags ≡ n
unfolding no_flags
length-none flags n is = ap length is ∙ length-replicate n false

pub length-with : (old new : List Bool) (i : ℕ) → new ≡ with_flag old i → length new ≡ length old
length-with old new i is = ap length is ∙ length-set old i true

pub length-without : (old new : List Bool) (i : ℕ) → new ≡ without_flag old i → length new ≡ length old
length-without old new i is = ap length is ∙ length-set old i false

pub ruleset flag_lengths = (length-none, length-with, length-without)
