-- What a source gave, and what all its bytes may be.
use Rattle.std.proofs.Common.{◌≡◌, ◌∙◌, ◌<◌, ℕ, List, [], ◌∷◌, ◌++◌, arith, length, take, drop, None, Some, IfSome, Result, Ok, Err, refl, sym, ap, subst, append_assoc, append-nil}
use Rattle.std.specs.Prelude.{Option, Bool, true, false}
use Rattle.std.specs.Io.KnownBytes.{Consumes, Keeps, IsAtEnd, ReadConsumes, prepend_known}
use Rattle.std.proofs.KnownBytes.{Consumes-trans, Consumes-nil}
use Rattle.std.proofs.Transfers.{drop-appended}
use Rattle.pmem_cli.specs.Pulling.{RemembersLeft}
use Rattle.pmem_cli.specs.Wholes.{Known, Gave, HasGiven, MayBe, left_in, left_before_in, left_or_end}

-- ---- what was given

pub given_none : (k : Known) → HasGiven k k
given_none k = ([], record { given = sym (append-nil k.given); left = Consumes-nil k.left })

pub given_on : (a b c : Known) → HasGiven a b → HasGiven b c → HasGiven a c
given_on a b c (xs, first) (ys, next) = (
  xs ++ ys,
  record {
    given = next.given ∙ ap (λ l. l ++ ys) first.given ∙ append_assoc a.given xs ys;
    left = Consumes-trans a.left b.left c.left xs ys first.left next.left;
  },
)

-- ---- what may be the whole

left_before : (before now : Option (List ℕ)) (bytes rest : List ℕ) → Consumes before now bytes → IfSome now (λ left. rest ≡ left)
    → IfSome before (λ left. bytes ++ rest ≡ left)
left_before None now bytes rest taken left = tt
left_before (Some x) None bytes rest taken left = absurd taken
left_before (Some x) (Some y) bytes rest taken left = ap (λ l. bytes ++ l) left ∙ sym taken

-- what may be it after may be it before
pub may_before : (a b : Known) → HasGiven a b → (whole : List ℕ) → MayBe b whole → MayBe a whole
may_before a b (bytes, gave) whole may =
    record {
      rest = bytes ++ may.rest;
      cut = may.cut ∙ ap (λ l. l ++ may.rest) gave.given ∙ append_assoc a.given bytes may.rest;
      left = left_before a.left b.left bytes may.rest gave.left may.left;
    }

-- what was given is taken from what is left of it
pub given_taken : {S : Type 0} (known : S → Known) (old new : S) (bytes whole : List ℕ) → Gave (known old) (known new) bytes → MayBe (known new) whole
    → Consumes (left_in known whole old) (left_in known whole new) bytes
unfolding left_in
given_taken known old new bytes whole gave may =
    drop-appended (known old).given whole (bytes ++ may.rest)
    (may.cut ∙ ap (λ l. l ++ may.rest) gave.given ∙ append_assoc (known old).given bytes may.rest)
    ∙ ap (λ l. bytes ++ l) (sym (drop-appended (known new).given whole may.rest may.cut))

-- if the end was given, nothing is left of it
pub end_left : {S : Type 0} (known : S → Known) (new : S) (whole : List ℕ) → (known new).left ≡ Some [] → MayBe (known new) whole
    → IsAtEnd (left_in known whole new)
unfolding left_in
end_left known new whole end may = drop-appended (known new).given whole may.rest may.cut ∙ (rw end at may.left)

pub left_remembered : {S : Type 0} (known : S → Known) (old new : S) (whole : List ℕ) → (known new).given_before ≡ (known old).given
    → RemembersLeft (left_before_in known whole new) (left_in known whole old)
unfolding left_in left_before_in
left_remembered known old new whole same = ap (λ l. Some (drop (length l) whole)) (sym same)

-- ---- pulls

-- a pull puts what it gave at the beginning of what is ahead
pub ahead_kept : (before now : Option (List ℕ)) (bytes : List ℕ) → Consumes before now bytes → Keeps before (prepend_known bytes now)
ahead_kept None now bytes taken = tt
ahead_kept (Some x) None bytes taken = absurd taken
ahead_kept (Some x) (Some y) bytes taken = sym taken

pub nothing_taken : (before now : Option (List ℕ)) → Consumes before now [] → Keeps before now
nothing_taken None now taken = tt
nothing_taken (Some x) None taken = absurd taken
nothing_taken (Some x) (Some y) taken = sym taken

pub none_of : (bytes : List ℕ) → length bytes ≡ 0 → bytes ≡ []
none_of [] zero = refl
none_of (byte ∷ bytes) zero = absurd (omega (arith, zero))

-- ---- a reader

-- a reader that gave its end has nothing left
at_its_end : (before now : Option (List ℕ)) (bytes : List ℕ) → Consumes before now bytes → IsAtEnd now → Consumes before (Some []) bytes
at_its_end None now bytes taken end = tt
at_its_end (Some x) None bytes taken end = absurd taken
at_its_end (Some x) (Some y) bytes taken end = rw end at taken

-- what a read took, if its end is known
pub read_taken : (before now : Option (List ℕ)) (n : ℕ) (buf : List ℕ) (ended : Bool) → Consumes before now (take n buf)
    → (n ≡ 0 → 0 < length buf → IsAtEnd now) → (ended ≡ true → (n ≡ 0) × (0 < length buf)) → Consumes before (left_or_end ended now) (take n buf)
read_taken before now n buf true taken end why = at_its_end before now (take n buf) taken (end (why refl).0 (why refl).1)
read_taken before now n buf false taken end why = taken

-- ---- a whole

rest_of : Option (List ℕ) → List ℕ
rest_of None = []
rest_of (Some left) = left

rest_known : (left : Option (List ℕ)) → IfSome left (λ bytes. rest_of left ≡ bytes)
unfolding rest_of
rest_known None = tt
rest_known (Some left) = refl

-- there always is one
pub some_whole : (k : Known) → (whole : List ℕ) × MayBe k whole
some_whole k = (k.given ++ rest_of k.left, record { rest = rest_of k.left; cut = refl; left = rest_known k.left })

-- ---- a source that exposes what it has left

still_left : (told bytes : List ℕ) (left : Option (List ℕ)) → Consumes (Some told) left bytes → (rest : List ℕ) × (left ≡ Some rest) × (told ≡ bytes ++ rest)
still_left told bytes None taken = absurd taken
still_left told bytes (Some rest) taken = (rest, refl, taken)

some_left : (left : Option (List ℕ)) (rest : List ℕ) → left ≡ Some rest → IfSome left (λ bytes. rest ≡ bytes)
some_left left rest is = subst (λ (l : Option (List ℕ)). IfSome l (λ bytes. rest ≡ bytes)) (sym is) refl

-- what it exposes is what is left of a whole
pub whole_told : (before now : Known) (told : List ℕ) → HasGiven before now → before.left ≡ Some told
    → (whole : List ℕ) × MayBe now whole × (left_in (λ known. known) whole before ≡ before.left) × (left_in (λ known. known) whole now ≡ now.left)
unfolding left_in
whole_told before now told (bytes, gave) is =
    let (rest, now_left, cut) = still_left told bytes now.left (subst (λ (left : Option (List ℕ)). Consumes left now.left bytes) is gave.left) in
    let whole = now.given ++ rest in
    let split : whole ≡ before.given ++ (bytes ++ rest) = ap (λ l. l ++ rest) gave.given ∙ append_assoc before.given bytes rest in (
      whole,
      record { rest = rest; cut = refl; left = some_left now.left rest now_left },
      ap Some (drop-appended before.given whole (bytes ++ rest) split ∙ sym cut) ∙ sym is,
      ap Some (drop-appended now.given whole rest refl) ∙ sym now_left,
    )
