-- The registers with a line done, and the counters under them.
use Rattle.std.proofs.Common.{rules}
use Rattle.std.proofs.Common.{ℕ, zero, suc, ◌≡◌, ◌≢◌, ◌<◌, ◌+◌, ◌-◌, ◌^◌, Bool, true, false, cond, List, [], ◌∷◌, ◌++◌, length, take, get_or, set, map, Option, Some, None, inl, inr, refl, sym, ap, subst, ◌∙◌, arith}
use Rattle.std.specs.Prelude.{not, ◌&&◌, ◌||◌, ◌==◌, nat_lt}
use Rattle.std.specs.List.{remove, All, AllPairs, filter, list_any}
use Rattle.std.proofs.lemmas.Option.{none-some, same_Some}
use Rattle.std.proofs.lemmas.Bool.{cases_Bool, eqb-true, eqb-false, eq-eqb, ne_eqb, lt-ltb, ltb-true, and_parts, and_cases, and_left, and_right, and_from, not-true, not-false, false≢true, true≢false, or_cases}
use Rattle.std.proofs.lemmas.List.Elements.{All-nil, All-cons, All-head, All-tail}
use Rattle.std.proofs.lemmas.List.{length-map, get_or-map}
use Rattle.pmem_base.specs.Lines.{from_big_endian}
use Rattle.std.specs.Int.{bit_at}
use Rattle.std.proofs.lemmas.Nat.Bits.{bit_at-zero}
use Rattle.std.specs.Option.{option_or, is_some}
use Rattle.std.proofs.lemmas.List.Folds.{find-append}
use Rattle.std.proofs.lemmas.Grind.{get_or_tail}
use Rattle.std.proofs.lemmas.List.Kept.{AllPairs-filter}
use Rattle.std.proofs.lemmas.List.Quantifiers.{all_pairs_push}
use Rattle.pmem_base.specs.declared.lines.Line.{Line}
use Rattle.pmem_base.specs.declared.registers.Progress.{Progress}
use Rattle.pmem_base.specs.Shape.{Shape}
use Rattle.pmem_base.specs.Layout.{pages, page_of, index_in_page}
use Rattle.pmem_base.specs.Registers.{places_of_page, is_done, not_done, with_done, old_major, IsProgress}
use Rattle.page_reencrypt.proofs.DoneBits.{is_done-with_done_same, is_done-with_done_other, with_done-done, some_left, length-places, is_left-not_done}
use Rattle.split_counters.specs.declared.Block.{Block}
use Rattle.split_counters.specs.Blocks.{unpacked, block_counter}
use Rattle.page_reencrypt.specs.Registers.{is_holding, register_held, counter_under, counter_of, register_with_done, registers_with_done, register_of, begun}

-- ---- one register

pub with_done-page : (a : ℕ) (register : Progress) → (register_with_done a register).page ≡ register.page
with_done-page a register = search rules

with_done-old : (a : ℕ) (register : Progress) → (register_with_done a register).old ≡ register.old
with_done-old a register = search rules

-- another line is held as before
holding-other : (a b : ℕ) (register : Progress) → b ≢ a → is_holding (register_with_done a register) b ≡ is_holding register b
holding-other a b register apart =
    elim (cases_Bool (register.page == page_of a)) [
      | inl its ↦
          elim (cases_Bool (register.page == page_of b)) [
            | inl also ↦
                let other_place : index_in_page b ≢ index_in_page a =
                λ same. apart (omega (arith, eqb-true register.page (page_of a) its, eqb-true register.page (page_of b) also, same)) in
                ap (λ t. is_holding (cond t (with_done register (index_in_page a)) register) b) its
                ∙ ap (λ t. (register.page == page_of b) && not t) (is_done-with_done_other register (index_in_page a) (index_in_page b) other_place)
            | inr not_its ↦
                ap (λ t. is_holding (cond t (with_done register (index_in_page a)) register) b) its
                ∙ (and_left (register.page == page_of b) (not (is_done (with_done register (index_in_page a)) (index_in_page b))) not_its
                ∙ sym (and_left (register.page == page_of b) (not (is_done register (index_in_page b))) not_its))
          ]
      | inr other ↦ ap (λ t. is_holding (cond t (with_done register (index_in_page a)) register) b) other
    ]

-- the line itself isn't held any more
holding-itself : (a : ℕ) (register : Progress) → is_holding (register_with_done a register) a ≡ false
holding-itself a register =
    elim (cases_Bool (register.page == page_of a)) [
      | inl its ↦
          ap (λ t. is_holding (cond t (with_done register (index_in_page a)) register) a) its
          ∙ and_right (register.page == page_of a) (not (is_done (with_done register (index_in_page a)) (index_in_page a)))
          (ap not (is_done-with_done_same register (index_in_page a)))
      | inr other ↦
          ap (λ t. is_holding (cond t (with_done register (index_in_page a)) register) a) other
          ∙ and_left (register.page == page_of a) (not (is_done register (index_in_page a))) other
    ]

-- a register that holds a line has some left
holding-some_left : (register : Progress) (a : ℕ) → is_holding register a ≡ true → (nat_lt 0 (length (not_done register))) ≡ true
holding-some_left register a holds =
    let parts = and_parts (register.page == page_of a) (not (is_done register (index_in_page a))) holds in
    lt-ltb 0 (length (not_done register)) (some_left register (index_in_page a) (omega arith) (not-true (is_done register (index_in_page a)) parts.1))

-- a register that doesn't hold a line is the same with the line done
with_done-not_held : (a : ℕ) (register : Progress) → is_holding register a ≡ false → register_with_done a register ≡ register
with_done-not_held a register free =
    elim (cases_Bool (register.page == page_of a)) [
      | inl its ↦
          elim (and_cases (register.page == page_of a) (not (is_done register (index_in_page a))) free) [
            | inl other ↦ absurd (true≢false (sym its ∙ other))
            | inr done ↦
                ap (λ t. cond t (with_done register (index_in_page a)) register) its
                ∙ with_done-done register (index_in_page a) (not-false (is_done register (index_in_page a)) done)
          ]
      | inr other ↦ ap (λ t. cond t (with_done register (index_in_page a)) register) other
    ]

-- ---- the counter of a line

pub counter_of-held : (register : Progress) (registers : List Progress) (block : Block) (a : ℕ) → is_holding register a ≡ true → counter_of (register ∷ registers) block a ≡ block_counter (unpacked register.old) (index_in_page a)
counter_of-held register registers block a holds = ap (λ t. counter_under (cond t (Some register) (register_held registers a)) block a) holds

pub counter_of-passed : (register : Progress) (registers : List Progress) (block : Block) (a : ℕ) → is_holding register a ≡ false → counter_of (register ∷ registers) block a ≡ counter_of registers block a
counter_of-passed register registers block a free = ap (λ t. counter_under (cond t (Some register) (register_held registers a)) block a) free

-- where no register holds the line
pub counter_of-free : (registers : List Progress) (block : Block) (a : ℕ) → register_held registers a ≡ None → counter_of registers block a ≡ block_counter block (index_in_page a)
counter_of-free registers block a free = ap (λ r. counter_under r block a) free

-- every other line keeps its counter once a line is done
pub counter_of-other : (registers : List Progress) (block : Block) (a b : ℕ) → b ≢ a → counter_of (registers_with_done registers a) block b ≡ counter_of registers block b
counter_of-other [] block a b apart = refl
counter_of-other (register ∷ registers) block a b apart =
    let new = register_with_done a register in
    let rest = registers_with_done registers a in
    let kept = holding-other a b register apart in
    elim (cases_Bool (is_holding register b)) [
      | inl holds ↦
          let holds_new : is_holding (register_with_done a register) b ≡ true = kept ∙ holds in
          ap (λ t. counter_of (cond t (new ∷ rest) rest) block b) (holding-some_left new b holds_new)
          ∙ (counter_of-held new rest block b holds_new
          ∙ (ap (λ old. block_counter (unpacked old) (index_in_page b)) (with_done-old a register)
          ∙ sym (counter_of-held register registers block b holds)))
      | inr free ↦
          let free_new : is_holding (register_with_done a register) b ≡ false = kept ∙ free in
          let passed : counter_of (register ∷ registers) block b ≡ counter_of registers block b = counter_of-passed register registers block b free in
          elim (cases_Bool (nat_lt 0 (length (not_done new)))) [
            | inl some ↦
                ap (λ t. counter_of (cond t (new ∷ rest) rest) block b) some
                ∙ (counter_of-passed new rest block b free_new ∙ (counter_of-other registers block a b apart ∙ sym passed))
            | inr empty ↦
                ap (λ t. counter_of (cond t (new ∷ rest) rest) block b) empty ∙ (counter_of-other registers block a b apart ∙ sym passed)
          ]
    ]

-- and the line itself has that of its page's block
pub register_held-done : (registers : List Progress) (a : ℕ) → register_held (registers_with_done registers a) a ≡ None
register_held-done [] a = refl
register_held-done (register ∷ registers) a =
    let new = register_with_done a register in
    let rest = registers_with_done registers a in
    elim (cases_Bool (nat_lt 0 (length (not_done new)))) [
      | inl some ↦
          ap (λ t. register_held (cond t (new ∷ rest) rest) a) some
          ∙ (ap (λ t. cond t (Some new) (register_held rest a)) (holding-itself a register) ∙ register_held-done registers a)
      | inr empty ↦ ap (λ t. register_held (cond t (new ∷ rest) rest) a) empty ∙ register_held-done registers a
    ]

pub counter_of-done : (registers : List Progress) (block : Block) (a : ℕ) → counter_of (registers_with_done registers a) block a ≡ block_counter block (index_in_page a)
counter_of-done registers block a = counter_of-free (registers_with_done registers a) block a (register_held-done registers a)

-- ---- all registers

-- the registers stay where none holds the line
pub registers_with_done-free : (registers : List Progress) (a : ℕ) → All (λ register. 0 < length (not_done register)) registers → register_held registers a ≡ None → registers_with_done registers a ≡ registers
registers_with_done-free [] a left free = refl
registers_with_done-free (register ∷ registers) a left free =
    elim (cases_Bool (is_holding register a)) [
      | inl holds ↦ absurd (none-some register (sym free ∙ ap (λ t. cond t (Some register) (register_held registers a)) holds))
      | inr not_held ↦
          let rest : register_held registers a ≡ None = sym (ap (λ t. cond t (Some register) (register_held registers a)) not_held) ∙ free in
          let same = with_done-not_held a register not_held in
          let some : (nat_lt 0 (length (not_done register))) ≡ true = lt-ltb 0 (length (not_done register)) (All-head (λ r. 0 < length (not_done r)) register registers left) in
          ap (λ r. cond (nat_lt 0 (length (not_done r))) (r ∷ registers_with_done registers a) (registers_with_done registers a)) same
          ∙ (ap (λ t. cond t (register ∷ registers_with_done registers a) (registers_with_done registers a)) some
          ∙ ap (λ rs. register ∷ rs) (registers_with_done-free registers a (All-tail (λ r. 0 < length (not_done r)) register registers left) rest))
    ]

-- what holds of each register that stays
pub All-registers_with_done : (P Q : Progress → Type 0) (a : ℕ) → ((register : Progress) → P register → 0 < length (not_done (register_with_done a register)) → Q (register_with_done a register)) → (registers : List Progress) → All P registers → All Q (registers_with_done registers a)
All-registers_with_done P Q a gives [] all = All-nil Q
All-registers_with_done P Q a gives (register ∷ registers) all =
    let new = register_with_done a register in
    let rest = registers_with_done registers a in
    let later = All-registers_with_done P Q a gives registers (All-tail P register registers all) in
    elim (cases_Bool (nat_lt 0 (length (not_done new)))) [
      | inl some ↦
          subst (λ t. All Q (cond t (new ∷ rest) rest)) (sym some)
          (All-cons Q new rest (gives register (All-head P register registers all) (ltb-true 0 (length (not_done new)) some)) later)
      | inr empty ↦ subst (λ t. All Q (cond t (new ∷ rest) rest)) (sym empty) later
    ]

-- the old major is that of the old block
pub old_major-same : (new old : Progress) → new.old ≡ old.old → old_major new ≡ old_major old
unfolding old_major
old_major-same new old same = ap (λ line. from_big_endian (take 8 line.0)) same

pub registers_with_done-IsProgress : (g : Shape) (registers : List Progress) (a : ℕ) → All (IsProgress g) registers → All (IsProgress g) (registers_with_done registers a)
registers_with_done-IsProgress g registers a valid =
    All-registers_with_done (IsProgress g) (IsProgress g) a
    (λ register it some.
    record {
      its_page = subst (λ p. p < pages g) (sym (with_done-page a register)) it.its_page;
      can_roll = subst (λ n. n < 2 ^ 64 - 1) (sym (old_major-same (register_with_done a register) register (with_done-old a register))) it.can_roll;
      some_left = some;
    })
    registers valid

-- their pages stay distinct
pub registers_with_done-distinct : (registers : List Progress) (a : ℕ) → AllPairs (λ x y. x.page ≢ y.page) registers → AllPairs (λ x y. x.page ≢ y.page) (registers_with_done registers a)
registers_with_done-distinct registers a apart =
    AllPairs-filter (λ x y. x.page ≢ y.page) (λ register. nat_lt 0 (length (not_done register))) (map (register_with_done a) registers)
    (λ i j d before inside.
    let short : j < length registers = omega (arith, length-map registers (register_with_done a), inside) in
    let first : (get_or (map (register_with_done a) registers) i d).page ≡ (get_or registers i d).page =
    ap (λ r. r.page) (get_or-map (register_with_done a) registers i d d (omega (arith, short, before))) ∙ with_done-page a (get_or registers i d) in
    let second : (get_or (map (register_with_done a) registers) j d).page ≡ (get_or registers j d).page =
    ap (λ r. r.page) (get_or-map (register_with_done a) registers j d d short) ∙ with_done-page a (get_or registers j d) in
    λ same. apart i j d before short (sym first ∙ (same ∙ second)))

-- ---- a page begins

option_or_none : (o : Option Progress) → option_or o None ≡ o
option_or_none v0 = search rules

-- no register is of the page
pub none_of_page : (registers : List Progress) (page : ℕ) → register_of registers page ≡ None → All (λ register. register.page ≢ page) registers
none_of_page [] page none = All-nil (λ register. register.page ≢ page)
none_of_page (register ∷ registers) page none =
    elim (cases_Bool (register.page == page)) [
      | inl its ↦ absurd (none-some register (sym none ∙ ap (λ t. cond t (Some register) (register_of registers page)) its))
      | inr other ↦
          All-cons (λ r. r.page ≢ page) register registers (eqb-false register.page page other)
          (none_of_page registers page (sym (ap (λ t. cond t (Some register) (register_of registers page)) other) ∙ none))
    ]

-- then none holds a line of it
pub free_from_none : (registers : List Progress) (a : ℕ) → register_of registers (page_of a) ≡ None → register_held registers a ≡ None
free_from_none [] a none = refl
free_from_none (register ∷ registers) a none =
    elim (cases_Bool (register.page == page_of a)) [
      | inl its ↦ absurd (none-some register (sym none ∙ ap (λ t. cond t (Some register) (register_of registers (page_of a))) its))
      | inr other ↦
          ap (λ t. cond (t && not (is_done register (index_in_page a))) (Some register) (register_held registers a)) other
          ∙ free_from_none registers a (sym (ap (λ t. cond t (Some register) (register_of registers (page_of a))) other) ∙ none)
    ]

is_done-begun : (page : ℕ) (old : Line) (i : ℕ) → is_done (begun page old) i ≡ false
is_done-begun page old i = ne_eqb (bit_at 0 i) 1 (λ e. omega (arith, bit_at-zero i, e))

filter_all : (p : ℕ → Bool) → ((i : ℕ) → p i ≡ true) → (xs : List ℕ) → filter p xs ≡ xs
filter_all p passes [] = refl
filter_all p passes (x ∷ xs) = ap (λ t. cond t (x ∷ filter p xs) (filter p xs)) (passes x) ∙ ap (λ ys. x ∷ ys) (filter_all p passes xs)

-- no line of it is done
pub not_done-begun : (page : ℕ) (old : Line) → not_done (begun page old) ≡ places_of_page
unfolding not_done
not_done-begun page old = filter_all (λ i. not (is_done (begun page old) i)) (λ i. ap not (is_done-begun page old i)) places_of_page

-- lines of other pages keep their counters
pub counter_of-begun_other : (registers : List Progress) (page : ℕ) (old : Line) (block : Block) (a : ℕ) → page_of a ≢ page → counter_of (registers ++ begun page old ∷ []) block a ≡ counter_of registers block a
counter_of-begun_other registers page old block a apart =
    let elsewhere : is_holding (begun page old) a ≡ false = and_left (page == page_of a) (not (is_done (begun page old) (index_in_page a))) (ne_eqb page (page_of a) (λ same. apart (sym same))) in
    ap (λ r. counter_under r block a) (find-append (λ register. is_holding register a) registers (begun page old ∷ []))
    ∙ (ap (λ t. counter_under (option_or (register_held registers a) (cond t (Some (begun page old)) None)) block a) elsewhere
    ∙ ap (λ r. counter_under r block a) (option_or_none (register_held registers a)))

-- and its own lines have those of the old block
pub counter_of-begun : (registers : List Progress) (page : ℕ) (old : Line) (block : Block) (a : ℕ) → page_of a ≡ page → register_of registers page ≡ None → counter_of (registers ++ begun page old ∷ []) block a ≡ block_counter (unpacked old) (index_in_page a)
counter_of-begun registers page old block a its none =
    let holds : is_holding (begun page old) a ≡ true = and_from (page == page_of a) (not (is_done (begun page old) (index_in_page a))) (eq-eqb page (page_of a) (sym its)) (ap not (is_done-begun page old (index_in_page a))) in
    let free : register_held registers a ≡ None = free_from_none registers a (ap (register_of registers) its ∙ none) in
    ap (λ r. counter_under r block a) (find-append (λ register. is_holding register a) registers (begun page old ∷ []))
    ∙ (ap (λ r. counter_under (option_or r (cond (is_holding (begun page old) a) (Some (begun page old)) None)) block a) free
    ∙ ap (λ t. counter_under (cond t (Some (begun page old)) None) block a) holds)

pub begun-distinct : (registers : List Progress) (page : ℕ) (old : Line) → register_of registers page ≡ None → AllPairs (λ x y. x.page ≢ y.page) registers → AllPairs (λ x y. x.page ≢ y.page) (registers ++ begun page old ∷ [])
begun-distinct registers page old none apart =
    all_pairs_push (λ x y. x.page ≢ y.page) registers (begun page old) apart (none_of_page registers page none)

pub begun-IsProgress : (g : Shape) (page : ℕ) (old : Line) → page < pages g → (unpacked old).major < 2 ^ 64 - 1 → IsProgress g (begun page old)
unfolding unpacked old_major
begun-IsProgress g page old inside can_roll =
    record {
      its_page = inside;
      can_roll = can_roll;
      some_left = subst (λ xs. 0 < length xs) (sym (not_done-begun page old)) (omega (arith, length-places));
    }

-- the old major is that of the old block
pub old_major-unpacked : (register : Progress) → old_major register ≡ (unpacked register.old).major
unfolding unpacked old_major
old_major-unpacked register = refl

-- ---- the register that holds a line

-- what holds of all registers holds of it, and it holds the line
pub held-All : (P : Progress → Type 0) (registers : List Progress) (a : ℕ) (register : Progress) → register_held registers a ≡ Some register → All P registers → P register × (is_holding register a ≡ true)
held-All P [] a register held all = absurd (none-some register held)
held-All P (first ∷ registers) a register held all =
    elim (cases_Bool (is_holding first a)) [
      | inl holds ↦
          let same : first ≡ register = same_Some first register (sym (ap (λ t. cond t (Some first) (register_held registers a)) holds) ∙ held) in
          (subst P same (All-head P first registers all), subst (λ r. is_holding r a ≡ true) same holds)
      | inr free ↦
          held-All P registers a register (sym (ap (λ t. cond t (Some first) (register_held registers a)) free) ∙ held) (All-tail P first registers all)
    ]

-- what holds of each line that isn't done holds of a held one
all_at_any : (P : ℕ → Type 0) (xs : List ℕ) (i : ℕ) → All P xs → list_any (λ j. j == i) xs ≡ true → P i
all_at_any P [] i all any = absurd (false≢true any)
all_at_any P (x ∷ xs) i all any =
    elim (or_cases (x == i) (list_any (λ j. j == i) xs) any) [
      | inl here ↦ subst P (eqb-true x i here) (All-head P x xs all)
      | inr later ↦ all_at_any P xs i (All-tail P x xs all) later
    ]

pub not_done-All : (P : ℕ → Type 0) (register : Progress) (i : ℕ) → i < 64 → is_done register i ≡ false → All P (not_done register) → P i
not_done-All P register i small open_ all = all_at_any P (not_done register) i all (is_left-not_done register i small ∙ ap not open_)

-- ---- the register of a page

-- what holds of all registers holds of it, and it is of the page
pub registered-All : (P : Progress → Type 0) (registers : List Progress) (page : ℕ) (register : Progress) → register_of registers page ≡ Some register → All P registers → P register × (register.page ≡ page)
registered-All P [] page register found all = absurd (none-some register found)
registered-All P (first ∷ registers) page register found all =
    elim (cases_Bool (first.page == page)) [
      | inl its ↦
          let same : first ≡ register = same_Some first register (sym (ap (λ t. cond t (Some first) (register_of registers page)) its) ∙ found) in
          (subst P same (All-head P first registers all), subst (λ r. r.page ≡ page) same (eqb-true first.page page its))
      | inr other ↦
          registered-All P registers page register (sym (ap (λ t. cond t (Some first) (register_of registers page)) other) ∙ found) (All-tail P first registers all)
    ]

-- where no register is of the page
pub none_from_All : (registers : List Progress) (page : ℕ) → All (λ register. register.page ≢ page) registers → register_of registers page ≡ None
none_from_All [] page all = refl
none_from_All (register ∷ registers) page all =
    ap (λ t. cond t (Some register) (register_of registers page)) (ne_eqb register.page page (All-head (λ r. r.page ≢ page) register registers all))
    ∙ none_from_All registers page (All-tail (λ r. r.page ≢ page) register registers all)

back_one : (k : ℕ) → k + 1 - 1 ≡ k
back_one k = omega arith

-- a line that the page's register has done isn't held, since no other register is of the page
pub free_from_done : (registers : List Progress) (a : ℕ) (register : Progress) → AllPairs (λ x y. x.page ≢ y.page) registers → register_of registers (page_of a) ≡ Some register → is_done register (index_in_page a) ≡ true → register_held registers a ≡ None
free_from_done [] a register apart found done = refl
free_from_done (first ∷ registers) a register apart found done =
    elim (cases_Bool (first.page == page_of a)) [
      | inl its ↦
          let same : first ≡ register = same_Some first register (sym (ap (λ t. cond t (Some first) (register_of registers (page_of a))) its) ∙ found) in
          let free : is_holding first a ≡ false = and_right (first.page == page_of a) (not (is_done first (index_in_page a))) (ap not (ap (λ r. is_done r (index_in_page a)) same ∙ done)) in
          let others : All (λ r. r.page ≢ page_of a) registers =
          λ k d inside e. apart 0 (k + 1) d (omega arith) (omega (arith, inside)) (eqb-true first.page (page_of a) its ∙ sym (ap (λ r. r.page) (get_or_tail first registers (k + 1) d (omega arith) ∙ ap (λ n. get_or registers n d) (back_one k)) ∙ e)) in
          ap (λ t. cond t (Some first) (register_held registers a)) free ∙ free_from_none registers a (none_from_All registers (page_of a) others)
      | inr other ↦
          let free : is_holding first a ≡ false = and_left (first.page == page_of a) (not (is_done first (index_in_page a))) other in
          ap (λ t. cond t (Some first) (register_held registers a)) free
          ∙ free_from_done registers a register
          (λ i j d before inside e. apart (i + 1) (j + 1) d (omega (arith, before)) (omega (arith, inside))
          (ap (λ r. r.page) (get_or_tail first registers (i + 1) d (omega arith) ∙ ap (λ n. get_or registers n d) (back_one i)) ∙ e ∙ sym (ap (λ r. r.page) (get_or_tail first registers (j + 1) d (omega arith) ∙ ap (λ n. get_or registers n d) (back_one j)))))
          (sym (ap (λ t. cond t (Some first) (register_of registers (page_of a))) other) ∙ found) done
    ]

-- ---- whether a line is held

pub is_some-held : (registers : List Progress) (a : ℕ) → is_some (register_held registers a) ≡ list_any (λ register. is_holding register a) registers
is_some-held [] a = refl
is_some-held (register ∷ registers) a =
    elim (cases_Bool (is_holding register a)) [
      | inl holds ↦
          ap (λ t. is_some (cond t (Some register) (register_held registers a))) holds
          ∙ ap (λ t. t || list_any (λ r. is_holding r a) registers) (sym holds)
      | inr free ↦
          ap (λ t. is_some (cond t (Some register) (register_held registers a))) free
          ∙ (is_some-held registers a
          ∙ ap (λ t. t || list_any (λ r. is_holding r a) registers) (sym free))
    ]

-- ---- one register replaced or taken away

others_stay : (registers : List Progress) (a : ℕ) → All (λ register. 0 < length (not_done register)) registers → All (λ register. register.page ≢ page_of a) registers → registers_with_done registers a ≡ registers
others_stay registers a left others = registers_with_done-free registers a left (free_from_none registers a (none_from_All registers (page_of a) others))

cons_cond : (t : Bool) (first : Progress) (xs ys : List Progress) → cond t (first ∷ xs) (first ∷ ys) ≡ first ∷ cond t xs ys
cons_cond v0 first xs ys = search rules

-- the registers with line a done are those with the page's register, at place n, replaced; or without it after its last line
pub registers_with_done-at : (registers : List Progress) (a n : ℕ) (d : Progress) → All (λ register. 0 < length (not_done register)) registers → AllPairs (λ x y. x.page ≢ y.page) registers → n < length registers → (get_or registers n d).page ≡ page_of a → registers_with_done registers a ≡ cond (nat_lt 0 (length (not_done (with_done (get_or registers n d) (index_in_page a))))) (set registers n (with_done (get_or registers n d) (index_in_page a))) (remove registers n)
registers_with_done-at [] a n d left apart inside its = absurd (omega (arith, inside))
registers_with_done-at (first ∷ registers) a zero d left apart inside its =
    let others : All (λ r. r.page ≢ page_of a) registers =
    λ k e below same. apart 0 (k + 1) e (omega arith) (omega (arith, below)) (its ∙ sym (ap (λ r. r.page) (get_or_tail first registers (k + 1) e (omega arith) ∙ ap (λ n. get_or registers n e) (back_one k)) ∙ same)) in
    let rest = others_stay registers a (All-tail (λ r. 0 < length (not_done r)) first registers left) others in
    ap (λ t. cond (nat_lt 0 (length (not_done (cond t (with_done first (index_in_page a)) first)))) (cond t (with_done first (index_in_page a)) first ∷ registers_with_done registers a) (registers_with_done registers a)) (eq-eqb first.page (page_of a) its)
    ∙ ap (λ rs. cond (nat_lt 0 (length (not_done (with_done first (index_in_page a))))) (with_done first (index_in_page a) ∷ rs) rs) rest
registers_with_done-at (first ∷ registers) a (suc n) d left apart inside its =
    let later = registers_with_done-at registers a n d (All-tail (λ r. 0 < length (not_done r)) first registers left)
    (λ i j e before below same. apart (i + 1) (j + 1) e (omega (arith, before)) (omega (arith, below))
    (ap (λ r. r.page) (get_or_tail first registers (i + 1) e (omega arith) ∙ ap (λ m. get_or registers m e) (back_one i)) ∙ same ∙ sym (ap (λ r. r.page) (get_or_tail first registers (j + 1) e (omega arith) ∙ ap (λ m. get_or registers m e) (back_one j)))))
    (omega (arith, inside)) its in
    let other : first.page ≢ page_of a = λ same. apart 0 (suc n) d (omega arith) inside (same ∙ sym its) in
    let some : (nat_lt 0 (length (not_done first))) ≡ true = lt-ltb 0 (length (not_done first)) (All-head (λ r. 0 < length (not_done r)) first registers left) in
    let new = with_done (get_or registers n d) (index_in_page a) in
    ap (λ t. cond (nat_lt 0 (length (not_done (cond t (with_done first (index_in_page a)) first)))) (cond t (with_done first (index_in_page a)) first ∷ registers_with_done registers a) (registers_with_done registers a)) (ne_eqb first.page (page_of a) other)
    ∙ (ap (λ t. cond t (first ∷ registers_with_done registers a) (registers_with_done registers a)) some
    ∙ (ap (λ rs. first ∷ rs) later
    ∙ sym (cons_cond (nat_lt 0 (length (not_done new))) first (set registers n new) (remove registers n))))
