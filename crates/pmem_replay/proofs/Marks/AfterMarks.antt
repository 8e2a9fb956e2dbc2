-- What marks make of the touched pages and the flushed positions, and so of the blocks that may be dirty.
use Rattle.std.proofs.Common.{ℕ, ◌≡◌, ◌<◌, inl, inr, Bool, true, false, cond, List, [], ◌∷◌, length, IsTrue, refl, sym, ap, subst, ◌∙◌, arith}
use Rattle.std.specs.Prelude.{All, not, ◌&&◌, ◌==◌, nat_lt, replicate, slice_index_or, if◌then◌else◌}
use Rattle.std.specs.List.{list_any, range_with_len}
use Rattle.std.proofs.lemmas.Bool.{true≢false, cases_eq, cases_lt, and_parts, and_from, or_cases, eqb-true}
use Rattle.std.proofs.lemmas.List.{length-set, length-replicate, get_or-replicate, get_or_past, get_or-set_same, get_or-set_other, set_past}
use Rattle.std.proofs.lemmas.List.Elements.{All-head, All-tail}
use Rattle.std.proofs.lemmas.List.Folds.{Any-from_list_any, list_any_at}
use Rattle.std.proofs.lemmas.List.FromFn.{length-range_with_len, get_or-range_with_len}
use Rattle.pmem_base.specs.declared.answers.Mark.{Mark}
use Rattle.pmem_base.specs.declared.answers.Mark.TheVariants.{Begin, Seal}
use Rattle.pmem_base.specs.Shape.{Shape, is_lazy}
use Rattle.pmem_base.specs.Layout as layout
use Rattle.pmem_base.specs.Layout.{page_of}
use Rattle.bonsai_tree.specs.Positions.{level_of, is_on_path}
use Rattle.seal_ledger.specs.Ledger.{IsMark}
use Rattle.plain_model.specs.State.{PlainState, no_flags, is_flagged, with_flag}
use Rattle.plain_model.specs.After.{after_mark, after_marks}
use Rattle.pmem_engine.specs.Outcomes.{is_touching, IsTouchedBy}
use Rattle.pmem_replay.proofs.Boards.FlagLemmas.{length-no_flags}

-- the flags of touched pages, and of flushed positions, once a mark is made, and once marks are
abbrev pub touched_after_mark : List Bool → Mark → List Bool
touched_after_mark touched (Begin page) = with_flag touched page
touched_after_mark touched (Seal at ctr cipher tag) = if nat_lt 0 ctr.minor then with_flag touched (page_of at) else touched

abbrev pub flushed_after_mark : Shape → List Bool → Mark → List Bool
flushed_after_mark g flushed (Begin page) = no_flags (layout.meta_lines g)
flushed_after_mark g flushed (Seal at ctr cipher tag) = if nat_lt 0 ctr.minor then no_flags (layout.meta_lines g) else flushed

abbrev pub touched_after : List Bool → List Mark → List Bool
touched_after touched [] = touched
touched_after touched (mark ∷ marks) = touched_after (touched_after_mark touched mark) marks

abbrev pub flushed_after : Shape → List Bool → List Mark → List Bool
flushed_after g flushed [] = flushed
flushed_after g flushed (mark ∷ marks) = flushed_after g (flushed_after_mark g flushed mark) marks

-- the state with these flags
abbrev pub with_flags : PlainState → List Bool → List Bool → PlainState
with_flags state touched flushed = record state { touched = touched; flushed = flushed }

after_mark-is : (g : Shape) (state : PlainState) (mark : Mark)
    → after_mark g state mark ≡ with_flags state (touched_after_mark state.touched mark) (flushed_after_mark g state.flushed mark)
after_mark-is g state (Begin page) = refl
after_mark-is g state (Seal at ctr cipher tag) = go (nat_lt 0 ctr.minor)
  where
    go : (b : Bool)
        → cond b (with_flags state (with_flag state.touched (page_of at)) (no_flags (layout.meta_lines g))) state
        ≡ with_flags state (cond b (with_flag state.touched (page_of at)) state.touched) (cond b (no_flags (layout.meta_lines g)) state.flushed)
    go true = refl
    go false = refl

-- marks change nothing else of the state
pub after_marks-is : (g : Shape) (state : PlainState) (marks : List Mark)
    → after_marks g state marks ≡ with_flags state (touched_after state.touched marks) (flushed_after g state.flushed marks)
after_marks-is g state [] = refl
after_marks-is g state (mark ∷ marks) =
    ap (λ s. after_marks g s marks) (after_mark-is g state mark)
    ∙ after_marks-is g (with_flags state (touched_after_mark state.touched mark) (flushed_after_mark g state.flushed mark)) marks

-- ---- lengths

pub length-touched_after : (touched : List Bool) (marks : List Mark) → length (touched_after touched marks) ≡ length touched
length-touched_after touched [] = refl
length-touched_after touched (mark ∷ marks) = length-touched_after (touched_after_mark touched mark) marks ∙ one mark
  where
    choice : (b : Bool) (p : ℕ) → length (cond b (with_flag touched p) touched) ≡ length touched
    choice true p = length-set touched p true
    choice false p = refl

    one : (mark : Mark) → length (touched_after_mark touched mark) ≡ length touched
    one (Begin page) = length-set touched page true
    one (Seal at ctr cipher tag) = choice (nat_lt 0 ctr.minor) (page_of at)

pub length-flushed_after : (g : Shape) (flushed : List Bool) (marks : List Mark) → length flushed ≡ layout.meta_lines g
    → length (flushed_after g flushed marks) ≡ layout.meta_lines g
length-flushed_after g flushed [] whole = whole
length-flushed_after g flushed (mark ∷ marks) whole = length-flushed_after g (flushed_after_mark g flushed mark) marks (one mark)
  where
    choice : (b : Bool) → length (cond b (no_flags (layout.meta_lines g)) flushed) ≡ layout.meta_lines g
    choice true = length-no_flags (layout.meta_lines g)
    choice false = whole

    one : (mark : Mark) → length (flushed_after_mark g flushed mark) ≡ layout.meta_lines g
    one (Begin page) = length-no_flags (layout.meta_lines g)
    one (Seal at ctr cipher tag) = choice (nat_lt 0 ctr.minor)

-- ---- flags

pub unflagged : (n y : ℕ) → is_flagged (no_flags n) y ≡ false
unfolding no_flags
unflagged n y =
    elim (cases_lt y n) [
      | inl small ↦ get_or-replicate n y false false small
      | inr past ↦ get_or_past (replicate n false) y false (omega (arith, past, length-replicate n false))
    ]

pub flag_set : (flags : List Bool) (p : ℕ) → p < length flags → is_flagged (with_flag flags p) p ≡ true
flag_set flags p within = get_or-set_same flags p true false within

pub flag_kept : (flags : List Bool) (q p : ℕ) → is_flagged flags p ≡ true → is_flagged (with_flag flags q) p ≡ true
flag_kept flags q p set =
    elim (cases_eq p q) [
      | inl same ↦
          elim (cases_lt q (length flags)) [
            | inl within ↦ subst (λ z. is_flagged (with_flag flags q) z ≡ true) (sym same) (flag_set flags q within)
            | inr past ↦ ap (λ f. is_flagged f p) (set_past flags q true past) ∙ set
          ]
      | inr apart ↦ get_or-set_other flags q p true false apart ∙ set
    ]

-- ---- blocks that may be dirty

-- x is of a lazy level, and on the path of a touched page
abbrev pub is_touched_block : Shape → List Bool → ℕ → Bool
is_touched_block g touched x =
    is_lazy g (level_of x)
    && list_any (λ page. is_flagged touched page && is_on_path g page x) (range_with_len 0 (layout.pages g))

touched_block : (g : Shape) (touched : List Bool) (page x : ℕ) → page < layout.pages g → is_flagged touched page ≡ true
    → IsTrue (is_on_path g page x) → IsTrue (is_lazy g (level_of x)) → is_touched_block g touched x ≡ true
touched_block g touched page x within flag on lazy =
    let place : slice_index_or (range_with_len 0 (layout.pages g)) page 0 ≡ page =
    get_or-range_with_len 0 (layout.pages g) page 0 within ∙ omega arith in
    and_from (is_lazy g (level_of x)) (list_any (λ page. is_flagged touched page && is_on_path g page x) (range_with_len 0 (layout.pages g))) lazy
    (list_any_at (λ page. is_flagged touched page && is_on_path g page x) (range_with_len 0 (layout.pages g)) page 0
    (omega (arith, within, length-range_with_len 0 (layout.pages g)))
    (subst (λ p. (is_flagged touched p && is_on_path g p x) ≡ true) (sym place)
    (and_from (is_flagged touched page) (is_on_path g page x) flag on)))

touched_more : (g : Shape) (old new : List Bool) (x : ℕ) → ((p : ℕ) → is_flagged old p ≡ true → is_flagged new p ≡ true)
    → is_touched_block g old x ≡ true → is_touched_block g new x ≡ true
touched_more g old new x kept it =
    let both =
    and_parts (is_lazy g (level_of x)) (list_any (λ page. is_flagged old page && is_on_path g page x) (range_with_len 0 (layout.pages g))) it in
    let found = Any-from_list_any (λ page. is_flagged old page && is_on_path g page x) (range_with_len 0 (layout.pages g)) both.1 in
    let parts = and_parts (is_flagged old found.1) (is_on_path g found.1 x) found.4 in
    and_from (is_lazy g (level_of x)) (list_any (λ page. is_flagged new page && is_on_path g page x) (range_with_len 0 (layout.pages g))) both.0
    (list_any_at (λ page. is_flagged new page && is_on_path g page x) (range_with_len 0 (layout.pages g)) found.0 found.1 found.2
    (subst (λ p. (is_flagged new p && is_on_path g p x) ≡ true) (sym found.3)
    (and_from (is_flagged new found.1) (is_on_path g found.1 x) (kept found.1 parts.0) parts.1)))

-- may be dirty, by these flags
abbrev pub may_be : Shape → List Bool → List Bool → ℕ → Bool
may_be g touched flushed x = is_touched_block g touched x && not (is_flagged flushed x)

-- a mark ends no block's being dirty
may_be-mark : (g : Shape) (touched flushed : List Bool) (mark : Mark) (x : ℕ) → may_be g touched flushed x ≡ true
    → may_be g (touched_after_mark touched mark) (flushed_after_mark g flushed mark) x ≡ true
may_be-mark g touched flushed mark x it = one mark
  where
    parts : (is_touched_block g touched x ≡ true) × (not (is_flagged flushed x) ≡ true)
    parts = and_parts (is_touched_block g touched x) (not (is_flagged flushed x)) it

    with_page : (page : ℕ) → may_be g (with_flag touched page) (no_flags (layout.meta_lines g)) x ≡ true
    with_page page =
        and_from (is_touched_block g (with_flag touched page) x) (not (is_flagged (no_flags (layout.meta_lines g)) x))
        (touched_more g touched (with_flag touched page) x (flag_kept touched page) parts.0)
        (ap not (unflagged (layout.meta_lines g) x))

    choice : (b : Bool) (page : ℕ)
        → may_be g (cond b (with_flag touched page) touched) (cond b (no_flags (layout.meta_lines g)) flushed) x ≡ true
    choice true page = with_page page
    choice false page = it

    one : (mark : Mark) → may_be g (touched_after_mark touched mark) (flushed_after_mark g flushed mark) x ≡ true
    one (Begin page) = with_page page
    one (Seal at ctr cipher tag) = choice (nat_lt 0 ctr.minor) (page_of at)

pub may_be-kept : (g : Shape) (touched flushed : List Bool) (marks : List Mark) (x : ℕ) → may_be g touched flushed x ≡ true
    → may_be g (touched_after touched marks) (flushed_after g flushed marks) x ≡ true
may_be-kept g touched flushed [] x it = it
may_be-kept g touched flushed (mark ∷ marks) x it =
    may_be-kept g (touched_after_mark touched mark) (flushed_after_mark g flushed mark) marks x (may_be-mark g touched flushed mark x it)

-- a mark makes the blocks of its page's path such ones
may_be-touched_mark : (g : Shape) (touched flushed : List Bool) (mark : Mark) (page x : ℕ) → length touched ≡ layout.pages g
    → IsMark g mark → is_touching page mark ≡ true → IsTrue (is_on_path g page x) → IsTrue (is_lazy g (level_of x))
    → may_be g (touched_after_mark touched mark) (flushed_after_mark g flushed mark) x ≡ true
may_be-touched_mark g touched flushed (Begin begun) page x count its touching on lazy =
    let same = eqb-true begun page touching in
    let within : page < layout.pages g = subst (λ p. p < layout.pages g) same its in
    and_from (is_touched_block g (with_flag touched begun) x) (not (is_flagged (no_flags (layout.meta_lines g)) x))
    (touched_block g (with_flag touched begun) page x within
    (subst (λ p. is_flagged (with_flag touched p) page ≡ true) (sym same) (flag_set touched page (omega (arith, within, count)))) on lazy)
    (ap not (unflagged (layout.meta_lines g) x))
may_be-touched_mark g touched flushed (Seal at ctr cipher tag) page x count its touching on lazy =
    let parts = and_parts (page_of at == page) (nat_lt 0 ctr.minor) touching in
    let same = eqb-true (page_of at) page parts.0 in
    let within : page < layout.pages g = subst (λ p. p < layout.pages g) same (omega (arith, its.0)) in
    subst (λ b. may_be g (cond b (with_flag touched (page_of at)) touched) (cond b (no_flags (layout.meta_lines g)) flushed) x ≡ true) (sym parts.1)
    (and_from (is_touched_block g (with_flag touched (page_of at)) x) (not (is_flagged (no_flags (layout.meta_lines g)) x))
    (touched_block g (with_flag touched (page_of at)) page x within
    (subst (λ p. is_flagged (with_flag touched p) page ≡ true) (sym same) (flag_set touched page (omega (arith, within, count)))) on lazy)
    (ap not (unflagged (layout.meta_lines g) x)))

may_be-touched_by : (g : Shape) (touched flushed : List Bool) (marks : List Mark) (page x : ℕ) → length touched ≡ layout.pages g
    → All (IsMark g) marks → list_any (is_touching page) marks ≡ true → IsTrue (is_on_path g page x) → IsTrue (is_lazy g (level_of x))
    → may_be g (touched_after touched marks) (flushed_after g flushed marks) x ≡ true
may_be-touched_by g touched flushed [] page x count each touching on lazy = absurd (true≢false (sym touching))
may_be-touched_by g touched flushed (mark ∷ marks) page x count each touching on lazy =
    elim (or_cases (is_touching page mark) (list_any (is_touching page) marks) touching) [
      | inl here ↦
          may_be-kept g (touched_after_mark touched mark) (flushed_after_mark g flushed mark) marks x
          (may_be-touched_mark g touched flushed mark page x count (All-head (IsMark g) mark marks each) here on lazy)
      | inr later ↦
          may_be-touched_by g (touched_after_mark touched mark) (flushed_after_mark g flushed mark) marks page x
          (length-touched_after touched (mark ∷ []) ∙ count) (All-tail (IsMark g) mark marks each) later on lazy
    ]

-- so do marks
pub may_be-touched : (g : Shape) (touched flushed : List Bool) (marks : List Mark) (x : ℕ) → length touched ≡ layout.pages g
    → All (IsMark g) marks → IsTouchedBy g marks x → may_be g (touched_after touched marks) (flushed_after g flushed marks) x ≡ true
may_be-touched g touched flushed marks x count each touched_by =
    may_be-touched_by g touched flushed marks touched_by.0 x count each touched_by.1 touched_by.2 touched_by.3
