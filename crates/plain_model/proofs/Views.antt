-- The device view after one mark more, and the last counters in it.
use Rattle.std.proofs.Common.{ℕ, ◌≡◌, ◌<◌, cond, List, [], ◌∷◌, ◌++◌, length, Option, Some, None, inl, inr, refl, sym, ap, ◌∙◌, arith}
use Rattle.std.specs.Option.{option_map}
use Rattle.std.proofs.lemmas.Option.{none-some, same_Some}
use Rattle.std.proofs.lemmas.Bool.{cases_eq, eq-eqb, ne_eqb}
use Rattle.std.proofs.lemmas.List.{length-set, length-replicate, get_or-set_same, get_or-set_other}
use Rattle.pmem_base.specs.declared.lines.Line.{Line}
use Rattle.pmem_base.specs.declared.lines.Ctr.{Ctr}
use Rattle.pmem_base.specs.declared.answers.Mark.{Mark}
use Rattle.pmem_base.specs.declared.answers.Mark.TheVariants.{Begin, Seal}
use Rattle.pmem_base.specs.Shape.{Shape}
use Rattle.pmem_base.specs.Layout.{data_lines}
use Rattle.pmem_base.specs.Marks.{SealOf, seal_of, later_of, last_seal}
use Rattle.plain_model.specs.View.{DeviceView, start_view, counter_at, page_opened, pages_with_done, view_after, view_after_marks, view_of}

pub view_after_marks-append : (view : DeviceView) (front back : List Mark) → view_after_marks view (front ++ back) ≡ view_after_marks (view_after_marks view front) back
view_after_marks-append view [] back = refl
view_after_marks-append view (mark ∷ front) back = view_after_marks-append (view_after view mark) front back

-- the view after one mark more
pub view_of-push : (g : Shape) (marks : List Mark) (mark : Mark) → view_of g (marks ++ mark ∷ []) ≡ view_after (view_of g marks) mark
view_of-push g marks mark = view_after_marks-append (start_view g) marks (mark ∷ [])

-- the open pages after a seal, and after a begin
pub open_pages-sealed : (g : Shape) (marks : List Mark) (at : ℕ) (ctr : Ctr) (cipher : Line) (tag : List ℕ) → (view_of g (marks ++ Seal at ctr cipher tag ∷ [])).open_pages ≡ pages_with_done (view_of g marks).open_pages at
open_pages-sealed g marks at ctr cipher tag = ap (λ view. view.open_pages) (view_of-push g marks (Seal at ctr cipher tag))

pub open_pages-begun : (g : Shape) (marks : List Mark) (page : ℕ) → (view_of g (marks ++ Begin page ∷ [])).open_pages ≡ (view_of g marks).open_pages ++ page_opened (view_of g marks) page ∷ []
open_pages-begun g marks page = ap (λ view. view.open_pages) (view_of-push g marks (Begin page))

-- ---- last counters

abbrev ctr_or : Option SealOf → Ctr → Ctr
ctr_or None ctr = ctr
ctr_or (Some seal) ctr = seal.ctr

ctr_or-later : (a b : Option SealOf) (ctr : Ctr) → ctr_or (later_of a b) ctr ≡ ctr_or b (ctr_or a ctr)
ctr_or-later a None ctr = refl
ctr_or-later a (Some b) ctr = refl

length-counters : (view : DeviceView) (marks : List Mark) → length (view_after_marks view marks).counters ≡ length view.counters
length-counters view [] = refl
length-counters view (Begin page ∷ marks) = length-counters (view_after view (Begin page)) marks
length-counters view (Seal at ctr cipher tag ∷ marks) = length-counters (view_after view (Seal at ctr cipher tag)) marks ∙ length-set view.counters at ctr

length-start_view : (g : Shape) → length (start_view g).counters ≡ data_lines g
unfolding start_view
length-start_view g = length-replicate {A = Ctr} (data_lines g) (record { major = g.major; minor = 0 })

-- a counter for each data line
pub length-view_of : (g : Shape) (marks : List Mark) → length (view_of g marks).counters ≡ data_lines g
length-view_of g marks = length-counters (start_view g) marks ∙ length-start_view g

counter_after : (view : DeviceView) (mark : Mark) (a : ℕ) → a < length view.counters → counter_at (view_after view mark) a ≡ ctr_or (seal_of mark a) (counter_at view a)
counter_after view (Begin page) a inside = refl
counter_after view (Seal at ctr cipher tag) a inside =
    elim (cases_eq at a) [
      | inl same ↦
          ap (λ z. counter_at (view_after view (Seal z ctr cipher tag)) a) same
          ∙ (get_or-set_same view.counters a ctr (record { major = 0; minor = 0 }) inside
          ∙ ap (λ t. ctr_or (cond t (Some (record { ctr = ctr; cipher = cipher; tag = tag })) None) (counter_at view a)) (sym (eq-eqb at a same)))
      | inr apart ↦
          get_or-set_other view.counters at a ctr (record { major = 0; minor = 0 }) (λ same. apart (sym same))
          ∙ ap (λ t. ctr_or (cond t (Some (record { ctr = ctr; cipher = cipher; tag = tag })) None) (counter_at view a)) (sym (ne_eqb at a apart))
    ]

counter_after_marks : (view : DeviceView) (marks : List Mark) (a : ℕ) → a < length view.counters → counter_at (view_after_marks view marks) a ≡ ctr_or (last_seal marks a) (counter_at view a)
counter_after_marks view [] a inside = refl
counter_after_marks view (mark ∷ marks) a inside =
    counter_after_marks (view_after view mark) marks a (omega (arith, inside, length-counters view (mark ∷ [])))
    ∙ (ap (ctr_or (last_seal marks a)) (counter_after view mark a inside)
    ∙ sym (ctr_or-later (seal_of mark a) (last_seal marks a) (counter_at view a)))

from_last : (o : Option SealOf) (old ctr : Ctr) → option_map (λ seal. seal.ctr) o ≡ Some ctr → ctr_or o old ≡ ctr
from_last None old ctr e = absurd (none-some ctr e)
from_last (Some seal) old ctr e = same_Some seal.ctr ctr e

-- the view's counter of a line is that of its last seal
pub counter_at-last : (g : Shape) (marks : List Mark) (a : ℕ) (ctr : Ctr) → a < data_lines g → option_map (λ seal. seal.ctr) (last_seal marks a) ≡ Some ctr → counter_at (view_of g marks) a ≡ ctr
counter_at-last g marks a ctr inside last =
    counter_after_marks (start_view g) marks a (omega (arith, inside, length-start_view g))
    ∙ from_last (last_seal marks a) (counter_at (start_view g) a) ctr last
