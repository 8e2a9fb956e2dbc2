-- The lines after the first k changes that a commit or a redo is made of, and which changes these are.
use Rattle.std.proofs.Common.{subst, Result, Err, ℕ, zero, suc, ◌≡◌, ◌<◌, ◌≤◌, ◌+◌, List, [], ◌∷◌, ◌++◌, length, take, drop, drop-cons, refl, sym, ap, ◌∙◌, arith, rules}
use Rattle.line_txn.proofs.Common.{Setup, Parts, Fault, AreEdited, All, slice_set, zip, length-append, length-map, All-nil, All-cons, All-head, All-tail, All-append, Line, IsLine, line_at, put_lines, IsLine-zero_line, line_at-set_other, Edit, AreDistinctBelow, redone_to, with_bodies, targets_of, bodies_of, IsEditOf, all_edited, body_edits, target_edits, copy_edits, deciding_edits, applying_edits, redoing_edits}
use Rattle.pmem_base.specs.Lines.{zero_line}
use Rattle.engine_lines.specs.declared.edits.Edit.TheVariants as Make
use Rattle.line_txn.specs.Header.{header_of}

-- ---- the lines after the first k of them

pub after_bodies : (p k : ℕ) (bodies lines : List Line) → all_edited (take k (body_edits p bodies)) lines ≡ with_bodies p (take k bodies) lines
after_bodies p zero bodies lines = refl
after_bodies p (suc k) [] lines = refl
after_bodies p (suc k) (body ∷ bodies) lines = after_bodies (p + 1) k bodies (slice_set lines p body)

pub after_all_bodies : (p : ℕ) (bodies lines : List Line) → all_edited (body_edits p bodies) lines ≡ with_bodies p bodies lines
after_all_bodies p [] lines = refl
after_all_bodies p (body ∷ bodies) lines = after_all_bodies (p + 1) bodies (slice_set lines p body)

pub after_targets : (k : ℕ) (txn : List (ℕ × Line)) (lines : List Line) → all_edited (take k (target_edits txn)) lines ≡ put_lines (take k txn) lines
after_targets zero txn lines = refl
after_targets (suc k) [] lines = refl
after_targets (suc k) (entry ∷ txn) lines = after_targets k txn (slice_set lines entry.0 entry.1)

pub after_all_targets : (txn : List (ℕ × Line)) (lines : List Line) → all_edited (target_edits txn) lines ≡ put_lines txn lines
after_all_targets [] lines = refl
after_all_targets (entry ∷ txn) lines = after_all_targets txn (slice_set lines entry.0 entry.1)

-- bodies stay while they are copied to targets before them
copies_from : (k p : ℕ) (targets : List ℕ) (lines now : List Line) → All (λ t. t < p) targets → p + length targets ≤ length lines
    → ((j : ℕ) → p ≤ j → line_at now j ≡ line_at lines j)
    → all_edited (take k (copy_edits p targets)) now ≡ put_lines (take k (zip targets (drop p lines))) now
copies_from zero p targets lines now low long same = refl
copies_from (suc k) p [] lines now low long same = refl
copies_from (suc k) p (t ∷ targets) lines now low long same =
    let more : suc p ≡ p + 1 = omega arith in
    let here : line_at now p ≡ line_at lines p = same p (omega arith) in
    let under : t < p = All-head (λ t. t < p) t targets low in
    let others : All (λ t. t < p) targets = All-tail (λ t. t < p) t targets low in
    let first : drop p lines ≡ line_at lines p ∷ drop (p + 1) lines =
    drop-cons lines p zero_line (omega (arith, long)) ∙ ap (λ j. line_at lines p ∷ drop j lines) more in
    copies_from k (p + 1) targets lines (slice_set now t (line_at now p)) (λ i d l. omega (arith, others i d l)) (omega (arith, long))
    (λ j far. line_at-set_other now t j (line_at now p) (λ e. omega (arith, e, under, far)) ∙ same j (omega (arith, far)))
    ∙ ap (λ l. put_lines (take k (zip targets (drop (p + 1) lines))) (slice_set now t l)) here
    ∙ ap (λ rest. put_lines (take (suc k) (zip (t ∷ targets) rest)) now) (sym first)

pub after_copies : (n k : ℕ) (targets : List ℕ) (lines : List Line) → AreDistinctBelow n targets → n + 1 + length targets ≤ length lines
    → all_edited (take k (copy_edits (n + 1) targets)) lines ≡ redone_to k n targets lines
after_copies n k targets lines below long =
    copies_from k (n + 1) targets lines lines (λ i d l. omega (arith, below.each i d l)) long (λ j far. refl)

length-body_edits : (p : ℕ) (bodies : List Line) → length (body_edits p bodies) ≡ length bodies
length-body_edits p [] = refl
length-body_edits p (body ∷ bodies) = let rest = length-body_edits (p + 1) bodies in omega (arith, rest)

pub length-copy_edits : (p : ℕ) (targets : List ℕ) → length (copy_edits p targets) ≡ length targets
length-copy_edits p [] = refl
length-copy_edits p (t ∷ targets) = let rest = length-copy_edits (p + 1) targets in omega (arith, rest)

pub length-bodies : (p : ℕ) (txn : List (ℕ × Line)) → length (body_edits p (bodies_of txn)) ≡ length txn
length-bodies p txn = length-body_edits p (bodies_of txn) ∙ length-map txn (λ e. e.1)

pub length-targets : (txn : List (ℕ × Line)) → length (target_edits txn) ≡ length txn
length-targets txn = length-map txn (λ e. Make.Put e.0 e.1)

-- ---- which changes they are

module _ (n count : ℕ) (size : n + 16 ≡ count) where
  bodies_fit : (p : ℕ) (bodies : List Line) → p + length bodies ≤ count → All IsLine bodies → All (IsEditOf count) (body_edits p bodies)
  bodies_fit p [] within whole = All-nil (IsEditOf count)
  bodies_fit p (body ∷ bodies) within whole =
      All-cons (IsEditOf count) (Make.Put p body) (body_edits (p + 1) bodies) (omega (arith, within), All-head IsLine body bodies whole)
      (bodies_fit (p + 1) bodies (omega (arith, within)) (All-tail IsLine body bodies whole))

  copies_fit : (p : ℕ) (targets : List ℕ) → p + length targets ≤ count → All (λ t. t < n) targets → All (IsEditOf count) (copy_edits p targets)
  copies_fit p [] within low = All-nil (IsEditOf count)
  copies_fit p (t ∷ targets) within low =
      let under : t < n = All-head (λ t. t < n) t targets low in
      All-cons (IsEditOf count) (Make.Copy p t) (copy_edits (p + 1) targets) (omega (arith, within), omega (arith, under, size))
      (copies_fit (p + 1) targets (omega (arith, within)) (All-tail (λ t. t < n) t targets low))

  targets_fit : (txn : List (ℕ × Line)) → All (λ t. t < n) (targets_of txn) → All IsLine (bodies_of txn) → All (IsEditOf count) (target_edits txn)
  targets_fit [] low whole = All-nil (IsEditOf count)
  targets_fit (entry ∷ txn) low whole =
      let under : entry.0 < n = All-head (λ t. t < n) entry.0 (targets_of txn) low in
      All-cons (IsEditOf count) (Make.Put entry.0 entry.1) (target_edits txn)
      (omega (arith, under, size), All-head IsLine entry.1 (bodies_of txn) whole)
      (targets_fit txn (All-tail (λ t. t < n) entry.0 (targets_of txn) low) (All-tail IsLine entry.1 (bodies_of txn) whole))

  last_fits : (edits : List Edit) (line : Line) → IsLine line → All (IsEditOf count) edits → All (IsEditOf count) (edits ++ Make.Put n line ∷ [])
  last_fits edits line whole each =
      All-append (IsEditOf count) edits (Make.Put n line ∷ []) each
      (All-cons (IsEditOf count) (Make.Put n line) [] (omega (arith, size), whole) (All-nil (IsEditOf count)))

  pub deciding_fit : (txn : List (ℕ × Line)) → length txn ≤ 15 → All IsLine (bodies_of txn) → IsLine (header_of (targets_of txn))
      → All (IsEditOf count) (deciding_edits n txn)
  deciding_fit txn few whole header = search (rules, length-map, last_fits, bodies_fit)

  pub applying_fit : (txn : List (ℕ × Line)) → AreDistinctBelow n (targets_of txn) → All IsLine (bodies_of txn) → All (IsEditOf count) (applying_edits n txn)
  applying_fit txn below whole =
      last_fits (target_edits txn) zero_line IsLine-zero_line (targets_fit txn below.each whole)

  pub redoing_fit : (targets : List ℕ) → length targets ≤ 15 → AreDistinctBelow n targets → All (IsEditOf count) (redoing_edits n targets)
  redoing_fit [] few below = All-nil (IsEditOf count)
  redoing_fit (t ∷ targets) few below =
      last_fits (copy_edits (n + 1) (t ∷ targets)) zero_line IsLine-zero_line
      (copies_fit (n + 1) (t ∷ targets) (omega (arith, few, size)) below.each)

pub length-deciding : (n : ℕ) (txn : List (ℕ × Line)) → length (deciding_edits n txn) ≡ length txn + 1
length-deciding n txn =
    length-append (body_edits (n + 1) (bodies_of txn)) (Make.Put n (header_of (targets_of txn)) ∷ [])
    ∙ ap (λ k. k + 1) (length-bodies (n + 1) txn)

pub length-applying : (n : ℕ) (txn : List (ℕ × Line)) → length (applying_edits n txn) ≡ length txn + 1
length-applying n txn = length-append (target_edits txn) (Make.Put n zero_line ∷ []) ∙ ap (λ k. k + 1) (length-targets txn)

pub length-redoing : (n : ℕ) (targets : List ℕ) → length targets ≤ 15 → length (redoing_edits n targets) ≤ 16
length-redoing n [] few = omega arith
length-redoing n (t ∷ targets) few = search (rules, length-append, length-copy_edits)

-- ---- the same changes, or their fault, in other words

pub edited_as : (setup : Setup) (edits made : List Edit) (old new : Parts) (answer : Result (Unit {0}) Fault)
    → edits ≡ made → AreEdited setup edits old new answer → AreEdited setup made old new answer
edited_as setup edits made old new answer same it = subst (λ (es : List Edit). AreEdited setup es old new answer) same it

pub edited_fault : (setup : Setup) (edits : List Edit) (old new : Parts) (fault other : Fault)
    → fault ≡ other → AreEdited setup edits old new (Err fault) → AreEdited setup edits old new (Err other)
edited_fault setup edits old new fault other same it = subst (λ (f : Fault). AreEdited setup edits old new (Err f)) same it
