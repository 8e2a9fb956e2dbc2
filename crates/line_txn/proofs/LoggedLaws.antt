-- Logical memory through each write of a commit and of a redo.
use Rattle.std.proofs.Common.{ℕ, zero, suc, ◌≡◌, ◌≢◌, ◌<◌, ◌≤◌, ◌+◌, ◌^◌, List, [], ◌∷◌, length, get_or, take, drop, drop-cons, replicate, refl, sym, ap, subst, ◌∙◌, arith, rules}
use Rattle.std.proofs.lemmas.Slice.Zip.{get_or-zip, length-zip}
use Rattle.line_txn.proofs.Common.{slice_set, slice_index, All, zip, AllPairs, Contains, length-set, length-drop, length-take-le, set-set, set_comm, drop-set-lt, take-set-le, take_all, get_or-take, get_or-drop, get_or_default, length-map, length-replicate, get_or-replicate, take-replicate, All-nil, All-cons, All-head, All-tail, All-take, All-contains_itself, take-set-lt, AllPairs-cons, Line, line_at, put_lines, length-put_lines, line_at-set_same, line_at-set_other, AreDistinctBelow, AreTargets, IsHeader, entries_in, memory_in, IsLogged, with_bodies, with_header, targets_of, bodies_of, logged, decided, cleared, lines_decided, IsWholeAtEachStage, redone_to, IsKeptByRedo, IsKeptByTarget, Opening, partly, through, lines_opened, targets_opened, IsKeptByOpening, IsReadFrom}
use Rattle.pmem_base.specs.Lines.{zero_line}
use Rattle.pmem_base.proofs.ListLaws.{AllPairs-head, AllPairs-tail}
use Rattle.line_txn.specs.Header.{header_of}
use Rattle.line_txn.proofs.Headers.{below_none, one_header}

-- ---- lists

-- no two entries have one place
abbrev pub AreApart : List (ℕ × Line) → Type 0
AreApart entries = AllPairs (λ e f. e.0 ≢ f.0) entries

-- a line that no entry names stays
pub line_at-put_other : (entries : List (ℕ × Line)) (lines : List Line) (n : ℕ) → All (λ e. e.0 ≢ n) entries → line_at (put_lines entries lines) n ≡ line_at lines n
line_at-put_other [] lines n apart = refl
line_at-put_other (e ∷ entries) lines n apart =
    line_at-put_other entries (slice_set lines e.0 e.1) n (All-tail (λ e. e.0 ≢ n) e entries apart)
    ∙ line_at-set_other lines e.0 n e.1 (λ same. All-head (λ e. e.0 ≢ n) e entries apart (sym same))

-- what an entry's place held before the entries are put doesn't count
put_over : (entries : List (ℕ × Line)) (lines : List Line) (k : ℕ) (d : ℕ × Line) (line : Line) → AreApart entries → k < length entries
    → put_lines entries (slice_set lines (get_or entries k d).0 line) ≡ put_lines entries lines
put_over [] lines k d line apart inside = absurd (omega arith)
put_over (e ∷ entries) lines zero d line apart inside = ap (put_lines entries) (set-set lines e.0 line e.1)
put_over (e ∷ entries) lines (suc k) d line apart inside =
    let t = (get_or entries k d).0 in
    let other : (get_or entries k d).0 ≢ e.0 =
    λ same. AllPairs-head (λ e f. e.0 ≢ f.0) e entries apart k d (omega (arith, inside)) (sym same) in
    ap (put_lines entries) (set_comm lines t e.0 line e.1 other)
    ∙ put_over entries (slice_set lines e.0 e.1) k d line (AllPairs-tail (λ e f. e.0 ≢ f.0) e entries apart) (omega (arith, inside))

-- entries put again, after any of them
put_after : (entries some : List (ℕ × Line)) (lines : List Line) → AreApart entries → All (Contains entries) some
    → put_lines entries (put_lines some lines) ≡ put_lines entries lines
put_after entries [] lines apart all = refl
put_after entries (e ∷ some) lines apart all =
    let its = All-head (Contains entries) e some all in
    let same : get_or entries its.0 e ≡ e = its.2 in
    put_after entries some (slice_set lines e.0 e.1) apart (All-tail (Contains entries) e some all)
    ∙ ap (λ (f : ℕ × Line). put_lines entries (slice_set lines f.0 e.1)) (sym same)
    ∙ put_over entries lines its.0 e e.1 apart its.1

pub put_again : (entries : List (ℕ × Line)) (lines : List Line) (k : ℕ) → AreApart entries
    → put_lines entries (put_lines (take k entries) lines) ≡ put_lines entries lines
put_again entries lines k apart =
    put_after entries (take k entries) lines apart (All-take (Contains entries) k entries (All-contains_itself entries))

-- what an entry's place holds then
line_at-put_at : (entries : List (ℕ × Line)) (lines : List Line) (k : ℕ) (d : ℕ × Line) → AreApart entries → k < length entries
    → (get_or entries k d).0 < length lines
    → line_at (put_lines entries lines) (get_or entries k d).0 ≡ (get_or entries k d).1
line_at-put_at [] lines k d apart inside within = absurd (omega arith)
line_at-put_at (e ∷ entries) lines zero d apart inside within =
    let others : All (λ f. f.0 ≢ e.0) entries =
    λ k d l same. AllPairs-head (λ e f. e.0 ≢ f.0) e entries apart k d l (sym same) in
    line_at-put_other entries (slice_set lines e.0 e.1) e.0 others
    ∙ line_at-set_same lines e.0 e.1 within
line_at-put_at (e ∷ entries) lines (suc k) d apart inside within =
    line_at-put_at entries (slice_set lines e.0 e.1) k d (AllPairs-tail (λ e f. e.0 ≢ f.0) e entries apart) (omega (arith, inside))
    (subst (λ n. (get_or entries k d).0 < n) (sym (length-set lines e.0 e.1)) within)

-- entries within a front stay in it, and those before a rest leave it
take-put_lines : (n : ℕ) (entries : List (ℕ × Line)) (lines : List Line) → All (λ e. e.0 < n) entries
    → take n (put_lines entries lines) ≡ put_lines entries (take n lines)
take-put_lines n [] lines low = refl
take-put_lines n (e ∷ entries) lines low =
    take-put_lines n entries (slice_set lines e.0 e.1) (All-tail (λ e. e.0 < n) e entries low)
    ∙ ap (put_lines entries) (take-set-lt n lines e.0 e.1 (All-head (λ e. e.0 < n) e entries low))

drop-put_lines : (n : ℕ) (entries : List (ℕ × Line)) (lines : List Line) → All (λ e. e.0 < n) entries
    → drop n (put_lines entries lines) ≡ drop n lines
drop-put_lines n [] lines low = refl
drop-put_lines n (e ∷ entries) lines low =
    drop-put_lines n entries (slice_set lines e.0 e.1) (All-tail (λ e. e.0 < n) e entries low)
    ∙ drop-set-lt n lines e.0 e.1 (All-head (λ e. e.0 < n) e entries low)

-- ---- entries of a header

pub zip-All : (P : ℕ → Type 0) (targets : List ℕ) (bodies : List Line) → All P targets → All (λ e. P e.0) (zip targets bodies)
zip-All P [] bodies all = All-nil (λ e. P e.0)
zip-All P (t ∷ targets) [] all = All-nil (λ e. P e.0)
zip-All P (t ∷ targets) (b ∷ bodies) all =
    All-cons (λ e. P e.0) (t, b) (zip targets bodies) (All-head P t targets all) (zip-All P targets bodies (All-tail P t targets all))

zip-apart : (targets : List ℕ) (bodies : List Line) → AllPairs (λ t u. t ≢ u) targets → AreApart (zip targets bodies)
zip-apart [] bodies apart = λ i j d less within. absurd (omega arith)
zip-apart (t ∷ targets) [] apart = λ i j d less within. absurd (omega arith)
zip-apart (t ∷ targets) (b ∷ bodies) apart =
    AllPairs-cons (λ e f. e.0 ≢ f.0) (t, b) (zip targets bodies)
    (zip-All (λ u. t ≢ u) targets bodies (AllPairs-head (λ t u. t ≢ u) t targets apart))
    (zip-apart targets bodies (AllPairs-tail (λ t u. t ≢ u) t targets apart))

zip-few : (targets : List ℕ) (bodies : List Line) → length (zip targets bodies) ≤ length targets
zip-few targets bodies = omega (arith, length-zip targets bodies)

zip-all : (targets : List ℕ) (bodies : List Line) → length targets ≤ length bodies → length (zip targets bodies) ≡ length targets
zip-all targets bodies long = omega (arith, length-zip targets bodies, long)

-- ---- a redo

-- the memory that lines hold under a header, once some of its entries are put
memory-put : (n : ℕ) (targets : List ℕ) (lines : List Line) (k : ℕ) → AreDistinctBelow n targets
    → memory_in n targets (redone_to k n targets lines) ≡ memory_in n targets lines
memory-put n targets lines k below =
    let entries = entries_in n targets lines in
    let low : All (λ e. e.0 < n) (entries_in n targets lines) = zip-All (λ t. t < n) targets (drop (n + 1) lines) below.each in
    let some_low : All (λ e. e.0 < n) (take k (entries_in n targets lines)) = All-take (λ e. e.0 < n) k entries low in
    let some_low' : All (λ e. e.0 < n + 1) (take k (entries_in n targets lines)) = λ j d l. omega (arith, some_low j d l) in
    ap (λ bodies. put_lines (zip targets bodies) (take n (redone_to k n targets lines)))
    (drop-put_lines (n + 1) (take k entries) lines some_low')
    ∙ ap (put_lines entries) (take-put_lines n (take k entries) lines some_low)
    ∙ put_again entries (take n lines) k (zip-apart targets (drop (n + 1) lines) below.distinct)

redo_keeps : (n : ℕ) (lines memory : List Line) (targets : List ℕ) (k : ℕ) → IsLogged n lines targets memory
    → IsLogged n (redone_to k n targets lines) targets memory
redo_keeps n lines memory targets k old =
    let below = old.header.its_targets.below in
    let entries = entries_in n targets lines in
    let apart : All (λ e. e.0 ≢ n) (take k (entries_in n targets lines)) =
    All-take (λ e. e.0 ≢ n) k entries
    (zip-All (λ t. t ≢ n) targets (drop (n + 1) lines) (λ j d l e. omega (arith, e, below.each j d l))) in
    let same = line_at-put_other (take k entries) lines n apart in
    record {
      size = length-put_lines (take k entries) lines ∙ old.size;
      header = subst (λ l. IsHeader n l targets) (sym same) old.header;
      its_memory = memory-put n targets lines k below ∙ old.its_memory;
    }

no_targets : (n : ℕ) → AreTargets n []
no_targets n = record { few = omega arith; below = below_none n }

-- the zero header, if every target holds its body
clear_keeps : (n : ℕ) (lines memory : List Line) (targets : List ℕ) → IsLogged n lines targets memory
    → IsLogged n (with_header n [] (redone_to 15 n targets lines)) [] memory
clear_keeps n lines memory targets old =
    let below = old.header.its_targets.below in
    let entries = entries_in n targets lines in
    let done = redo_keeps n lines memory targets 15 old in
    let few : length (entries_in n targets lines) ≤ 15 =
    omega (arith, zip-few targets (drop (n + 1) lines), old.header.its_targets.few) in
    let all : take 15 (entries_in n targets lines) ≡ entries_in n targets lines = take_all 15 entries few in
    let low : All (λ e. e.0 < n) (entries_in n targets lines) = zip-All (λ t. t < n) targets (drop (n + 1) lines) below.each in
    let here : line_at (with_header n [] (redone_to 15 n targets lines)) n ≡ header_of [] =
    line_at-set_same (redone_to 15 n targets lines) n (header_of []) (omega (arith, done.size)) in
    record {
      size = length-set (redone_to 15 n targets lines) n (header_of []) ∙ done.size;
      header = record { its_targets = no_targets n; its_line = here };
      its_memory =
          take-set-le n (redone_to 15 n targets lines) n (header_of []) (omega arith)
          ∙ ap (λ es. take n (put_lines es lines)) all
          ∙ take-put_lines n entries lines low
          ∙ old.its_memory;
    }

pub kept_by_redo : (n : ℕ) → IsKeptByRedo n
kept_by_redo n lines memory targets old = (λ k. redo_keeps n lines memory targets k old, clear_keeps n lines memory targets old)

-- an opening redoes the header that it finds, which is the one in force
pub kept_by_opening : (n : ℕ) → n < 2 ^ 32 → IsKeptByOpening n
kept_by_opening n small lines memory targets found opening old header = go opening
  where
    its : IsLogged n lines found memory
    its =
        subst (λ ts. IsLogged n lines ts memory)
        (one_header n (line_at lines n) targets found small old.header header) old

    go : (o : Opening) → IsLogged n (lines_opened o n found lines) (targets_opened o found) memory
    go (partly k) = redo_keeps n lines memory found k its
    go through = clear_keeps n lines memory found its

-- whatever line is written at a target
pub kept_by_target : (n : ℕ) → IsKeptByTarget n
kept_by_target n lines memory targets i line inside old =
    let below = old.header.its_targets.below in
    let entries = entries_in n targets lines in
    let t = slice_index targets i in
    let rest : length (drop (n + 1) lines) ≡ 15 = length-drop (n + 1) lines ∙ omega (arith, old.size) in
    let low : slice_index targets i < n = below.each i 0 inside in
    let entry : get_or (entries_in n targets lines) i (0, zero_line) ≡ (slice_index targets i, line_at lines (n + 1 + i)) =
    get_or-zip targets (drop (n + 1) lines) i (0, zero_line) inside (omega (arith, rest, inside, old.header.its_targets.few))
    ∙ ap (λ l. (slice_index targets i, l)) (get_or-drop (n + 1) lines i zero_line) in
    let within : i < length (entries_in n targets lines) =
    omega (arith, zip-all targets (drop (n + 1) lines) (omega (arith, rest, old.header.its_targets.few)), inside) in
    let same = line_at-set_other lines t n line (λ e. omega (arith, e, low)) in
    record {
      size = length-set lines t line ∙ old.size;
      header = subst (λ l. IsHeader n l targets) (sym same) old.header;
      its_memory =
          ap (λ bodies. put_lines (zip targets bodies) (take n (slice_set lines t line))) (drop-set-lt (n + 1) lines t line (omega (arith, low)))
          ∙ ap (put_lines entries) (take-set-lt n lines t line low)
          ∙ ap (λ (f : ℕ × Line). put_lines entries (slice_set (take n lines) f.0 line)) (sym entry)
          ∙ put_over entries (take n lines) i (0, zero_line) line (zip-apart targets (drop (n + 1) lines) below.distinct) within
          ∙ old.its_memory;
    }

-- ---- what a read finds

pub read_from : (n : ℕ) (lines memory : List Line) (targets : List ℕ) → IsLogged n lines targets memory
    → IsReadFrom n lines targets memory
read_from n lines memory targets old =
    let below = old.header.its_targets.below in
    let entries = entries_in n targets lines in
    let apart = zip-apart targets (drop (n + 1) lines) below.distinct in
    let rest : length (drop (n + 1) lines) ≡ 15 = length-drop (n + 1) lines ∙ omega (arith, old.size) in
    let front : length (take n lines) ≡ n = length-take-le n lines (omega (arith, old.size)) in
    record {
      target =
          λ i inside.
          let entry : get_or (entries_in n targets lines) i (0, zero_line) ≡ (slice_index targets i, line_at lines (n + 1 + i)) =
          get_or-zip targets (drop (n + 1) lines) i (0, zero_line) inside (omega (arith, rest, inside, old.header.its_targets.few))
          ∙ ap (λ l. (slice_index targets i, l)) (get_or-drop (n + 1) lines i zero_line) in
          let within : i < length (entries_in n targets lines) =
          omega (arith, zip-all targets (drop (n + 1) lines) (omega (arith, rest, old.header.its_targets.few)), inside) in
          let low : slice_index targets i < n = below.each i 0 inside in
          let held =
          line_at-put_at entries (take n lines) i (0, zero_line) apart within
          (subst (λ (f : ℕ × Line). f.0 < length (take n lines)) (sym entry) (omega (arith, front, low))) in
          ap (λ m. line_at m (slice_index targets i)) (sym old.its_memory)
          ∙ subst (λ (f : ℕ × Line). line_at (put_lines entries (take n lines)) f.0 ≡ f.1) entry held;
      other =
          λ a low apart_from.
          let none : All (λ t. t ≢ a) targets =
          λ i d l e. apart_from i l (get_or_default targets i 0 d l ∙ e) in
          ap (λ m. line_at m a) (sym old.its_memory)
          ∙ line_at-put_other entries (take n lines) a (zip-All (λ t. t ≢ a) targets (drop (n + 1) lines) none)
          ∙ get_or-take n lines a zero_line low;
    }

-- ---- a commit

pub length-with_bodies : (k : ℕ) (bodies lines : List Line) → length (with_bodies k bodies lines) ≡ length lines
length-with_bodies k [] lines = refl
length-with_bodies k (b ∷ bodies) lines = length-with_bodies (k + 1) bodies (slice_set lines k b) ∙ length-set lines k b

take-with_bodies : (n k : ℕ) (bodies lines : List Line) → n ≤ k → take n (with_bodies k bodies lines) ≡ take n lines
take-with_bodies n k [] lines low = refl
take-with_bodies n k (b ∷ bodies) lines low =
    take-with_bodies n (k + 1) bodies (slice_set lines k b) (omega (arith, low)) ∙ take-set-le n lines k b low

line_at-with_bodies : (n k : ℕ) (bodies lines : List Line) → n < k → line_at (with_bodies k bodies lines) n ≡ line_at lines n
line_at-with_bodies n k [] lines low = refl
line_at-with_bodies n k (b ∷ bodies) lines low =
    line_at-with_bodies n (k + 1) bodies (slice_set lines k b) (omega (arith, low))
    ∙ line_at-set_other lines k n b (λ e. omega (arith, e, low))

-- each target with the body that was written for it
zip-with_bodies : (k : ℕ) (txn : List (ℕ × Line)) (lines : List Line) → k + length txn ≤ length lines
    → zip (targets_of txn) (drop k (with_bodies k (bodies_of txn) lines)) ≡ txn
zip-with_bodies k [] lines within = refl
zip-with_bodies k (e ∷ txn) lines within =
    let later = with_bodies (k + 1) (bodies_of txn) (slice_set lines k e.1) in
    let long : length (with_bodies (k + 1) (bodies_of txn) (slice_set lines k e.1)) ≡ length lines =
    length-with_bodies (k + 1) (bodies_of txn) (slice_set lines k e.1) ∙ length-set lines k e.1 in
    let more : suc k ≡ k + 1 = omega arith in
    let first : drop k later ≡ get_or later k zero_line ∷ drop (suc k) later = drop-cons later k zero_line (omega (arith, long, within)) in
    let here : get_or later k zero_line ≡ e.1 =
    line_at-with_bodies k (k + 1) (bodies_of txn) (slice_set lines k e.1) (omega arith)
    ∙ line_at-set_same lines k e.1 (omega (arith, within)) in
    ap (zip (e.0 ∷ targets_of txn)) (first ∙ ap (λ l. l ∷ drop (suc k) later) here ∙ ap (λ j. e.1 ∷ drop j later) more)
    ∙ ap (λ es. (e.0, e.1) ∷ es)
    (zip-with_bodies (k + 1) txn (slice_set lines k e.1) (omega (arith, within, length-set lines k e.1)))

logged_keeps : (n : ℕ) (lines memory bodies : List Line) → IsLogged n lines [] memory
    → IsLogged n (with_bodies (n + 1) bodies lines) [] memory
logged_keeps n lines memory bodies old = search (rules, length-with_bodies, line_at-with_bodies, take-with_bodies)

-- the entries under the header that was written are the transaction
entries_decided : (n : ℕ) (lines memory : List Line) (txn : List (ℕ × Line)) → AreTargets n (targets_of txn) → IsLogged n lines [] memory
    → entries_in n (targets_of txn) (lines_decided n txn lines) ≡ txn
entries_decided n lines memory txn its old = search (rules, length-map, drop-set-lt, zip-with_bodies)

decided_holds : (n : ℕ) (lines memory : List Line) (txn : List (ℕ × Line)) → AreTargets n (targets_of txn) → IsLogged n lines [] memory
    → IsLogged n (lines_decided n txn lines) (targets_of txn) (put_lines txn memory)
decided_holds n lines memory txn its old =
    let then = logged_keeps n lines memory (bodies_of txn) old in
    let bodies = with_bodies (n + 1) (bodies_of txn) lines in
    record {
      size = length-set bodies n (header_of (targets_of txn)) ∙ then.size;
      header = record { its_targets = its; its_line = line_at-set_same bodies n (header_of (targets_of txn)) (omega (arith, then.size)) };
      its_memory =
          ap (λ es. put_lines es (take n (lines_decided n txn lines))) (entries_decided n lines memory txn its old)
          ∙ ap (put_lines txn) (take-set-le n bodies n (header_of (targets_of txn)) (omega arith) ∙ then.its_memory);
    }

pub whole_at_each_stage : (n : ℕ) → IsWholeAtEachStage n
whole_at_each_stage n lines memory txn (logged k) its old = logged_keeps n lines memory (take k (bodies_of txn)) old
whole_at_each_stage n lines memory txn (decided k) its old =
    subst (λ es. IsLogged n (put_lines (take k es) (lines_decided n txn lines)) (targets_of txn) (put_lines txn memory))
    (entries_decided n lines memory txn its old)
    (redo_keeps n (lines_decided n txn lines) (put_lines txn memory) (targets_of txn) k (decided_holds n lines memory txn its old))
whole_at_each_stage n lines memory txn cleared its old =
    let lengths : length (targets_of txn) ≡ length txn = length-map txn (λ e. e.0) in
    let few : length txn ≤ 15 = omega (arith, its.few, lengths) in
    let all : take 15 txn ≡ txn = take_all 15 txn few in
    subst (λ es. IsLogged n (with_header n [] (put_lines es (lines_decided n txn lines))) [] (put_lines txn memory))
    (ap (take 15) (entries_decided n lines memory txn its old) ∙ all)
    (clear_keeps n (lines_decided n txn lines) (put_lines txn memory) (targets_of txn) (decided_holds n lines memory txn its old))

-- ---- the first memory

pub zero_header : header_of [] ≡ zero_line
unfolding header_of zero_line
zero_header = refl

pub zero_logged : (n : ℕ) → IsLogged n (replicate (n + 16) zero_line) [] (replicate n zero_line)
zero_logged n =
    record {
      size = length-replicate (n + 16) zero_line;
      header =
          record {
            its_targets = no_targets n;
            its_line = get_or-replicate (n + 16) n zero_line zero_line (omega arith) ∙ sym zero_header;
          };
      its_memory = take-replicate n (n + 16) zero_line (omega arith);
    }
