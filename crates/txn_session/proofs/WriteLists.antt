-- The engine writes of a commit and of a redo, in order: those of the changes that they are made of, and memory once the
-- first k of them are done.
use Rattle.std.proofs.Common.{ℕ, suc, ◌≡◌, ◌<◌, ◌≤◌, ◌+◌, ◌*◌, ◌++◌, List, [], ◌∷◌, length, drop, drop-cons, refl, sym, ap, ◌∙◌, arith, rules}
use Rattle.txn_session.proofs.Common.{All, zip, append_assoc, length-append, length-map, All-head, All-tail, Line, Posted, line_at, zero_line, Memory, memory_with, whole_write, Edit, header_of, targets_of, bodies_of, body_edits, target_edits, copy_edits, deciding_edits, applying_edits, redoing_edits, Entries, body_writes, target_writes, commit_writes, redo_writes, all_posted}
use Rattle.pmem_base.proofs.LineSets.{line_at-set_other}
use Rattle.pmem_base.specs.WaitingWrites.{put_write}
use Rattle.engine_lines.specs.declared.edits.Edit.TheVariants as Make

-- ---- of a commit

posted_bodies : (p : ℕ) (bodies : List Line) (more : List Edit) (memory : Memory) (ws : List Posted)
    → ((m : Memory) → all_posted m more ≡ ws) → all_posted memory (body_edits p bodies ++ more) ≡ body_writes p bodies ++ ws
posted_bodies p [] more memory ws later = later memory
posted_bodies p (body ∷ bodies) more memory ws later =
    ap (λ l. whole_write p body ∷ l) (posted_bodies (p + 1) bodies more (memory_with memory (whole_write p body)) ws later)

posted_targets : (txn : Entries) (more : List Edit) (memory : Memory) (ws : List Posted)
    → ((m : Memory) → all_posted m more ≡ ws) → all_posted memory (target_edits txn ++ more) ≡ target_writes txn ++ ws
posted_targets [] more memory ws later = later memory
posted_targets (entry ∷ txn) more memory ws later =
    ap (λ l. whole_write entry.0 entry.1 ∷ l) (posted_targets txn more (memory_with memory (whole_write entry.0 entry.1)) ws later)

-- those that decide, and those that follow
abbrev pub deciding_writes : ℕ → Entries → List Posted
deciding_writes n txn = body_writes (n + 1) (bodies_of txn) ++ (whole_write n (header_of (targets_of txn)) ∷ [])

abbrev pub applying_writes : ℕ → Entries → List Posted
applying_writes n txn = target_writes txn ++ (whole_write n zero_line ∷ [])

pub posted_deciding : (n : ℕ) (txn : Entries) (memory : Memory) → all_posted memory (deciding_edits n txn) ≡ deciding_writes n txn
posted_deciding n txn memory = search posted_bodies

pub posted_applying : (n : ℕ) (txn : Entries) (memory : Memory) → all_posted memory (applying_edits n txn) ≡ applying_writes n txn
posted_applying n txn memory = posted_targets txn (Make.Put n zero_line ∷ []) memory (whole_write n zero_line ∷ []) (λ m. refl)

-- both, as a list of changes
pub posted_commit : (n : ℕ) (txn : Entries) (memory : Memory)
    → all_posted memory (deciding_edits n txn ++ applying_edits n txn) ≡ deciding_writes n txn ++ applying_writes n txn
posted_commit n txn memory = search (append_assoc, posted_bodies, posted_applying)

pub commit_parts : (n : ℕ) (entry : ℕ × Line) (entries : Entries)
    → commit_writes n (entry ∷ entries) ≡ deciding_writes n (entry ∷ entries) ++ applying_writes n (entry ∷ entries)
commit_parts n entry entries = search append_assoc

pub length-body_writes : (k : ℕ) (bodies : List Line) → length (body_writes k bodies) ≡ length bodies
length-body_writes k [] = refl
length-body_writes k (body ∷ bodies) = let rest = length-body_writes (k + 1) bodies in omega (arith, rest)

pub length-bodies : (n : ℕ) (txn : Entries) → length (body_writes n (bodies_of txn)) ≡ length txn
length-bodies n txn = length-body_writes n (bodies_of txn) ∙ length-map txn (λ e. e.1)

pub length-deciding_writes : (n : ℕ) (txn : Entries) → length (deciding_writes n txn) ≡ length txn + 1
length-deciding_writes n txn = search (length-append, length-bodies)

length-applying_writes : (n : ℕ) (txn : Entries) → length (applying_writes n txn) ≡ length txn + 1
length-applying_writes n txn =
    length-append (target_writes txn) (whole_write n zero_line ∷ []) ∙ ap (λ k. k + 1) (length-map txn (λ e. whole_write e.0 e.1))

pub length-commit_writes : (n : ℕ) (entry : ℕ × Line) (entries : Entries) → length (commit_writes n (entry ∷ entries)) ≡ 2 * length (entry ∷ entries) + 2
length-commit_writes n entry entries =
    let all = ap length (commit_parts n entry entries) in
    let both = length-append (deciding_writes n (entry ∷ entries)) (applying_writes n (entry ∷ entries)) in
    let first = length-deciding_writes n (entry ∷ entries) in
    let later = length-applying_writes n (entry ∷ entries) in
    omega (arith, all, both, first, later)

-- ---- of a redo

-- bodies stay while they are copied to targets before them
posted_copies : (p : ℕ) (targets : List ℕ) (lines now : Memory) (more : List Edit) (ws : List Posted) → All (λ t. t < p) targets
    → p + length targets ≤ length lines → ((j : ℕ) → p ≤ j → line_at now j ≡ line_at lines j) → ((m : Memory) → all_posted m more ≡ ws)
    → all_posted now (copy_edits p targets ++ more) ≡ target_writes (zip targets (drop p lines)) ++ ws
posted_copies p [] lines now more ws low long same later = later now
posted_copies p (t ∷ targets) lines now more ws low long same later =
    let next : suc p ≡ p + 1 = omega arith in
    let here : line_at now p ≡ line_at lines p = same p (omega arith) in
    let under : t < p = All-head (λ t. t < p) t targets low in
    let others : All (λ t. t < p) targets = All-tail (λ t. t < p) t targets low in
    let first : drop p lines ≡ line_at lines p ∷ drop (p + 1) lines = search (rules, drop-cons, line_at) in
    let write = whole_write t (line_at now p) in
    ap (λ q. write ∷ q)
    (posted_copies (p + 1) targets lines (memory_with now write) more ws (λ i d l. omega (arith, others i d l)) (omega (arith, long))
    (λ j far. line_at-set_other now t j (put_write (line_at now t) write) (λ e. omega (arith, e, under, far)) ∙ same j (omega (arith, far))) later)
    ∙ ap (λ l. whole_write t l ∷ target_writes (zip targets (drop (p + 1) lines)) ++ ws) here
    ∙ ap (λ rest. target_writes (zip (t ∷ targets) rest) ++ ws) (sym first)

pub posted_redo : (n : ℕ) (targets : List ℕ) (lines : Memory) → All (λ t. t < n) targets → n + 1 + length targets ≤ length lines
    → all_posted lines (redoing_edits n targets) ≡ redo_writes n targets lines
posted_redo n [] lines low long = refl
posted_redo n (t ∷ targets) lines low long =
    posted_copies (n + 1) (t ∷ targets) lines lines (Make.Put n zero_line ∷ []) (whole_write n zero_line ∷ [])
    (λ i d l. let under = low i d l in omega (arith, under)) long (λ j far. refl) (λ m. refl)
