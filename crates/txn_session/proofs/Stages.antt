-- The lines once the first k changes of a commit or a redo are made: at which stage they are, and what memory they hold.
use Rattle.std.proofs.Common.{ℕ, zero, suc, ◌≡◌, ◌<◌, ◌≤◌, ◌+◌, ◌-◌, ◌*◌, ◌++◌, inl, inr, Bool, true, false, cond, List, [], ◌∷◌, length, take, refl, sym, ap, ◌∙◌, arith, rules}
use Rattle.txn_session.proofs.Common.{nat_lt, ◌==◌, slice_set, take-append-add, cases_lt, lt-ltb, le-ltb, eq-eqb, ne_eqb, take-append-le, take_all, length-append, put_lines, zero_line, Memory, Edit, AreTargets, CommitStage, logged, decided, cleared, commit_lines_at, lines_decided, targets_at, commit_memory_at, with_header, targets_of, Opening, partly, through, lines_opened, targets_opened, all_edited, target_edits, copy_edits, deciding_edits, applying_edits, redoing_edits, zero_header, after_bodies, after_all_bodies, after_targets, after_all_targets, after_copies, length-bodies, length-targets, length-deciding, length-applying, length-copy_edits, Entries}
use Rattle.engine_lines.specs.declared.edits.Edit.TheVariants as Make
use Rattle.engine_lines.proofs.EditStages.{all_edited-append, after_last}

-- ---- a commit

abbrev pub commit_edits : ℕ → Entries → List Edit
commit_edits n txn = deciding_edits n txn ++ applying_edits n txn

-- the stage once the first k are made, the targets in force, and the memory
pub record IsAtStage (n : ℕ) (txn : Entries) (lines : Memory) (k : ℕ) : Type 0 where
  pub stage : CommitStage
  pub its_lines : all_edited (take k (commit_edits n txn)) lines ≡ commit_lines_at stage n txn lines
  pub targets :
      targets_at stage txn ≡ cond (nat_lt (length txn) k) (cond (k == 2 * length txn + 2) [] (targets_of txn)) []
  pub its_memory : (memory : Memory) → commit_memory_at stage txn memory ≡ cond (nat_lt (length txn) k) (put_lines txn memory) memory

module _ (n : ℕ) (txn : Entries) (lines : Memory) where
  abbrev c : ℕ
  c = length txn

  abbrev after_header : Memory
  after_header = lines_decided n txn lines

  decided_lines : all_edited (deciding_edits n txn) lines ≡ after_header
  decided_lines = search (after_last, after_all_bodies)

  cleared_lines : all_edited (applying_edits n txn) after_header ≡ commit_lines_at cleared n txn lines
  cleared_lines =
      after_last (target_edits txn) (Make.Put n zero_line) after_header
      ∙ ap (λ l. slice_set l n zero_line) (after_all_targets txn after_header)
      ∙ ap (slice_set (put_lines txn after_header) n) (sym zero_header)

  -- up to the header
  before_header : (k : ℕ) → k ≤ c → IsAtStage n txn lines k
  before_header k few =
      let bodies = length-bodies (n + 1) txn in
      let long = length-deciding n txn in
      record {
        stage = logged k;
        its_lines = search (rules, all_edited, take-append-le, after_bodies);
        targets = sym (ap (λ b. cond b (cond (k == 2 * c + 2) [] (targets_of txn)) []) (le-ltb c k few));
        its_memory = λ memory. sym (ap (λ b. cond b (put_lines txn memory) memory) (le-ltb c k few));
      }

  -- and from it on
  past_header : (k j : ℕ) → k ≡ c + 1 + j → c < k
      → all_edited (take k (commit_edits n txn)) lines ≡ all_edited (take j (applying_edits n txn)) after_header
  past_header k j is past =
      let long = length-deciding n txn in
      let place : k ≡ length (deciding_edits n txn) + j = omega (arith, is, long) in
      ap (λ m. all_edited (take m (commit_edits n txn)) lines) place
      ∙ ap (λ es. all_edited es lines) (take-append-add (deciding_edits n txn) (applying_edits n txn) j)
      ∙ all_edited-append (deciding_edits n txn) (take j (applying_edits n txn)) lines
      ∙ ap (all_edited (take j (applying_edits n txn))) decided_lines

  in_targets : (k j : ℕ) → k ≡ c + 1 + j → c < k → k < 2 * c + 2 → IsAtStage n txn lines k
  in_targets k j is past below =
      let all = length-targets txn in
      record {
        stage = decided j;
        its_lines =
            past_header k j is past
            ∙ ap (λ es. all_edited es after_header)
            (take-append-le j (target_edits txn) (Make.Put n zero_line ∷ []) (omega (arith, all, is, below)))
            ∙ after_targets j txn after_header;
        targets = search (rules, lt-ltb, ne_eqb);
        its_memory = λ memory. sym (ap (λ b. cond b (put_lines txn memory) memory) (lt-ltb c k past));
      }

  at_end : (k j : ℕ) → k ≡ c + 1 + j → c < k → k ≡ 2 * c + 2 → IsAtStage n txn lines k
  at_end k j is past end =
      let all = length-applying n txn in
      record {
        stage = cleared;
        its_lines =
            past_header k j is past
            ∙ ap (λ es. all_edited es after_header) (take_all j (applying_edits n txn) (omega (arith, all, is, end)))
            ∙ cleared_lines;
        targets = search (rules, lt-ltb, eq-eqb);
        its_memory = λ memory. sym (ap (λ b. cond b (put_lines txn memory) memory) (lt-ltb c k past));
      }

  pub at_stage : (k : ℕ) → k ≤ 2 * c + 2 → IsAtStage n txn lines k
  at_stage k few =
      elim (cases_lt c k) [
        | inl past ↦
            let is : k ≡ c + 1 + (k - (c + 1)) = omega (arith, past) in
            elim (cases_lt k (2 * c + 2)) [
              | inl below ↦ in_targets k (k - (c + 1)) is past below
              | inr end ↦ at_end k (k - (c + 1)) is past (omega (arith, end, few))
            ]
        | inr before ↦ before_header k before
      ]

-- ---- a redo

-- how far it has come, and the targets in force
pub record IsRedoneTo (n : ℕ) (targets : List ℕ) (lines : Memory) (k : ℕ) : Type 0 where
  pub opening : Opening
  pub its_lines : all_edited (take k (redoing_edits n targets)) lines ≡ lines_opened opening n targets lines
  pub its_targets : targets_opened opening targets ≡ cond (nat_lt (length targets) k) [] targets

none_either : (b : Bool) → (let none : List ℕ = [] in none ≡ cond b [] [])
none_either true = refl
none_either false = refl

pub redone_at : (n : ℕ) (targets : List ℕ) (lines : Memory) (k : ℕ) → AreTargets n targets → n + 1 + length targets ≤ length lines
    → IsRedoneTo n targets lines k
redone_at n [] lines zero its long = record { opening = partly 0; its_lines = refl; its_targets = none_either (nat_lt 0 0) }
redone_at n [] lines (suc k) its long = record { opening = partly 0; its_lines = refl; its_targets = none_either (nat_lt 0 (suc k)) }
redone_at n (t ∷ targets) lines k its long =
    elim (cases_lt (length (t ∷ targets)) k) [
      | inl past ↦
          record {
            opening = through;
            its_lines =
                ap (λ es. all_edited es lines) (take_all k (redoing_edits n (t ∷ targets)) (omega (arith, past, count)))
                ∙ after_last copies (Make.Put n zero_line) lines
                ∙ ap (λ z. slice_set (all_edited copies lines) n z) (sym zero_header)
                ∙ ap (λ es. with_header n [] (all_edited es lines)) (sym all)
                ∙ ap (with_header n []) (after_copies n 15 (t ∷ targets) lines its.below long);
            its_targets = sym (ap (λ b. cond b [] (t ∷ targets)) (lt-ltb (length (t ∷ targets)) k past));
          }
      | inr before ↦
          record {
            opening = partly k;
            its_lines =
                ap (λ es. all_edited es lines) (take-append-le k copies (Make.Put n zero_line ∷ []) (omega (arith, before, some)))
                ∙ after_copies n k (t ∷ targets) lines its.below long;
            its_targets = sym (ap (λ b. cond b [] (t ∷ targets)) (le-ltb (length (t ∷ targets)) k before));
          }
    ]
  where
    copies : List Edit
    copies = copy_edits (n + 1) (t ∷ targets)

    some : length copies ≡ length (t ∷ targets)
    some = length-copy_edits (n + 1) (t ∷ targets)

    count : length (redoing_edits n (t ∷ targets)) ≡ length (t ∷ targets) + 1
    count = length-append copies (Make.Put n zero_line ∷ []) ∙ ap (λ m. m + 1) some

    all : take 15 copies ≡ copies
    all = let few = its.few in take_all 15 copies (omega (arith, few, some))
