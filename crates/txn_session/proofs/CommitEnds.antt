-- How far a commit came, by its answer: how many of its engine writes are done, all their marks, and whether the header's own
-- seal is among these.
use Rattle.std.proofs.Common.{ℕ, ◌≡◌, ◌<◌, ◌≤◌, ◌+◌, ◌-◌, ◌*◌, ◌++◌, Bool, true, false, List, [], ◌∷◌, length, take, drop, Some, Result, Ok, Err, refl, sym, ap, subst, ◌∙◌, arith, rules}
use Rattle.txn_session.proofs.Common.{All, list_any, take-append-add, append-nil, append_assoc, drop_at, take-append-le, All-nil, All-cons, All-take, Line, Posted, Mark, data_lines, zero_line, Shape, Formulas, Setup, Moment, marks_of_writes, drained_marks, Fault, Parts, AreSound, whole_write, Edit, Store, Committed, CommitFault, AreDistinctBelow, header_of, targets_of, bodies_of, AreEdited, IsWholeTxn, body_edits, target_edits, deciding_edits, applying_edits, HasStoreCommitted, HasDecided, HasCommitGoneOn, IsServedAs, commit_answer_by, deciding_fit, applying_fit, length-deciding, length-applying, Writing, is_own_seal, IsCutAmong, write_steps, memory_now, none_done, Entries, body_writes, commit_writes, most_of_commit, writes_none, writes_own, own_at_cut, cost, AreGone, IsSpentAt, IsCutAt, EndsAt, ends_within, edits_go}
use Rattle.pmem_engine.specs.declared.fault.Fault.TheVariants as Fail
use Rattle.engine_lines.specs.declared.edits.Edit.TheVariants as Make
use Rattle.line_txn.specs.declared.store.Committed.TheVariants as Do
use Rattle.txn_session.proofs.WriteLists.{deciding_writes, applying_writes, posted_deciding, posted_applying, commit_parts, length-bodies, length-deciding_writes}

-- ---- with lines

decided_calls : (setup : Setup) (txn : Entries) (old new : Store) (from to : Parts) (answer : Result Committed CommitFault) → (txn ≡ [] → ⊥)
    → HasStoreCommitted setup txn old new from to answer → HasDecided setup txn old new from to answer
decided_calls setup [] old new from to answer some it = absurd (some refl)
decided_calls setup (entry ∷ txn) old new from to answer some it = it

pub commit_queue : (n : ℕ) (txn : Entries) → (txn ≡ [] → ⊥) → commit_writes n txn ≡ deciding_writes n txn ++ applying_writes n txn
commit_queue n [] some = absurd (some refl)
commit_queue n (entry ∷ txn) some = commit_parts n entry txn

-- ---- steps

cost_bodies : (g : Shape) (p : ℕ) (bodies : List Line) (more : List Edit)
    → cost g (body_edits p bodies ++ more) ≡ length bodies * write_steps g + cost g more
cost_bodies g p [] more = omega arith
cost_bodies g p (body ∷ bodies) more = let rest = cost_bodies g (p + 1) bodies more in omega (arith, rest)

cost_targets : (g : Shape) (txn : Entries) (more : List Edit) → cost g (target_edits txn ++ more) ≡ length txn * write_steps g + cost g more
cost_targets g [] more = omega arith
cost_targets g (entry ∷ txn) more = let rest = cost_targets g txn more in omega (arith, rest)

cost_deciding : (g : Shape) (n : ℕ) (txn : Entries) → cost g (deciding_edits n txn) ≡ (length txn + 1) * write_steps g
cost_deciding g n txn =
    let all = cost_bodies g (n + 1) (bodies_of txn) (Make.Put n (header_of (targets_of txn)) ∷ []) in
    let count : length (bodies_of txn) ≡ length txn = bodies txn in
    all ∙ ap (λ k. k * write_steps g + (write_steps g + 0)) count ∙ omega arith
  where
    bodies : (txn : Entries) → length (bodies_of txn) ≡ length txn
    bodies [] = refl
    bodies (entry ∷ txn) = let rest = bodies txn in omega (arith, rest)

cost_applying : (g : Shape) (n : ℕ) (txn : Entries) → cost g (applying_edits n txn) ≡ (length txn + 1) * write_steps g
cost_applying g n txn = cost_targets g txn (Make.Put n zero_line ∷ []) ∙ omega arith

-- ---- the end, by the answer

abbrev pub FailsTxnAt : Setup → Parts → List Posted → ℕ → ℕ → Fault → Bool → Parts → Type 0
FailsTxnAt setup from queue count most (Fail.Spent page) committed to = IsSpentAt setup from queue 0 (count + 1) page most to
FailsTxnAt setup from queue count most Fail.Cut true to = IsCutAt setup from queue (count + 1) (2 * count + 2) most to
FailsTxnAt setup from queue count most Fail.Cut false to = IsCutAt setup from queue 0 (2 * count + 2) most to
FailsTxnAt setup from queue count most fault committed to = ⊥

abbrev pub CommitEndsAt : Setup → Parts → List Posted → ℕ → ℕ → Result Committed CommitFault → Parts → Type 0
CommitEndsAt setup from queue count most (Ok Do.Applied) to = AreGone setup from queue (2 * count + 2) most to
CommitEndsAt setup from queue count most (Ok (Do.Stuck page)) to = IsSpentAt setup from queue (count + 1) (2 * count + 2) page most to
CommitEndsAt setup from queue count most (Err fault) to = FailsTxnAt setup from queue count most fault.fault fault.committed to

-- what the store serves then; nothing is said if power is cut once the header is written
abbrev pub CommitServes : Entries → Store → Store → Result Committed CommitFault → Type 0
CommitServes txn old new (Ok Do.Applied) = IsServedAs old.logged.items old.stuck old new
CommitServes txn old new (Ok (Do.Stuck page)) = IsServedAs (targets_of txn) (Some page) old new
CommitServes txn old new (Err fault) = IsServedAs old.logged.items old.stuck old new

pub commit_serves : (setup : Setup) (txn : Entries) (old new : Store) (from to : Parts) (answer : Result Committed CommitFault) → (txn ≡ [] → ⊥)
    → HasStoreCommitted setup txn old new from to answer → CommitServes txn old new answer
commit_serves setup txn old new from to answer some it = search rules

module _ (setup : Setup) (n : ℕ) (txn : Entries) (some : txn ≡ [] → ⊥) (from : Parts) (sound : AreSound setup from)
    (live : from.device.live ≡ true) (size : n + 16 ≡ data_lines setup.shape) (below : AreDistinctBelow n (targets_of txn)) (whole : IsWholeTxn txn) where
  abbrev count : ℕ
  count = length txn

  abbrev queue : List Posted
  queue = commit_writes n txn

  abbrev most : ℕ
  most = most_of_commit setup.shape count

  abbrev w : ℕ
  w = write_steps setup.shape

  abbrev deciding : List Edit
  deciding = deciding_edits n txn

  abbrev applying : List Edit
  applying = applying_edits n txn

  -- the writes that decide come first
  first_writes : drop 0 queue ≡ deciding_writes n txn ++ applying_writes n txn
  first_writes = commit_queue n txn some

  later_writes : drop (length deciding) queue ≡ applying_writes n txn
  later_writes = search (commit_queue, drop_at, length-deciding_writes, length-deciding)

  decided_end : (between : Parts) (made : Result (Unit {0}) Fault) → AreEdited setup deciding from between made
      → EndsAt setup from queue 0 (0 + length deciding) (0 + cost setup.shape deciding) made between
  decided_end between made it =
      edits_go setup from queue deciding 0 0 [] from between (applying_writes n txn) made
      (deciding_fit n (data_lines setup.shape) size txn whole.few whole.whole whole.header) (none_done setup from sound live)
      (first_writes ∙ ap (λ l. l ++ applying_writes n txn) (sym (posted_deciding n txn (memory_now setup from)))) it

  applied_end : (between to : Parts) (applied : Result (Unit {0}) Fault)
      → AreGone setup from queue (0 + length deciding) (0 + cost setup.shape deciding) between → AreEdited setup applying between to applied
      → EndsAt setup from queue (0 + length deciding) (0 + length deciding + length applying)
      (0 + cost setup.shape deciding + cost setup.shape applying) applied to
  applied_end between to applied gone it =
      edits_go setup from queue applying (0 + length deciding) (0 + cost setup.shape deciding) gone.made between to [] applied
      (applying_fit n (data_lines setup.shape) size txn below whole.whole) gone.done
      (ap (λ k. drop k queue) zero_more ∙ later_writes ∙ sym (posted_applying n txn (memory_now setup between))
      ∙ sym (append-nil _)) it
    where
      zero_more : 0 + length deciding ≡ length deciding
      zero_more = omega arith

  refused_as : (fault : Fault) (between : Parts)
      → EndsAt setup from queue 0 (0 + length deciding) (0 + cost setup.shape deciding) (Err fault) between
      → FailsTxnAt setup from queue count most fault false between
  refused_as fault between ends =
      go fault
      (ends_within setup from queue 0 0 (0 + length deciding) (count + 1) (0 + cost setup.shape deciding) most fault between (omega arith)
      (let long = length-deciding n txn in omega (arith, long)) (let steps = cost_deciding setup.shape n txn in omega (arith, steps)) ends)
    where
      go : (fault : Fault) → EndsAt setup from queue 0 (count + 1) most (Err fault) between → FailsTxnAt setup from queue count most fault false between
      go (Fail.Spent page) it = it
      go Fail.Cut it = ends_within setup from queue 0 0 (count + 1) (2 * count + 2) most most Fail.Cut between (omega arith) (omega arith) (omega arith) it
      go fault it = absurd it

  applied_as : (applied : Result (Unit {0}) Fault) (to : Parts)
      → EndsAt setup from queue (0 + length deciding) (0 + length deciding + length applying)
      (0 + cost setup.shape deciding + cost setup.shape applying) applied to
      → CommitEndsAt setup from queue count most (commit_answer_by applied) to
  applied_as (Ok done) to gone = search (rules, AreGone, length-deciding, length-applying, cost_deciding, cost_applying)
  applied_as (Err fault) to ends =
      go fault
      (ends_within setup from queue (0 + length deciding) (count + 1) (0 + length deciding + length applying) (2 * count + 2)
      (0 + cost setup.shape deciding + cost setup.shape applying) most fault to
      (let long = length-deciding n txn in omega (arith, long))
      (let long = length-deciding n txn in let more = length-applying n txn in omega (arith, long, more))
      (let steps = cost_deciding setup.shape n txn in let more = cost_applying setup.shape n txn in omega (arith, steps, more)) ends)
    where
      go : (fault : Fault) → EndsAt setup from queue (count + 1) (2 * count + 2) most (Err fault) to
          → CommitEndsAt setup from queue count most (commit_answer_by (Err fault)) to
      go (Fail.Spent page) it = it
      go Fail.Cut it = it
      go fault it = absurd it

  pub commit_ends_at : (old new : Store) (to : Parts) (answer : Result Committed CommitFault) → old.lines ≡ n
      → HasStoreCommitted setup txn old new from to answer → CommitEndsAt setup from queue count most answer to
  commit_ends_at old new to answer same it = go its.made its.was_made its.then
    where
      its : HasDecided setup txn old new from to answer
      its = decided_calls setup txn old new from to answer some it

      go : (made : Result (Unit {0}) Fault) → AreEdited setup (deciding_edits old.lines txn) from its.between made
          → HasCommitGoneOn made setup txn old new its.between to answer → CommitEndsAt setup from queue count most answer to
      go (Ok done) was then =
          let gone : AreGone setup from queue (0 + length deciding) (0 + cost setup.shape deciding) its.between =
          decided_end its.between (Ok done) (subst (λ m. AreEdited setup (deciding_edits m txn) from its.between (Ok done)) same was) in
          subst (λ a. CommitEndsAt setup from queue count most a to) (sym then.its_answer)
          (applied_as then.applied to
          (applied_end its.between to then.applied gone
          (subst (λ m. AreEdited setup (applying_edits m txn) its.between to then.applied) same then.was_applied)))
      go (Err fault) was then =
          subst (λ a. CommitEndsAt setup from queue count most a to) (sym then.its_answer)
          (subst (FailsTxnAt setup from queue count most fault false) (sym then.nothing_else)
          (refused_as fault its.between
          (decided_end its.between (Err fault) (subst (λ m. AreEdited setup (deciding_edits m txn) from its.between (Err fault)) same was))))

-- ---- the header's own seal

bodies_apart : (n p : ℕ) (bodies : List Line) → n < p → All (λ (w : Posted). w.at ≡ n → ⊥) (body_writes p bodies)
bodies_apart n p [] past = All-nil (λ (w : Posted). w.at ≡ n → ⊥)
bodies_apart n p (body ∷ bodies) past =
    All-cons (λ (w : Posted). w.at ≡ n → ⊥) (whole_write p body) (body_writes (p + 1) bodies) (λ e. omega (arith, e, past))
    (bodies_apart n (p + 1) bodies (omega (arith, past)))

module _ (f : Formulas) (now : Moment) (n : ℕ) (txn : Entries) (some : txn ≡ [] → ⊥) where
  abbrev its_queue : List Posted
  its_queue = commit_writes n txn

  abbrev bodies_first : List Posted
  bodies_first = body_writes (n + 1) (bodies_of txn)

  abbrev header : Posted
  header = whole_write n (header_of (targets_of txn))

  -- it isn't among those of bodies
  before_header : (k : ℕ) (made : List Mark) → k ≤ length txn → drained_marks f now its_queue k ≡ Some made → list_any (is_own_seal n) made ≡ false
  before_header k made few drained =
      let all = length-deciding_writes n txn in
      let bodies = length-bodies (n + 1) txn in
      let front : take k its_queue ≡ take k bodies_first = search (rules, commit_queue, take-append-le, deciding_writes, applying_writes) in
      writes_none f now (take k bodies_first) made n (sym (ap (marks_of_writes f now) front) ∙ drained)
      (All-take (λ (w : Posted). w.at ≡ n → ⊥) k bodies_first (bodies_apart n (n + 1) (bodies_of txn) (omega arith)))

  -- and is among those of more writes
  past_header : (k : ℕ) (made : List Mark) → length txn < k → drained_marks f now its_queue k ≡ Some made → list_any (is_own_seal n) made ≡ true
  past_header k made past drained =
      let all = length-deciding_writes n txn in
      let more : ℕ = k - (length txn + 1) in
      let place : k ≡ length (deciding_writes n txn) + more = omega (arith, past, all) in
      let front : take k its_queue ≡ bodies_first ++ (header ∷ take more (applying_writes n txn)) = search (rules, commit_queue, deciding_writes, take-append-add, applying_writes, append_assoc) in
      writes_own f now bodies_first header (take more (applying_writes n txn)) made (sym (ap (marks_of_writes f now) front) ∙ drained)

  pub own_absent : (writing : Writing) → writing.done ≤ length txn → IsCutAmong f now its_queue writing
      → list_any (is_own_seal n) writing.made ≡ false
  own_absent writing few = own_at_cut f now its_queue writing n false (λ made drained. before_header writing.done made few drained)

  pub own_present : (writing : Writing) → length txn < writing.done → IsCutAmong f now its_queue writing
      → list_any (is_own_seal n) writing.made ≡ true
  own_present writing past = own_at_cut f now its_queue writing n true (λ made drained. past_header writing.done made past drained)
