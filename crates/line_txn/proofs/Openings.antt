-- What an opening leaves, by its answer, and what a store reads.
use Rattle.std.proofs.Common.{ℕ, ◌≡◌, ◌<◌, ◌≤◌, ◌+◌, ◌^◌, ◌⊎◌, inl, inr, List, [], ◌∷◌, length, take, Result, Ok, Err, Option, Some, None, refl, sym, ap, subst, ◌∙◌, arith, rules}
use Rattle.line_txn.proofs.Common.{All, slice_set, ⊤, take_all, Line, Shape, data_lines, line_at, Setup, Fault, EngineState, Parts, AreTrusted, AreSound, HasReadLine, HasLines, IsUnspent, IsCutOrSpent, AreEdited, IsEditOf, edited, all_edited, least_lines, unrefused_fault, trusted_after_read, sound_after_read, lines_after_read, line_read, Store, TxnFault, AreTargets, IsHeader, IsLogged, Opening, partly, through, lines_opened, targets_opened, with_header, copy_edits, redoing_edits, logged_lines, HasStoreOpened, HasStoreStarted, HasTargetsRedone, HasFailedRedo, HasFoundNone, IsOpenedBy, IsOpenedTo, HasOpenedLogged, LeavesOpenedTrusted, LeavesOpenedSound, AfterEdits, LeftTrusted, LeftSound, trusted_after_edits, sound_after_edits, edits_leave, LeavesAll, after_last, stops_by}
use Rattle.pmem_base.specs.Lines.{zero_line}
use Rattle.pmem_engine.specs.declared.fault.Fault.TheVariants as Fail
use Rattle.engine_lines.specs.declared.edits.Edit.TheVariants as Make
use Rattle.line_txn.specs.declared.store.Opened.{Opened}
use Rattle.line_txn.specs.declared.store.TxnFault.TheVariants as Txn
use Rattle.line_txn.proofs.LoggedLaws.{kept_by_opening, zero_header}
use Rattle.line_txn.proofs.EditStages.{after_copies, length-copy_edits, redoing_fit}

-- ---- the lines

module _ (setup : Setup) (lines : List Line) (size : logged_lines setup.shape + 16 ≡ data_lines setup.shape)
    (low : logged_lines setup.shape ≤ 2 ^ 30) where
  abbrev n : ℕ
  n = logged_lines setup.shape

  small : data_lines setup.shape ≤ 2 ^ 32
  small = omega (arith, size, low)

  opened_at : (opening : Opening) (found served : List ℕ) (new : Parts) → IsHeader n (line_at lines n) found → served ≡ targets_opened opening found
      → HasLines setup (lines_opened opening n found lines) new → IsOpenedTo setup lines new served opening found
  opened_at opening found served new header same holds =
      record {
        header = header;
        its_lines = holds;
        its_targets = same;
        logged = λ targets memory held.
            subst (λ ts. IsLogged n (lines_opened opening n found lines) ts memory) (sym same)
            (kept_by_opening n (omega (arith, low)) lines memory targets found opening held header);
      }

  -- all of it is made
  through_lines : (targets : List ℕ) → AreTargets n targets → n + 1 + length targets ≤ length lines
      → edited (Make.Put n zero_line) (all_edited (copy_edits (n + 1) targets) lines) ≡ lines_opened through n targets lines
  through_lines targets its long =
      let few = its.few in
      let all : take 15 (copy_edits (n + 1) targets) ≡ copy_edits (n + 1) targets =
      take_all 15 (copy_edits (n + 1) targets) (omega (arith, few, length-copy_edits (n + 1) targets)) in
      ap (λ z. slice_set (all_edited (copy_edits (n + 1) targets) lines) n z) (sym zero_header)
      ∙ ap (λ es. with_header n [] (all_edited es lines)) (sym all)
      ∙ ap (with_header n []) (after_copies n 15 targets lines its.below long)

  -- how an opening ends, by the answer of its redo
  abbrev EndsStoreRedo : Result (Unit {0}) Fault → List ℕ → Parts → Type 0
  EndsStoreRedo (Ok done) targets new = (opening : Opening) × (targets_opened opening targets ≡ []) × HasLines setup (lines_opened opening n targets lines) new
  EndsStoreRedo (Err fault) targets new =
      (opening : Opening) × HasLines setup (lines_opened opening n targets lines) new
      × (IsUnspent fault ⊎ (targets_opened opening targets ≡ targets))

  redo_ends : (targets : List ℕ) (between new : Parts) (redone : Result (Unit {0}) Fault) → AreTargets n targets
      → HasLines setup lines between → AreTrusted setup between → AreEdited setup (redoing_edits n targets) between new redone
      → EndsStoreRedo redone targets new
  redo_ends [] between new redone its had trusted it =
      subst (λ r. EndsStoreRedo r [] new) (sym it.0) (partly 0, refl, subst (HasLines setup lines) (sym it.1) had)
  redo_ends (t ∷ targets) between new redone its had trusted it =
      go redone (edits_leave setup small (redoing_edits n (t ∷ targets)) lines between new redone fit had trusted it)
    where
      few : length (t ∷ targets) ≤ 15
      few = its.few

      fit : All (IsEditOf (data_lines setup.shape)) (redoing_edits n (t ∷ targets))
      fit = redoing_fit n (data_lines setup.shape) size (t ∷ targets) few its.below

      long : n + 1 + length (t ∷ targets) ≤ length lines
      long = let count = had.whole.count in omega (arith, few, count, size)

      all :
          edited (Make.Put n zero_line) (all_edited (copy_edits (n + 1) (t ∷ targets)) lines) ≡ lines_opened through n (t ∷ targets) lines
      all = through_lines (t ∷ targets) its long

      go : (redone : Result (Unit {0}) Fault) → LeavesAll setup small redone (redoing_edits n (t ∷ targets)) lines new
          → EndsStoreRedo redone (t ∷ targets) new
      go (Ok done) holds =
          (through, refl, subst (λ l. HasLines setup l new) (after_last (copy_edits (n + 1) (t ∷ targets)) (Make.Put n zero_line) lines ∙ all) holds)
      go (Err fault) stops =
          let by = stops_by setup small (copy_edits (n + 1) (t ∷ targets)) (Make.Put n zero_line) lines new fault stops in
          elim by.left [
            | inl same ↦
                (partly by.k, subst (λ l. HasLines setup l new) (after_copies n by.k (t ∷ targets) lines its.below long) same, inr refl)
            | inr put ↦ (through, subst (λ l. HasLines setup l new) all put.2, inl put.1)
          ]

  -- the redo of the header that was read
  record RedoneTo (targets : List ℕ) (new : Parts) (redone : Result (Unit {0}) Fault) : Type 0 where
    its_header : IsHeader n (line_at lines n) targets
    ends : EndsStoreRedo redone targets new

  redone_to_end : (targets : List ℕ) (old new : Parts) (redone : Result (Unit {0}) Fault) → HasLines setup lines old → AreTrusted setup old
      → HasTargetsRedone setup targets old new redone → RedoneTo targets new redone
  redone_to_end targets old new redone had trusted it =
      let inside : n < data_lines setup.shape = omega (arith, size) in
      let same : it.line ≡ line_at lines n = line_read setup n old it.between it.line lines inside had trusted it.was_read in
      let header : IsHeader n (line_at lines n) targets = subst (λ l. IsHeader n l targets) same it.header in
      record {
        its_header = header;
        ends =
            redo_ends targets it.between new redone header.its_targets
            (lines_after_read setup n old it.between (Ok it.line) it.was_read lines had trusted)
            (trusted_after_read setup n old it.between (Ok it.line) it.was_read trusted) it.was_redone;
      }

  started : (old new : Parts) (store : Store) (opened : Opened) → HasLines setup lines old → AreTrusted setup old
      → HasStoreStarted setup old new store opened
      → (opening : Opening) × (found : List ℕ) × IsOpenedTo setup lines new store.logged.items opening found × (opened.redone ≡ length found)
  started old new store opened had trusted it =
      let to = redone_to_end it.targets old new it.redone had trusted it.was_redone in
      go it.redone it.its_end to.ends to.its_header
    where
      go : (redone : Result (Unit {0}) Fault) → IsOpenedBy redone store.lines it.targets store opened → EndsStoreRedo redone it.targets new
          → IsHeader n (line_at lines n) it.targets
          → (opening : Opening) × (found : List ℕ) × IsOpenedTo setup lines new store.logged.items opening found × (opened.redone ≡ length found)
      go (Ok done) by ends header =
          (ends.0, it.targets, opened_at ends.0 it.targets store.logged.items new header (by.0 ∙ sym ends.1) ends.2, it.its_count)
      go (Err (Fail.Spent page)) by ends header =
          elim ends.2 [
            | inl unspent ↦ absurd unspent
            | inr same ↦
                (ends.0, it.targets, opened_at ends.0 it.targets store.logged.items new header (by.0 ∙ sym same) ends.1, it.its_count)
          ]
      go (Err fault) by ends header = absurd by

  failed : (old new : Parts) (fault : Fault) → HasLines setup lines old → AreTrusted setup old → HasFailedRedo setup old new fault
      → (opening : Opening) × (found : List ℕ) × IsOpenedTo setup lines new (targets_opened opening found) opening found
  failed old new fault had trusted it =
      let to = redone_to_end it.targets old new (Err fault) had trusted it.was_redone in
      (to.ends.0, it.targets, opened_at to.ends.0 it.targets (targets_opened to.ends.0 it.targets) new to.its_header refl to.ends.1)

  pub opened_logged : (old : Parts) (now : EngineState → Parts) (answer : Result (Store × Opened) TxnFault) → HasLines setup lines old
      → AreTrusted setup old → HasStoreOpened setup old now answer → HasOpenedLogged setup lines now answer
  opened_logged old now (Ok both) had trusted it = started old (now both.0.engine) both.0 both.1 had trusted it
  opened_logged old now (Err (Txn.Engine fault)) had trusted it = (
    it.0,
    elim it.1 [
      | inl read ↦ inl (lines_after_read setup n old (now it.0) (Err fault) read lines had trusted)
      | inr redo ↦ inr (failed old (now it.0) fault had trusted redo)
    ],
  )
  opened_logged old now (Err (Txn.Header line)) had trusted it =
      let inside : n < data_lines setup.shape = omega (arith, size) in
      let same : line ≡ line_at lines n = line_read setup n old (now it.0) line lines inside had trusted it.1.was_read in (
        it.0,
        lines_after_read setup n old (now it.0) (Ok line) it.1.was_read lines had trusted,
        λ targets memory held. it.1.none targets (subst (λ l. IsHeader n l targets) (sym same) held.header),
      )

-- ---- trusted and sound

redone_trusted : (setup : Setup) (targets : List ℕ) (old new : Parts) (redone : Result (Unit {0}) Fault) → AreTrusted setup old
    → HasTargetsRedone setup targets old new redone → AfterEdits (AreTrusted setup) (LeftTrusted setup) redone new
redone_trusted setup targets old new redone trusted it =
    trusted_after_edits setup (redoing_edits (logged_lines setup.shape) targets) it.between new redone it.was_redone
    (trusted_after_read setup (logged_lines setup.shape) old it.between (Ok it.line) it.was_read trusted)

redone_sound : (setup : Setup) (targets : List ℕ) (old new : Parts) (redone : Result (Unit {0}) Fault) → AreSound setup old
    → HasTargetsRedone setup targets old new redone → AfterEdits (AreSound setup) (LeftSound setup) redone new
redone_sound setup targets old new redone sound it =
    sound_after_edits setup (redoing_edits (logged_lines setup.shape) targets) it.between new redone it.was_redone
    (sound_after_read setup (logged_lines setup.shape) old it.between (Ok it.line) it.was_read sound).0

pub opened_trusted : (setup : Setup) (old : Parts) (now : EngineState → Parts) (answer : Result (Store × Opened) TxnFault)
    → HasStoreOpened setup old now answer → AreTrusted setup old → LeavesOpenedTrusted setup now answer
opened_trusted setup old now (Ok both) it trusted =
    go it.redone it.its_end (redone_trusted setup it.targets old (now both.0.engine) it.redone trusted it.was_redone)
  where
    go : (redone : Result (Unit {0}) Fault) → IsOpenedBy redone both.0.lines it.targets both.0 both.1
        → AfterEdits (AreTrusted setup) (LeftTrusted setup) redone (now both.0.engine) → AreTrusted setup (now both.0.engine)
    go (Ok done) by is = is
    go (Err (Fail.Spent page)) by is = is
    go (Err fault) by is = absurd by
opened_trusted setup old now (Err (Txn.Engine fault)) it trusted = (
  it.0,
  elim it.1 [
    | inl read ↦ trusted_after_read setup (logged_lines setup.shape) old (now it.0) (Err fault) read trusted
    | inr redo ↦ redone_trusted setup redo.targets old (now it.0) (Err fault) trusted redo.was_redone
  ],
)
opened_trusted setup old now (Err (Txn.Header line)) it trusted =
    (it.0, trusted_after_read setup (logged_lines setup.shape) old (now it.0) (Ok line) it.1.was_read trusted)

-- an unspent one of the faults that a sound device has is a cut
only_cut : (fault : Fault) → IsCutOrSpent fault → IsUnspent fault → fault ≡ Fail.Cut
only_cut Fail.Cut is unspent = refl
only_cut (Fail.Spent page) is unspent = absurd unspent
only_cut fault is unspent = absurd is

-- a read isn't spent
read_unspent : (setup : Setup) (at : ℕ) (old new : Parts) (fault : Fault) → HasReadLine setup at old new (Err fault) → IsUnspent fault
read_unspent setup at old new (Fail.Spent page) it = absurd it.possible
read_unspent setup at old new fault it = tt

pub opened_sound : (setup : Setup) (old : Parts) (now : EngineState → Parts) (answer : Result (Store × Opened) TxnFault)
    → HasStoreOpened setup old now answer → AreSound setup old → LeavesOpenedSound setup now answer
opened_sound setup old now (Ok both) it sound =
    go it.redone it.its_end (redone_sound setup it.targets old (now both.0.engine) it.redone sound it.was_redone)
  where
    go : (redone : Result (Unit {0}) Fault) → IsOpenedBy redone both.0.lines it.targets both.0 both.1
        → AfterEdits (AreSound setup) (LeftSound setup) redone (now both.0.engine) → AreSound setup (now both.0.engine)
    go (Ok done) by is = is
    go (Err (Fail.Spent page)) by is = is.0
    go (Err fault) by is = absurd by
opened_sound setup old now (Err (Txn.Engine fault)) it sound =
    elim it.1 [
      | inl read ↦
          let after = sound_after_read setup (logged_lines setup.shape) old (now it.0) (Err fault) read sound in
          (only_cut fault (unrefused_fault Line fault after.1) (read_unspent setup (logged_lines setup.shape) old (now it.0) fault read), (it.0, after.0))
      | inr redo ↦
          let after = redone_sound setup redo.targets old (now it.0) (Err fault) sound redo.was_redone in
          (only_cut fault after.1 redo.unspent, (it.0, after.0))
    ]
opened_sound setup old now (Err (Txn.Header line)) it sound =
    (it.0, (sound_after_read setup (logged_lines setup.shape) old (now it.0) (Ok line) it.1.was_read sound).0)

-- ---- the calls of an opening, put together

-- the last 16 lines of a memory are the log
pub logged_size : (g : Shape) → logged_lines g + 16 ≡ data_lines g
logged_size g = let least = least_lines g in omega (arith, least)

pub unspent_fault : (fault : Fault) → ((page : ℕ) → fault ≡ Fail.Spent page → ⊥) → IsUnspent fault
unspent_fault (Fail.Spent page) unspent = absurd (unspent page refl)
unspent_fault fault unspent = tt

pub none_by : (setup : Setup) (n : ℕ) (old new : Parts) (line : Line) → n ≡ logged_lines setup.shape → HasReadLine setup n old new (Ok line)
    → ((targets : List ℕ) → IsHeader n line targets → ⊥) → HasFoundNone setup old new line
none_by setup n old new line same read none = search rules

pub redone_by : (setup : Setup) (n : ℕ) (old between new : Parts) (line : Line) (targets : List ℕ) (redone : Result (Unit {0}) Fault)
    → n ≡ logged_lines setup.shape → HasReadLine setup n old between (Ok line) → IsHeader n line targets
    → AreEdited setup (redoing_edits n targets) between new redone → HasTargetsRedone setup targets old new redone
redone_by setup n old between new line targets redone same read header edits = search rules

abbrev IsThere : {X : Type 0} → Option X → Type 0
IsThere (Some x) = ⊤
IsThere None = ⊥

pub some_none : {X : Type 0} (x : X) → (let some : Option X = Some x in some ≡ None) → ⊥
some_none x e = subst IsThere e tt
