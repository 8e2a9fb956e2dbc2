-- What a session's memory and wear are once the first k engine writes of a write are done.
use Rattle.std.proofs.Common.{ℕ, zero, suc, ◌≡◌, ◌<◌, ◌≤◌, ◌+◌, ◌^◌, Bool, true, false, cond, List, [], ◌∷◌, length, take, refl, sym, ap, subst₂, ◌∙◌, arith}
use Rattle.wear_session.proofs.Common.{All, slice_set, ◌==◌, if◌then◌else◌, cond-false, ne_eqb, All-nil, All-cons, Line, IsLine, Formulas, Setup, Memory, Moment, moment_after_writes, Edit, IsEditOf, all_edited, all_posted, length-all_posted, edits_memory, Wear, place_of, next_wear, IsLevelled, move_edits, MoveStage, begun, written, copied, moved, write_lines_at, write_memory_at, wear_at, logical_lines, safe_at_each_stage, move_fits, places, WearState, wear_lines_in, is_due, with_writes, wear_in, levelled_memory}
use Rattle.engine_lines.specs.declared.edits.Edit.TheVariants as Make
use Rattle.wear_session.proofs.Levels.{wear_is, memory_held, levelled_is}
use Rattle.wear_session.proofs.WriteEnds.{writes_of}

-- ---- memory, write by write

-- the stage after the first k
abbrev pub stage_of : ℕ → MoveStage
stage_of zero = begun
stage_of (suc zero) = written
stage_of (suc (suc zero)) = copied
stage_of (suc (suc (suc k))) = moved

-- the changes whose engine writes these are
abbrev edits_of : ℕ → Wear → Bool → ℕ → Line → List Edit
edits_of n wear due a plain = Make.Put (place_of n wear a) plain ∷ (if due then move_edits n wear else [])

posted_write : (memory : Memory) (n : ℕ) (wear : Wear) (due : Bool) (a : ℕ) (plain : Line)
    → all_posted memory (edits_of n wear due a plain) ≡ writes_of memory n wear due a plain
posted_write memory n wear true a plain = refl
posted_write memory n wear false a plain = refl

module _ (lines memory : Memory) (n : ℕ) (wear : Wear) (a : ℕ) (plain : Line) (each : All IsLine lines) (few : n ≤ 2 ^ 30)
    (inside : a < n) (whole : IsLine plain) (had : IsLevelled n lines wear memory) where
  fits : (due : Bool) → All (IsEditOf (n + 2)) (edits_of n wear due a plain)
  fits due =
      let low = (places n wear had.its_wear).within a inside in
      All-cons (IsEditOf (n + 2)) (Make.Put (place_of n wear a) plain) (if due then move_edits n wear else []) (omega (arith, low), whole) (later due)
    where
      later : (due : Bool) → All (IsEditOf (n + 2)) (if due then move_edits n wear else [])
      later true = move_fits n wear had.its_wear
      later false = All-nil (IsEditOf (n + 2))

  at_stage : (due : Bool) (k : ℕ) → k ≤ length (edits_of n wear due a plain)
      → all_edited (take k (edits_of n wear due a plain)) lines ≡ write_lines_at (stage_of k) n wear a plain lines
  at_stage due zero some = refl
  at_stage due (suc zero) some = refl
  at_stage true (suc (suc zero)) some = refl
  at_stage true (suc (suc (suc zero))) some = refl
  at_stage false (suc (suc k)) some = absurd (omega (arith, some))
  at_stage true (suc (suc (suc (suc k)))) some = absurd (omega (arith, some))

  pub lines_done : (f : Formulas) (now : Moment) (due : Bool) (k : ℕ) → now.memory ≡ lines → k ≤ length (writes_of lines n wear due a plain)
      → (moment_after_writes f now (take k (writes_of lines n wear due a plain))).memory ≡ write_lines_at (stage_of k) n wear a plain lines
  lines_done f now due k same some =
      ap (λ q. (moment_after_writes f now (take k q)).memory) (sym (posted_write lines n wear due a plain))
      ∙ edits_memory (n + 2) (omega (arith, few)) f (edits_of n wear due a plain) k lines now each (fits due) same
      ∙ at_stage due k
      (let long = length-all_posted lines (edits_of n wear due a plain) in
      let all = ap length (posted_write lines n wear due a plain) in
      omega (arith, some, long, all))

  pub levelled_done : (k : ℕ) → IsLevelled n (write_lines_at (stage_of k) n wear a plain lines) (wear_at (stage_of k) n wear) (write_memory_at (stage_of k) a plain memory)
  levelled_done k = safe_at_each_stage n (omega (arith, few)) lines memory wear a plain (stage_of k) inside had

-- ---- the same as a session's state says it

-- if some are done
pub some_of : {X : Type 0} (k : ℕ) (x y : X) → 0 < k → cond (k == 0) x y ≡ y
some_of k x y some = cond-false (k == 0) x y (ne_eqb k 0 (λ none. omega (arith, none, some)))

pub memory_by : (k : ℕ) (a : ℕ) (plain : Line) (memory : Memory) → write_memory_at (stage_of k) a plain memory ≡ cond (k == 0) memory (slice_set memory a plain)
memory_by zero a plain memory = refl
memory_by (suc zero) a plain memory = refl
memory_by (suc (suc zero)) a plain memory = refl
memory_by (suc (suc (suc k))) a plain memory = sym (some_of (suc (suc (suc k))) memory (slice_set memory a plain) (omega arith))

pub wear_by : (k n : ℕ) (wear : Wear) → k ≤ 3 → wear_at (stage_of k) n wear ≡ cond (k == 0) wear (cond (k == 3) (next_wear n wear) wear)
wear_by zero n wear few = refl
wear_by (suc zero) n wear few = refl
wear_by (suc (suc zero)) n wear few = refl
wear_by (suc (suc (suc zero))) n wear few = refl
wear_by (suc (suc (suc (suc k)))) n wear few = absurd (omega (arith, few))

module _ (setup : Setup) (lines memory now : Memory) (n : ℕ) (wear : Wear) (a : ℕ) (plain : Line) (k : ℕ) (n_is : n ≡ logical_lines setup.shape)
    (is : now ≡ write_lines_at (stage_of k) n wear a plain lines)
    (held : IsLevelled n (write_lines_at (stage_of k) n wear a plain lines) (wear_at (stage_of k) n wear) (write_memory_at (stage_of k) a plain memory)) where
  its : IsLevelled (logical_lines setup.shape) now (wear_at (stage_of k) n wear) (write_memory_at (stage_of k) a plain memory)
  its =
      subst₂ (λ m l. IsLevelled m l (wear_at (stage_of k) n wear) (write_memory_at (stage_of k) a plain memory)) n_is (sym is) held

  pub wear_after : wear_in setup now ≡ wear_at (stage_of k) n wear
  wear_after = wear_is setup now (write_memory_at (stage_of k) a plain memory) (wear_at (stage_of k) n wear) its

  pub memory_after : levelled_memory setup now ≡ write_memory_at (stage_of k) a plain memory
  memory_after = memory_held setup now (write_memory_at (stage_of k) a plain memory) (wear_at (stage_of k) n wear) its

  pub levelled_after : IsLevelled (logical_lines setup.shape) now (wear_in setup now) (levelled_memory setup now)
  levelled_after = levelled_is setup now (write_memory_at (stage_of k) a plain memory) (wear_at (stage_of k) n wear) its

-- the state that the first k leave, field by field
by_done : (b due last : Bool) (state : WearState) (memory : Memory) (wear : Wear)
    → (if b then state else record state { memory = memory; wear = if last then wear else state.wear; count = if due then 0 else state.count + 1 })
    ≡ record state {
      memory = cond b state.memory memory;
      wear = cond b state.wear (cond last wear state.wear);
      count = cond b state.count (cond due 0 (state.count + 1));
    }
by_done true due last state memory wear = refl
by_done false due last state memory wear = refl

pub with_writes_is : (state : WearState) (a : ℕ) (plain : Line) (k : ℕ)
    → with_writes state a plain k
    ≡ record state {
      memory = cond (k == 0) state.memory (slice_set state.memory a plain);
      wear = cond (k == 0) state.wear (cond (k == 3) (next_wear (wear_lines_in state) state.wear) state.wear);
      count = cond (k == 0) state.count (cond (is_due state) 0 (state.count + 1));
    }
with_writes_is state a plain k =
    by_done (k == 0) (is_due state) (k == 3) state (slice_set state.memory a plain) (next_wear (wear_lines_in state) state.wear)
