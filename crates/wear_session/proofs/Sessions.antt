-- What the answers of a session promise: of one answer, and of each chain of them.
use Rattle.std.proofs.Common.{ℕ, ◌≡◌, ◌<◌, ◌≤◌, ◌+◌, ◌%◌, ◌≢◌, ◌⊎◌, inl, inr, Bool, true, false, cond, List, [], ◌∷◌, length, Some, None, refl, sym, ap, subst, ◌∙◌, arith, rules}
use Rattle.wear_session.proofs.Common.{All, nat_lt, slice_set, ◌==◌, if◌then◌else◌, mod-eq_of_lt, true≢false, cases_eq, ne_eqb, All-nil, All-cons, Line, Posted, Setup, Memory, Wear, next_wear, logical_lines, WearCommand, WearAnswer, WearState, wear_lines_in, place_in, is_due, moment_in, engine_writes, Writing, IsWearButForSteps, wear_without_power, IsWriting, HasWearWritten, HasWearRead, HasWearOpened, EndsWriting, IsWearAnswered, IsWearAnsweredAs, after_writing}
use Rattle.wear_session.specs.declared.commands.WearCommand.TheVariants as Do
use Rattle.wear_session.specs.declared.answers.WearAnswer.TheVariants as Say
use Rattle.wear_session.proofs.AnswerClauses.{kept_always}
use Rattle.wear_session.proofs.Turns.{IsCounted, counted_by}
use Rattle.wear_session.proofs.WriteLaws.{some_of, with_writes_is}
use Rattle.wear_session.specs.Guarantees.{WearReply, AreWearAnswered, memory_with_reply, IsWearReadOf, AreReadAsWritten, Turning, is_turn, wear_turned, TurnsTo, AreTurned, no_turning, IsWearMendedAnswer, IsWearSpentAnswer, AreWearSpentAsUsedUp, IsWearKept, IsWearSpent}

-- ---- one answer

abbrev turning_of : WearState → ℕ → Turning
turning_of state w = record { wear = state.wear; written = w }

-- the writes that the answers count, up to whole turns, are those that the session counts
abbrev Counts : ℕ → WearState → ℕ → Type 0
Counts every state w = state.session.board.powered ≡ true → state.count ≡ w % every

record IsWearStep (first next : WearState) (w : ℕ) (command : WearCommand) (answer : WearAnswer) : Type 0 where
  read : IsWearReadOf first.memory command answer
  memory : next.memory ≡ memory_with_reply first.memory command answer
  after : ℕ
  turns : TurnsTo (wear_lines_in first) first.every (turning_of first w) command answer (turning_of next after)
  count : Counts first.every next after
  mended : IsWearMendedAnswer command answer

-- nothing changes that the answers report
record IsStill (first next : WearState) : Type 0 where
  memory : next.memory ≡ first.memory
  wear : next.wear ≡ first.wear
  count : next.session.board.powered ≡ true → (first.session.board.powered ≡ true) × (next.count ≡ first.count)

still_same : (first next : WearState) → next ≡ first → IsStill first next
still_same first next is = search rules

still_cut : (first next : WearState) → IsWearButForSteps (wear_without_power first) next → IsStill first next
still_cut first next it = record { memory = it.memory; wear = it.wear; count = λ lit. absurd (true≢false (sym lit ∙ it.power)) }

still_counts : (first next : WearState) (w : ℕ) → Counts first.every first w → IsStill first next → Counts first.every next w
still_counts first next w counts same lit = let had = same.count lit in had.1 ∙ counts had.0

-- an answer by which nothing of that changes
still_step : (first next : WearState) (w : ℕ) (command : WearCommand) (answer : WearAnswer) → IsWearReadOf first.memory command answer
    → memory_with_reply first.memory command answer ≡ first.memory
    → ((new : Turning) → (new.wear ≡ first.wear) × (new.written ≡ w) → TurnsTo (wear_lines_in first) first.every (turning_of first w) command answer new)
    → IsWearMendedAnswer command answer → Counts first.every first w → IsStill first next → IsWearStep first next w command answer
still_step first next w command answer read memory turns mended counts same = search (rules, still_counts)

-- an answer by which power goes off, and nothing else of that changes
dark_step : (first next : WearState) (w : ℕ) (command : WearCommand) (answer : WearAnswer) → IsWearReadOf first.memory command answer
    → memory_with_reply first.memory command answer ≡ first.memory
    → ((new : Turning) → (new.wear ≡ first.wear) × (new.written ≡ 0) → TurnsTo (wear_lines_in first) first.every (turning_of first w) command answer new)
    → IsWearMendedAnswer command answer → next.session.board.powered ≡ false → IsStill first next → IsWearStep first next w command answer
dark_step first next w command answer read memory turns mended dark same = search (rules, true≢false)

-- ---- a write

-- this number of engine writes were done
record IsLeft (first next : WearState) (a : ℕ) (plain : Line) (k : ℕ) : Type 0 where
  memory : next.memory ≡ cond (k == 0) first.memory (slice_set first.memory a plain)
  wear : next.wear ≡ cond (k == 0) first.wear (cond (k == 3) (next_wear (wear_lines_in first) first.wear) first.wear)
  count :
      next.session.board.powered ≡ true
      → (first.session.board.powered ≡ true) × (next.count ≡ cond (k == 0) first.count (cond (is_due first) 0 (first.count + 1)))

left_going : (first next : WearState) (a : ℕ) (plain : Line) (writing : Writing) → IsWearButForSteps (after_writing first a plain writing) next
    → IsLeft first next a plain writing.done
left_going first next a plain writing it = search (rules, with_writes_is)

left_cut : (first next : WearState) (a : ℕ) (plain : Line) (writing : Writing)
    → IsWearButForSteps (wear_without_power (after_writing first a plain writing)) next → IsLeft first next a plain writing.done
left_cut first next a plain writing it = search (rules, with_writes_is, true≢false)

still_left : (first next : WearState) (a : ℕ) (plain : Line) (k : ℕ) → k ≡ 0 → IsLeft first next a plain k → IsStill first next
still_left first next a plain k none left = search rules

module _ (setup : Setup) (first next : WearState) (w a : ℕ) (plain : Line) (some : 1 ≤ first.every) (lit : first.session.board.powered ≡ true) (counts : Counts first.every first w) where
  abbrev writes : List Posted
  writes = engine_writes setup first a plain

  its : IsCounted first.every first.count w
  its = counted_by first.every first.count w some (counts lit)

  its_turn : is_turn first.every (turning_of first w) ≡ is_due first
  its_turn = sym its.turn

  -- three engine writes if a move is due, otherwise one
  writes_long : (due : Bool) → is_due first ≡ due → length writes ≡ (if due then 3 else 1)
  writes_long due is = search rules

  -- the line is written
  written_step : (k : ℕ) (answer : WearAnswer) → 0 < k → IsLeft first next a plain k
      → memory_with_reply first.memory (Do.Write a plain) answer ≡ slice_set first.memory a plain
      → IsWearReadOf first.memory (Do.Write a plain) answer → IsWearMendedAnswer (Do.Write a plain) answer
      → TurnsTo (wear_lines_in first) first.every (turning_of first w) (Do.Write a plain) answer (turning_of next (w + 1))
      → IsWearStep first next w (Do.Write a plain) answer
  written_step k answer done left memory read mended turns =
      record {
        read = read;
        memory = left.memory ∙ some_of k first.memory (slice_set first.memory a plain) done ∙ sym memory;
        after = w + 1;
        turns = turns;
        count =
            λ lit.
            (left.count lit).1 ∙ some_of k first.count (cond (is_due first) 0 (first.count + 1)) done ∙ its.next;
        mended = mended;
      }

  -- the wear after these
  wear_left : (k : ℕ) → 0 < k → IsLeft first next a plain k
      → next.wear ≡ cond (k == 3) (next_wear (wear_lines_in first) first.wear) first.wear
  wear_left k done left = left.wear ∙ some_of k first.wear (cond (k == 3) (next_wear (wear_lines_in first) first.wear) first.wear) done

  wear_kept : (k : ℕ) → 0 < k → k ≢ 3 → IsLeft first next a plain k → next.wear ≡ first.wear
  wear_kept k done other left =
      wear_left k done left ∙ ap (λ b. cond b (next_wear (wear_lines_in first) first.wear) first.wear) (ne_eqb k 3 other)

  wear_moved : (k : ℕ) → k ≡ 3 → is_due first ≡ true → IsLeft first next a plain k
      → next.wear ≡ wear_turned (wear_lines_in first) first.every (turning_of first w)
  wear_moved k all due left = search its_turn

  wear_unturned : (k : ℕ) → 0 < k → k ≢ 3 → is_due first ≡ false → IsLeft first next a plain k
      → next.wear ≡ wear_turned (wear_lines_in first) first.every (turning_of first w)
  wear_unturned k done other early left = search (rules, wear_kept, its_turn)

  all_step : (writing : Writing) (steps : ℕ) (due : Bool) → is_due first ≡ due → writing.done ≡ length writes
      → IsLeft first next a plain writing.done → IsWearStep first next w (Do.Write a plain) (Say.Written steps)
  all_step writing steps true is all left = search (rules, writes_long, written_step, wear_moved)
  all_step writing steps false is all left =
      let one : writing.done ≡ 1 = all ∙ writes_long false is in
      written_step writing.done (Say.Written steps) (omega (arith, one)) left refl tt tt
      (wear_unturned writing.done (omega (arith, one)) (omega (arith, one)) is left, refl)

  held_step : (writing : Writing) (page steps : ℕ) (due : Bool) → is_due first ≡ due → 0 < writing.done → writing.done < length writes
      → IsLeft first next a plain writing.done → IsWearStep first next w (Do.Write a plain) (Say.Held page steps)
  held_step writing page steps true is done waits left = search (rules, writes_long, written_step, its_turn, wear_kept)
  held_step writing page steps false is done waits left = search (rules, writes_long)

  kept_step : (writing : Writing) (steps : ℕ) (due : Bool) → is_due first ≡ due → 0 < writing.done → writing.done ≤ length writes
      → next.session.board.powered ≡ false → IsLeft first next a plain writing.done → IsWearStep first next w (Do.Write a plain) (Say.CutKept steps)
  kept_step writing steps due is done few dark left =
      let wears : (next.wear ≡ first.wear) ⊎ (next.wear ≡ wear_turned (wear_lines_in first) first.every (turning_of first w)) =
      elim (cases_eq writing.done 3) [
        | inl all ↦ inr (by_due due is all)
        | inr other ↦ inl (wear_kept writing.done done other left)
      ] in
      record {
        read = tt;
        memory = left.memory ∙ some_of writing.done first.memory (slice_set first.memory a plain) done;
        after = 0;
        turns = (wears, refl);
        count = λ lit. absurd (true≢false (sym lit ∙ dark));
        mended = tt;
      }
    where
      by_due : (due : Bool) → is_due first ≡ due → writing.done ≡ 3 → next.wear ≡ wear_turned (wear_lines_in first) first.every (turning_of first w)
      by_due true is all = wear_moved writing.done all is left
      by_due false is all = let long = writes_long false is in absurd (omega (arith, long, few, all))

  write_step : (answer : WearAnswer) → HasWearWritten setup first a plain answer next → IsWearStep first next w (Do.Write a plain) answer
  write_step answer it = go answer it.came it.ends
    where
      writing : Writing
      writing = it.writing

      go : (answer : WearAnswer) → IsWriting setup.formulas (moment_in setup first.session) writes writing answer
          → EndsWriting (after_writing first a plain writing) answer first next → IsWearStep first next w (Do.Write a plain) answer
      go (Say.Written steps) came ends = all_step writing steps (is_due first) refl came.0 (left_going first next a plain writing ends.0)
      go (Say.Held page steps) came ends =
          held_step writing page steps (is_due first) refl came.0 came.1.one_waits (left_going first next a plain writing ends.0)
      go (Say.Spent page steps) came ends =
          still_step first next w (Do.Write a plain) (Say.Spent page steps) tt refl (λ new h. h) tt counts
          (still_left first next a plain writing.done came.0 (left_going first next a plain writing ends.0))
      go (Say.CutKept steps) came ends =
          kept_step writing steps (is_due first) refl came.0
          (elim came.1 [ inl all ↦ all.0 | inr stopped ↦ (let waits = stopped.one_waits in omega (arith, waits)) ])
          ends.0.power (left_cut first next a plain writing ends.0)
      go (Say.CutLost steps) came ends =
          dark_step first next w (Do.Write a plain) (Say.CutLost steps) tt refl (λ new h. h) tt ends.0.power
          (still_left first next a plain writing.done came.0 (left_cut first next a plain writing ends.0))
      go answer came ends = absurd came

-- ---- the other commands

module _ (setup : Setup) (first next : WearState) (w : ℕ) (some : 1 ≤ first.every) (counts : Counts first.every first w) where
  still_going : IsWearButForSteps first next → IsStill first next
  still_going it = record { memory = it.memory; wear = it.wear; count = λ lit. (sym it.power ∙ lit, it.count) }

  read_step : (a : ℕ) (answer : WearAnswer) → HasWearRead first a answer next → IsWearStep first next w (Do.Read a) answer
  read_step a (Say.Got line steps) it =
      still_step first next w (Do.Read a) (Say.Got line steps) it.0 refl (λ new h. h) tt counts (still_going it.1.0)
  read_step a (Say.Cut steps) it =
      dark_step first next w (Do.Read a) (Say.Cut steps) tt refl (λ new h. h) tt it.0.power (still_cut first next it.0)
  read_step a answer it = absurd it

  open_step : (answer : WearAnswer) → HasWearOpened first answer next → IsWearStep first next w Do.On answer
  open_step (Say.Opened start gap steps) it = search (rules, mod-eq_of_lt)
  open_step (Say.Cut steps) it =
      dark_step first next w Do.On (Say.Cut steps) tt refl (λ new h. h) tt it.0.power (still_cut first next it.0)
  open_step answer it = absurd it

  -- a line's command, if power is on and there is such a line, and otherwise
  write_by : (p b : Bool) (a : ℕ) (plain : Line) (answer : WearAnswer) → first.session.board.powered ≡ p
      → IsWearAnsweredAs (if p then (if b then None else Some Say.Range) else Some Say.Off) setup first (Do.Write a plain) answer next
      → IsWearStep first next w (Do.Write a plain) answer
  write_by true true a plain answer lit it = write_step setup first next w a plain some lit counts answer it.0
  write_by true false a plain answer lit it = search (rules, still_step, still_same)
  write_by false b a plain answer lit it = search (rules, still_step, still_same)

  read_by : (p b : Bool) (a : ℕ) (answer : WearAnswer)
      → IsWearAnsweredAs (if p then (if b then None else Some Say.Range) else Some Say.Off) setup first (Do.Read a) answer next
      → IsWearStep first next w (Do.Read a) answer
  read_by true true a answer it = read_step a answer it.0
  read_by true false a answer it = search (rules, still_step, still_same)
  read_by false b a answer it = search (rules, still_step, still_same)

  place_by : (p b : Bool) (a : ℕ) (answer : WearAnswer)
      → IsWearAnsweredAs (if p then (if b then Some (Say.At (place_in first a)) else Some Say.Range) else Some Say.Off) setup first (Do.Place a) answer next
      → IsWearStep first next w (Do.Place a) answer
  place_by true true a answer it = search (rules, still_same, still_counts)
  place_by true false a answer it = search (rules, still_step, still_same)
  place_by false b a answer it = search (rules, still_step, still_same)

  on_by : (p : Bool) (answer : WearAnswer) → IsWearAnsweredAs (if p then Some Say.Already else None) setup first Do.On answer next
      → IsWearStep first next w Do.On answer
  on_by true answer it = search (rules, still_step, still_same)
  on_by false answer it = open_step answer it.0

  step : (command : WearCommand) (answer : WearAnswer) → IsWearAnswered setup first command answer next → IsWearStep first next w command answer
  step (Do.Write a plain) answer it = write_by first.session.board.powered (nat_lt a (wear_lines_in first)) a plain answer refl it
  step (Do.Read a) answer it = read_by first.session.board.powered (nat_lt a (wear_lines_in first)) a answer it
  step (Do.Place a) answer it = place_by first.session.board.powered (nat_lt a (wear_lines_in first)) a answer it
  step (Do.Cut n) answer it = search (rules, still_step)
  step Do.Off answer it = search rules
  step Do.On answer it = on_by first.session.board.powered answer it

-- ---- chains

-- what the replies from a state on say
record SayAll (n every : ℕ) (memory : Memory) (turning : Turning) (replies : List WearReply) : Type 0 where
  reads : AreReadAsWritten memory replies
  last : Turning
  turned : AreTurned n every turning replies last
  mended : All (λ (reply : WearReply). IsWearMendedAnswer reply.command reply.answer) replies

say_all : (setup : Setup) (first last : WearState) (replies : List WearReply) (w : ℕ) → 1 ≤ first.every → Counts first.every first w
    → AreWearAnswered setup first replies last → SayAll (wear_lines_in first) first.every first.memory (turning_of first w) replies
say_all setup first last [] w some counts chain =
    record { reads = tt; last = turning_of first w; turned = refl; mended = All-nil (λ (reply : WearReply). IsWearMendedAnswer reply.command reply.answer) }
say_all setup first last (reply ∷ replies) w some counts chain =
    let next = chain.0 in
    let it = step setup first next w some counts reply.command reply.answer chain.1 in
    let kept = kept_always setup first next reply.command reply.answer chain.1 in
    let later =
    say_all setup next last replies it.after (subst (λ e. 1 ≤ e) (sym kept.every) some) (subst (λ e. Counts e next it.after) (sym kept.every) it.count) chain.2 in
    let turned : AreTurned (wear_lines_in first) first.every (turning_of next it.after) replies later.last = search rules in
    record {
      reads = (it.read, subst (λ m. AreReadAsWritten m replies) it.memory later.reads);
      last = later.last;
      turned = (turning_of next it.after, it.turns, turned);
      mended = All-cons (λ (reply : WearReply). IsWearMendedAnswer reply.command reply.answer) reply replies it.mended later.mended;
    }

pub wear_kept_always : (setup : Setup) → IsWearKept setup
wear_kept_always setup every replies last session =
    let first = session.first in
    let new = session.is_new in
    let n_is : wear_lines_in first ≡ logical_lines setup.shape = ap logical_lines new.session.shape in
    let some : 1 ≤ first.every = subst (λ e. 1 ≤ e) (sym new.its_every) new.some_every in
    let all = say_all setup first last replies 0 some (λ lit. new.count ∙ sym (mod-eq_of_lt some)) session.answered in
    let begins : turning_of first 0 ≡ no_turning (logical_lines setup.shape) = ap (λ (wear : Wear). record { wear = wear; written = 0 }) new.wear in
    record {
      reads = subst (λ m. AreReadAsWritten m replies) new.memory all.reads;
      turning = all.last;
      turned = search rules;
      mended = all.mended;
    }

-- ---- what is used up

spent_answer : (setup : Setup) (first next : WearState) (command : WearCommand) (answer : WearAnswer) → IsWearAnswered setup first command answer next
    → IsWearSpentAnswer setup first command answer next
spent_answer setup first next (Do.Write a plain) answer it = search (rules, nat_lt)
spent_answer setup first next command answer it = tt

all_spent : (setup : Setup) (first last : WearState) (replies : List WearReply) → AreWearAnswered setup first replies last
    → AreWearSpentAsUsedUp setup first replies
all_spent setup first last [] chain = tt
all_spent setup first last (reply ∷ replies) chain = (
  chain.0,
  chain.1,
  spent_answer setup first chain.0 reply.command reply.answer chain.1,
  all_spent setup chain.0 last replies chain.2,
)

pub wear_spent_always : (setup : Setup) → IsWearSpent setup
wear_spent_always setup every first last replies new chain = all_spent setup first last replies chain
