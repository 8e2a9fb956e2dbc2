-- That a run of a trace leaves nothing open: what the clauses of `run` allow to be put and answered for the same words and the same trace,
-- if no pull and no push failed and memory was there, is one text with one status.
use Rattle.std.specs.Prelude.{◌≡◌, ◌≢◌, ◌↔◌, ◌++◌, ℕ, List, Option, Some, None, IfSome, IsNone, ◌⊎◌, []}
use Rattle.collision_witness.specs.Words.{Word}
use Rattle.pmem_cli.specs.Causes.{Rose}
use Rattle.pmem_cli.specs.HasRun.{TaskOutcome, TaskMachine, AreRefusedWords}
use Rattle.pmem_cli.specs.Wholes.{Known, HasGiven, MayBe, ForEachWhole, left_in}
use Rattle.pmem_cli.specs.Words.{task_of}
use Rattle.plain_model.specs.declared.Stop.{Stop}
use Rattle.plain_model.specs.declared.Stop.TheVariants.{Memory, ReadFault}
use Rattle.plain_model.specs.Run.{stop_text, status_of}

-- What is seen of a call of `run`: its status, how many pulls and pushes had failed before and after it, the bytes that the source had
-- left, and those that the sink had put, if they are exposed.
pub record Call : Type 0 where
  pub status : ℕ
  pub pulls_before : ℕ
  pub pulls_after : ℕ
  pub pushes_before : ℕ
  pub pushes_after : ℕ
  pub trace : Option (List ℕ)
  pub left : Option (List ℕ)
  pub put_before : Option (List ℕ)
  pub put_after : Option (List ℕ)

-- a call over this source and this sink, as they were before it and after it
abbrev pub call_over : {S K : Type 0} → ℕ → (S → Option (List ℕ)) → (S → ℕ) → S → S → (K → Option (List ℕ)) → (K → ℕ) → K → K → Call
call_over status left pulls_failed trace_old trace_new put pushes_failed out_old out_new =
    record {
      status = status;
      pulls_before = pulls_failed trace_old;
      pulls_after = pulls_failed trace_new;
      pushes_before = pushes_failed out_old;
      pushes_after = pushes_failed out_new;
      trace = left trace_old;
      left = left trace_new;
      put_before = put out_old;
      put_after = put out_new;
    }

-- What a call with these words is to its user: faulty words alone give status 2, and then their line was put; else what was put is what the
-- words ask for, as the status says. The statuses for faults come only if one came.
pub record IsCallWith (words : List Word) (call : Call) : Type 0 where
  pub faulty : (call.status ≡ 2) ↔ IsNone (task_of words)
  pub refused : call.status ≡ 2 → AreRefusedWords call.put_before call.put_after call.pushes_before call.pushes_after
  pub told :
      IfSome (task_of words) (λ task.
      TaskOutcome task call.status (Rose call.pulls_before call.pulls_after) call.trace call.left call.put_before
      call.put_after)
  pub read : call.status ≡ 3 → Rose call.pulls_before call.pulls_after
  pub write : call.status ≡ 4 → Rose call.pushes_before call.pushes_after

-- which machine it was by: what was put is what the world or the session puts that the words choose
abbrev pub IsByMachine : List Word → Call → Type 0
IsByMachine words call =
    IfSome (task_of words) (λ task.
    TaskMachine task call.status (Rose call.pulls_before call.pulls_after) call.trace call.left call.put_before call.put_after)

-- the source told this trace and the sink what it had put, no pull and no push failed, and memory was there
pub record IsUndisturbed (trace put : List ℕ) (call : Call) : Type 0 where
  pub trace_told : call.trace ≡ Some trace
  pub put_told : call.put_before ≡ Some put
  pub pulled : ¬ Rose call.pulls_before call.pulls_after
  pub pushed : ¬ Rose call.pushes_before call.pushes_after
  pub had_memory : call.status ≢ 1

-- one status, and one text behind what had been put
pub record AreAnsweredAlike (put : List ℕ) (a b : Call) : Type 0 where
  pub status : a.status ≡ b.status
  pub text : List ℕ
  pub first : a.put_after ≡ Some (put ++ text)
  pub second : b.put_after ≡ Some (put ++ text)

abbrev pub RunIsDetermined : Type 0
RunIsDetermined =
    (words : List Word) (trace put : List ℕ) (a b : Call) → IsCallWith words a → IsCallWith words b → IsByMachine words a → IsByMachine words b
    → IsUndisturbed trace put a → IsUndisturbed trace put b → AreAnsweredAlike put a b

-- ---- a call that was disturbed

-- The line of a stop that broke a call off: the whole of it, with the stop's status, or a prefix of it, with status 4.
abbrev pub HasBreakLine : Call → List ℕ → Type 0
HasBreakLine call line =
    (stop : Stop) × ((stop ≡ Memory) ⊎ (stop ≡ ReadFault))
    × (((call.status ≡ status_of stop) × (line ≡ stop_text stop))
    ⊎ ((call.status ≡ 4) × (rest : List ℕ) × (stop_text stop ≡ line ++ rest)))

-- What the first call put is a prefix of what the second put, and then maybe a line: it is all of that, with the same status; or a push
-- failed; or the line of the stop follows that broke it off.
pub record IsFrontOf (put : List ℕ) (a b : Call) : Type 0 where
  pub done : List ℕ
  pub rest : List ℕ
  pub last : List ℕ
  pub whole : b.put_after ≡ Some (put ++ (done ++ rest))
  pub front : a.put_after ≡ Some (put ++ (done ++ last))
  pub its_end :
      ((a.status ≡ b.status) × (rest ≡ []) × (last ≡ []))
      ⊎ ((Rose a.pushes_before a.pushes_after × (last ≡ [])) ⊎ HasBreakLine a last)

abbrev pub DisturbedRunIsFront : Type 0
DisturbedRunIsFront =
    (words : List Word) (trace put : List ℕ) (a b : Call) → IsCallWith words a → IsCallWith words b → IsByMachine words a → IsByMachine words b
    → a.trace ≡ Some trace → a.put_before ≡ Some put → IsUndisturbed trace put b → IsFrontOf put a b

-- ---- a source that exposes what it has left

-- this call, if these bytes were left before it and after it
abbrev pub over_bytes : Call → Option (List ℕ) → Option (List ℕ) → Call
over_bytes call trace left =
    record {
      status = call.status;
      pulls_before = call.pulls_before;
      pulls_after = call.pulls_after;
      pushes_before = call.pushes_before;
      pushes_after = call.pushes_after;
      trace = trace;
      left = left;
      put_before = call.put_before;
      put_after = call.put_after;
    }

-- There always is a list that may be all bytes of a source.
abbrev pub HasWhole : Type 0
HasWhole = (known : Known) → (whole : List ℕ) × MayBe known whole

-- What a source exposes before a call and after it is what is left of one list that may be all its bytes.
abbrev pub ExposesWhole : Type 0
ExposesWhole =
    (before now : Known) (told : List ℕ) → HasGiven before now → before.left ≡ Some told
    → (whole : List ℕ) × MayBe now whole × (left_in (λ known. known) whole before ≡ before.left) × (left_in (λ known. known) whole now ≡ now.left)

-- If the source exposes what it has left, what holds of a call whatever all bytes of the source may be, holds of what it exposed before the
-- call and exposes after it.
abbrev pub ToldIsLeft : Type 0
ToldIsLeft =
    (words : List Word) (call : Call) (before now : Known) (told : List ℕ) → HasGiven before now → before.left ≡ Some told
    → ForEachWhole now (λ whole.
    IsCallWith words (over_bytes call (left_in (λ known. known) whole before) (left_in (λ known. known) whole now))
    × IsByMachine words (over_bytes call (left_in (λ known. known) whole before) (left_in (λ known. known) whole now)))
    → IsCallWith words (over_bytes call before.left now.left) × IsByMachine words (over_bytes call before.left now.left)
