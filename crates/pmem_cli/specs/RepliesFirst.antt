-- Replies that are put before the source is pulled for more of the trace.
use Rattle.std.specs.Prelude.{◌≡◌, ◌≢◌, ◌++◌, ⊤, ℕ, List, length, All, Option, None, IfSome}
use Rattle.std.specs.List.{flat_map}
use Rattle.suite.specs.Setup.{Setup}
use Rattle.plain_model.specs.Lines.{IsWithin, ended}
use Rattle.plain_model.specs.Run.{Machine, Step, start, steps_text, IsRunFrom}
use Rattle.pmem_cli.specs.declared.options.Task.{Task}
use Rattle.pmem_cli.specs.Checked.{HasLookedFirst}
use Rattle.pmem_cli.specs.Keys.{setup_chosen}
use Rattle.pmem_cli.specs.Logged.{HasRepliedLoggedFromStart}
use Rattle.pmem_cli.specs.Printed.{Output, PutsAtLeast, with_waiting}
use Rattle.pmem_cli.specs.Pulling.{IsUndecided}
use Rattle.pmem_cli.specs.Sessions.{HasSpokenFirst, HasSaidFirst}
use Rattle.pmem_cli.specs.Tree.{tree_language, tree_chosen}
use Rattle.pmem_cli.specs.Txn.{txn_language, txn_chosen}
use Rattle.pmem_cli.specs.Wear.{wear_language, wear_chosen}
use Rattle.pmem_cli.specs.Wholes.{Known, ForEachWhole, left_in, left_before_in}

-- The whole lines of these bytes were answered, and all their replies were put; what was given of the next line decides
-- no stop.
pub record AreReplied (setup : Setup) (machine : Machine) (given : List ℕ) (from : Output) (put : Option (List ℕ)) : Type 0 where
  pub lines : List (List ℕ)
  pub part : List ℕ
  pub cut : given ≡ flat_map ended lines ++ part
  pub whole : All IsWithin lines
  pub undecided : IsUndecided (length lines) part
  pub steps : List Step
  pub run : IsRunFrom setup machine lines steps
  pub replied : PutsAtLeast from put (steps_text steps)

-- So it is of the bytes that the source had given before its last pull.
abbrev pub HasRepliedFirst : Setup → Machine → Option (List ℕ) → Option (List ℕ) → Output → Option (List ℕ) → Type 0
HasRepliedFirst setup machine trace left_before from put =
    IfSome trace (λ bytes. IfSome left_before (λ behind. (given : List ℕ) × (bytes ≡ given ++ behind) × AreReplied setup machine given from put))

-- and from the trace's start on
abbrev pub HasRepliedFromStart : Setup → Option (List ℕ) → Option (List ℕ) → Output → Option (List ℕ) → Type 0
HasRepliedFromStart setup trace left_before from put = HasRepliedFirst setup (start setup) trace left_before from put

-- A run that was given any byte is so, whatever its status; a check was given nothing before that decides its end.
abbrev pub TaskRepliesFirst : Task → Option (List ℕ) → Option (List ℕ) → Option (List ℕ) → Output → Option (List ℕ) → Type 0
TaskRepliesFirst (Task.Run c) trace left left_before from put = left ≢ trace → HasRepliedFromStart (setup_chosen c) trace left_before from put
TaskRepliesFirst (Task.Log c) trace left left_before from put = left ≢ trace → HasRepliedLoggedFromStart (setup_chosen c) trace left_before from put
TaskRepliesFirst (Task.Check c) trace left left_before from put = left ≢ trace → HasLookedFirst None 0 trace left_before
TaskRepliesFirst (Task.Wear c) trace left left_before from put = left ≢ trace → HasSpokenFirst (wear_language c) c.log trace left_before from put
TaskRepliesFirst (Task.Tree c) trace left left_before from put = left ≢ trace → HasSpokenFirst (tree_language c) c.log trace left_before from put
TaskRepliesFirst (Task.Txn c) trace left left_before from put = left ≢ trace → HasSpokenFirst (txn_language c) c.log trace left_before from put
TaskRepliesFirst task trace left left_before from put = ⊤

-- the same, of a session by its states
abbrev pub MachineRepliesFirst : Task → Option (List ℕ) → Option (List ℕ) → Option (List ℕ) → Output → Option (List ℕ) → Type 0
MachineRepliesFirst (Task.Run c) trace left left_before from put = left ≢ trace → HasRepliedFromStart (setup_chosen c) trace left_before from put
MachineRepliesFirst (Task.Log c) trace left left_before from put = left ≢ trace → HasRepliedLoggedFromStart (setup_chosen c) trace left_before from put
MachineRepliesFirst (Task.Check c) trace left left_before from put = left ≢ trace → HasLookedFirst None 0 trace left_before
MachineRepliesFirst (Task.Wear c) trace left left_before from put = left ≢ trace → HasSaidFirst (wear_chosen c) c.log trace left_before from put
MachineRepliesFirst (Task.Tree c) trace left left_before from put = left ≢ trace → HasSaidFirst (tree_chosen c) c.log trace left_before from put
MachineRepliesFirst (Task.Txn c) trace left left_before from put = left ≢ trace → HasSaidFirst (txn_chosen c) c.log trace left_before from put
MachineRepliesFirst task trace left left_before from put = ⊤

-- The same of a source and a sink before and after a call, of which so much waited to be put before, whatever all bytes of the source may be.
abbrev pub MachineRepliesBeforePull : {S K : Type 0} → Task → (S → Known) → S → S → (K → Option (List ℕ)) → K → K → List ℕ → Type 0
MachineRepliesBeforePull task known trace_old trace_new put out_old out_new waited =
    ForEachWhole (known trace_new) (λ whole.
    MachineRepliesFirst task (left_in known whole trace_old) (left_in known whole trace_new) (left_before_in known whole trace_new)
    (with_waiting (put out_old) waited) (put out_new))

-- and without a machine
abbrev pub RepliesBeforePull : {S K : Type 0} → Task → (S → Known) → S → S → (K → Option (List ℕ)) → K → K → List ℕ → Type 0
RepliesBeforePull task known trace_old trace_new put out_old out_new waited =
    ForEachWhole (known trace_new) (λ whole.
    TaskRepliesFirst task (left_in known whole trace_old) (left_in known whole trace_new) (left_before_in known whole trace_new)
    (with_waiting (put out_old) waited) (put out_new))
