-- A world's fields as its parts, and steps as contracts write them.
use Rattle.std.proofs.Common.{ℕ, ◌≡◌, Bool, false, List, [], Option, Some, None, refl, sym, ap, subst, ◌∙◌}
use Rattle.std.specs.Prelude.{is_some, not, length, drop}
use Rattle.std.proofs.lemmas.Bool.{true≢false}
use Rattle.std.proofs.Math.Seq.{drop-append_seam}
use Rattle.pmem_base.specs.declared.commands.Posted.{Posted}
use Rattle.pmem_base.specs.declared.commands.Command.{Command}
use Rattle.pmem_base.specs.declared.answers.Stat.{Stat}
use Rattle.pmem_base.specs.Shape.{Shape}
use Rattle.board.specs.Memory.{BoardMemory}
use Rattle.seal_ledger.specs.Ledger.{LedgerState}
use Rattle.suite.specs.Formulas.{Formulas}
use Rattle.suite.specs.Setup.{Setup}
use Rattle.pmem_base.specs.declared.answers.Mark.{Mark}
use Rattle.pmem_base.specs.declared.answers.Answer.{Answer}
use Rattle.pmem_base.specs.WaitingWrites.{no_writes}
use Rattle.pmem_replay.specs.Replies.{without_marks, with_marks_since}
use Rattle.plain_model.specs.State.{Reply}
use Rattle.pmem_engine.specs.Engine.{EngineState}
use Rattle.pmem_replay.specs.Flagged.{Tampering, Dirtying}
use Rattle.pmem_replay.specs.World.{WorldState, WorldParts, IsWorld, setup_of_world, state_in, world_of}
use Rattle.pmem_replay.specs.Stepped.{HasStepped}
use Rattle.pmem_replay.proofs.Steps.WorldsAfterCalls.{on_in}
use Rattle.pmem_replay.proofs.Steps.WorldSteps.{holds_after}
use Rattle.pmem_replay.proofs.Table.UnchangedSteps.{IsGoingOn, dark_in, lit_in}

abbrev pub held : List ℕ → BoardMemory → LedgerState → ℕ → Option EngineState → ℕ → ℕ → List (List Posted) → Tampering → Dirtying → ℕ → Stat → Bool → WorldParts
held keys board ledger capacity engine tags digests queues tampering dirtying steps start shown =
    record {
      keys = keys;
      board = board;
      ledger = ledger;
      capacity = capacity;
      engine = engine;
      tags = tags;
      digests = digests;
      queues = queues;
      tampering = tampering;
      dirtying = dirtying;
      steps = steps;
      start = start;
      shown = shown;
    }

-- the geometry, and the formulas under the world's keys
abbrev pub setup_in : (List ℕ → Formulas) → Shape → WorldParts → Setup
setup_in formulas_of g p = record { shape = g; formulas = formulas_of p.keys }

-- what is known of a world that goes on
pub going_in : (formulas_of : List ℕ → Formulas) (g : Shape) (p : WorldParts) (now : WorldState)
    → world_of (setup_in formulas_of g p) p ≡ now → now.shown ≡ false
    → (p.shown ≡ false → IsWorld (setup_in formulas_of g p) (world_of (setup_in formulas_of g p) p))
    → IsGoingOn (setup_in formulas_of g p) (world_of (setup_in formulas_of g p) p)
going_in formulas_of g p now is unshown whole =
    let quiet : p.shown ≡ false = ap (λ (w : WorldState). w.shown) is ∙ unshown in
    record { whole = whole quiet; unshown = quiet }

-- a step, as a contract writes it
pub seen_from : (formulas_of : List ℕ → Formulas) (g : Shape) (p : WorldParts) (now new : WorldState) (command : Command) (reply : Reply)
    → world_of (setup_in formulas_of g p) p ≡ now
    → HasStepped (setup_in formulas_of g p) (world_of (setup_in formulas_of g p) p) command reply new
    → HasStepped (setup_of_world formulas_of now) now command reply new
seen_from formulas_of g p now new command reply is step =
    subst (λ (w : WorldState). HasStepped (setup_of_world formulas_of w) w command reply new) is step

-- the same where nothing changed
pub seen_still : (formulas_of : List ℕ → Formulas) (g : Shape) (p : WorldParts) (now : WorldState) (command : Command) (reply : Reply)
    → world_of (setup_in formulas_of g p) p ≡ now
    → HasStepped (setup_in formulas_of g p) (world_of (setup_in formulas_of g p) p) command reply (world_of (setup_in formulas_of g p) p)
    → HasStepped (setup_of_world formulas_of now) now command reply now
seen_still formulas_of g p now command reply is step =
    subst (λ (w : WorldState). HasStepped (setup_of_world formulas_of w) w command reply w) is step

-- what the world holds afterwards
pub held_after : (formulas_of : List ℕ → Formulas) (g : Shape) (p : WorldParts) (new : WorldState) (command : Command) (reply : Reply)
    → HasStepped (setup_in formulas_of g p) (world_of (setup_in formulas_of g p) p) command reply new → new.shown ≡ false
    → IsWorld (setup_of_world formulas_of new) new
held_after formulas_of g p new command reply step unshown =
    holds_after formulas_of (world_of (setup_in formulas_of g p) p) new command reply step unshown

-- power is on where the engine is there
pub power_is : (setup : Setup) (p : WorldParts) (there : Bool) → IsGoingOn setup (world_of setup p) → there ≡ is_some p.engine
    → (state_in setup p).power ≡ there
power_is setup p there going is = by_engine p.engine refl
  where
    by_engine : (engine : Option EngineState) → p.engine ≡ engine → (state_in setup p).power ≡ there
    by_engine None none = dark_in setup (world_of setup p) going.whole none ∙ sym (is ∙ ap is_some none)
    by_engine (Some engine) some = lit_in setup (world_of setup p) engine going.whole some ∙ sym (is ∙ ap is_some some)

-- nothing waits
pub none_wait : (queues : List (List Posted)) → queues ≡ no_writes → queues ≡ no_writes
unfolding no_writes
none_wait queues none = none

-- the engine is of the geometry
pub shape_in : (setup : Setup) (p : WorldParts) (engine : EngineState) → IsGoingOn setup (world_of setup p) → p.engine ≡ Some engine
    → setup.shape ≡ engine.shape
shape_in setup p engine going there = sym (on_in setup (world_of setup p) engine going.whole there).trusted.its_shape

-- the suite's keys stay, so its formulas do
pub rekeyed : (formulas_of : List ℕ → Formulas) (g : Shape) (p q : WorldParts) (command : Command) (reply : Reply) → q.keys ≡ p.keys
    → HasStepped (setup_in formulas_of g p) (world_of (setup_in formulas_of g p) p) command reply (world_of (setup_in formulas_of g p) q)
    → HasStepped (setup_in formulas_of g p) (world_of (setup_in formulas_of g p) p) command reply (world_of (setup_in formulas_of g q) q)
rekeyed formulas_of g p q command reply same step =
    subst (λ (k : List ℕ). HasStepped (setup_in formulas_of g p) (world_of (setup_in formulas_of g p) p) command reply
    (world_of (record { shape = g; formulas = formulas_of k }) q)) (sym same) step

-- the keys stay, and the world before is as it was called
pub moved : (R : Setup → WorldState → WorldState → Type 0) (formulas_of : List ℕ → Formulas) (g : Shape) (p q : WorldParts) (now : WorldState)
    → world_of (setup_in formulas_of g p) p ≡ now → q.keys ≡ p.keys
    → R (setup_in formulas_of g p) (world_of (setup_in formulas_of g p) p) (world_of (setup_in formulas_of g p) q)
    → R (setup_of_world formulas_of now) now (world_of (setup_in formulas_of g q) q)
moved R formulas_of g p q now is same it =
    subst (λ (w : WorldState). R (setup_of_world formulas_of w) w (world_of (setup_in formulas_of g q) q)) is
    (subst (λ (k : List ℕ). R (setup_in formulas_of g p) (world_of (setup_in formulas_of g p) p) (world_of (record { shape = g; formulas = formulas_of k }) q)) (sym same) it)

-- the reply's marks are those made since
pub since : (setup : Setup) (old new : WorldState) (command : Command) (marks : List Mark) (answer : Answer)
    → HasStepped setup old command (record { marks = marks; answer = answer }) new
    → HasStepped setup old command (with_marks_since old new answer) new
since setup old new command marks answer step =
    let its : marks ≡ drop (length old.ledger.marks) new.ledger.marks =
    sym (ap (drop (length old.ledger.marks)) step.marks ∙ drop-append_seam old.ledger.marks marks) in
    subst (λ (ms : List Mark). HasStepped setup old command (record { marks = ms; answer = answer }) new) its step

-- a reply without marks, where none were made
pub unmarked : (setup : Setup) (old new : WorldState) (command : Command) (answer : Answer)
    → HasStepped setup old command (without_marks answer) new
    → HasStepped setup old command (with_marks_since old new answer) new
unmarked setup old new command answer step = since setup old new command [] answer step

-- an engine is there
pub engine_some : (engine : Option EngineState) (none : Bool) → is_some engine ≡ not none → none ≡ false
    → (found : EngineState) × (engine ≡ Some found)
engine_some None none its is = absurd (true≢false (sym (its ∙ ap not is)))
engine_some (Some found) none its is = (found, refl)

-- what a command owes as it returns: the world that it leaves, and its step
pub record EndsCall (formulas_of : List ℕ → Formulas) (g : Shape) (now : WorldState) (command : Command) (reply : Reply) (q : WorldParts) : Type 0 where
  pub holds : q.shown ≡ false → IsWorld (setup_in formulas_of g q) (world_of (setup_in formulas_of g q) q)
  pub stepped : HasStepped (setup_of_world formulas_of now) now command reply (world_of (setup_in formulas_of g q) q)

-- the keys stay
pub ends : (formulas_of : List ℕ → Formulas) (g : Shape) (p q : WorldParts) (now : WorldState) (command : Command) (reply : Reply)
    → world_of (setup_in formulas_of g p) p ≡ now → q.keys ≡ p.keys
    → HasStepped (setup_in formulas_of g p) (world_of (setup_in formulas_of g p) p) command reply (world_of (setup_in formulas_of g p) q)
    → EndsCall formulas_of g now command reply q
ends formulas_of g p q now command reply is same step =
    let its = rekeyed formulas_of g p q command reply same step in
    record {
      holds = held_after formulas_of g p (world_of (setup_in formulas_of g q) q) command reply its;
      stepped = seen_from formulas_of g p now (world_of (setup_in formulas_of g q) q) command reply is its;
    }

-- the steps as a number of their own
pub numbered : (setup : Setup) (old new : WorldState) (command : Command) (marks : List Mark) (say : ℕ → Answer) (n m : ℕ) → n ≡ m
    → HasStepped setup old command (record { marks = marks; answer = say m }) new
    → HasStepped setup old command (record { marks = marks; answer = say n }) new
numbered setup old new command marks say n m its step =
    subst (λ (k : ℕ). HasStepped setup old command (record { marks = marks; answer = say k }) new) (sym its) step
