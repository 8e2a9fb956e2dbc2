-- Exhibits in a run, and so the whole table of legal replies.
use Rattle.std.specs.Prelude.{ℕ, ◌≡◌, ◌≢◌, ◌/◌, false, List, Option, unwrap_or, MatchOption, ⊤}
use Rattle.pmem_base.specs.declared.lines.Line.{Line}
use Rattle.pmem_base.specs.declared.lines.Ctr.{Ctr}
use Rattle.pmem_base.specs.declared.commands.Command.{Command}
use Rattle.pmem_base.specs.declared.commands.Command.TheVariants as Do
use Rattle.pmem_base.specs.declared.answers.Mark.{Mark}
use Rattle.pmem_base.specs.declared.answers.Answer.{Answer}
use Rattle.pmem_base.specs.declared.answers.Answer.TheVariants as Say
use Rattle.pmem_base.specs.declared.answers.Place.{Place}
use Rattle.pmem_base.specs.declared.answers.Exhibit.{Exhibit}
use Rattle.pmem_base.specs.declared.answers.Exhibit.TheVariants.{Clash, Forged, Twin}
use Rattle.pmem_base.specs.Lines.{line_at}
use Rattle.suite.specs.Formulas.{cipher_of}
use Rattle.collision_witness.specs.Exhibits.{IsExhibit}
use Rattle.suite.specs.Setup.{Setup}
use Rattle.plain_model.specs.State.{Memory, PlainState, Reply, has_flags}
use Rattle.plain_model.specs.View.{DeviceView, counter_at, view_after_marks, true_line}
use Rattle.plain_model.specs.Answers.{decided_answer}
use Rattle.plain_model.specs.Legal.{IsEngineLegal, state_at_turn}
use Rattle.plain_model.specs.Fits.{Fits, sealed_line, sealed_tag}

-- with the same marks, a refusal of the place after that many drained writes would be legal and fit
pub record CanBeRefused (setup : Setup) (state : PlainState) (view : DeviceView)
    (command : Command) (marks : List Mark) (drained : Option ℕ) (place : Place) : Type 0 where
  pub legal : IsEngineLegal setup state view command (Say.Refused drained place 0)
  pub fits :
      Fits setup state view command
      (record { marks = marks; answer = Say.Refused drained place 0 })

-- the second line of a collision is the true one, and the metadata line could be refused
pub record IsShownClash (setup : Setup) (state : PlainState) (view : DeviceView)
    (command : Command) (marks : List Mark) (x : ℕ) (second : Line) : Type 0 where
  pub true_second : second ≡ true_line setup (view_after_marks view marks) x
  pub refusable :
      (drained : Option ℕ) × CanBeRefused setup state view command marks drained (Place.Meta x)

-- the forged tag is under the line's last counter, its cipher is not that of memory's line, and the
-- data line could be refused
pub record IsShownForged (setup : Setup) (state : PlainState) (view : DeviceView)
    (command : Command) (marks : List Mark) (at : ℕ) (ctr : Ctr) (cipher : Line) : Type 0 where
  pub last_counter : ctr ≡ counter_at (view_after_marks view marks) at
  pub refusable :
      (drained : Option ℕ)
      × CanBeRefused setup state view command marks drained (Place.Line at)
      × (cipher
      ≢ cipher_of setup.formulas at ctr
      (line_at (state_at_turn state command (unwrap_or drained 0)).memory at))

-- without tampering, the two counters fit the line's last seal: its cipher, tag and major, and
-- minors of one window
pub record IsTwinOfSeal (setup : Setup) (memory : Memory) (loss : ℕ) (view : DeviceView)
    (at major low high : ℕ) (cipher : Line) (tag : List ℕ) : Type 0 where
  pub its_cipher : cipher ≡ sealed_line setup.formulas memory view at
  pub its_tag : tag ≡ sealed_tag setup.formulas memory view at
  pub its_major : major ≡ (counter_at view at).major
  pub low_in_window : low / loss ≡ (counter_at view at).minor / loss
  pub high_in_window : high / loss ≡ (counter_at view at).minor / loss

-- a twin answers `on` alone
pub record IsShownTwin (setup : Setup) (state : PlainState) (view : DeviceView)
    (command : Command) (at major low high : ℕ) (cipher : Line) (tag : List ℕ) : Type 0 where
  pub answers_on : command ≡ Do.On
  pub of_seal :
      has_flags state.named ≡ false
      → IsTwinOfSeal setup state.memory state.loss view at major low high cipher tag

-- what the run adds, by the kind of exhibit
abbrev pub IsShownInRun : Setup → PlainState → DeviceView → Command → List Mark → Exhibit → Type 0
IsShownInRun setup state view command marks (Clash x first second) =
    IsShownClash setup state view command marks x second
IsShownInRun setup state view command marks (Forged at ctr cipher tag) =
    IsShownForged setup state view command marks at ctr cipher
IsShownInRun setup state view command marks (Twin at major low high cipher tag) =
    IsShownTwin setup state view command at major low high cipher tag

-- an exhibit that a command may end the run with
pub record IsShown (setup : Setup) (state : PlainState) (view : DeviceView) (command : Command)
    (marks : List Mark) (exhibit : Exhibit) : Type 0 where
  pub holds : IsExhibit setup.formulas exhibit
  pub in_run : IsShownInRun setup state view command marks exhibit

abbrev pub IsShownAnswer : Setup → PlainState → DeviceView → Command → List Mark → Answer → Type 0
IsShownAnswer setup state view command marks (Say.Shown exhibit) =
    IsShown setup state view command marks exhibit
IsShownAnswer setup state view command marks answer = ⊤

-- the engine decides the answer
pub record IsEngineReply (setup : Setup) (state : PlainState) (view : DeviceView)
    (command : Command) (reply : Reply) : Type 0 where
  pub legal : IsEngineLegal setup state view command reply.answer
  pub shown : IsShownAnswer setup state view command reply.marks reply.answer

-- a legal reply: the answer that the table decides, or else one that the engine may give
abbrev pub IsLegal : Setup → PlainState → DeviceView → Command → Reply → Type 0
IsLegal setup state view command reply =
    MatchOption (decided_answer setup.shape state command)
    (IsEngineReply setup state view command reply)
    (λ answer. reply.answer ≡ answer)
