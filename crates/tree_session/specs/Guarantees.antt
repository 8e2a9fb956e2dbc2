-- What a session's answers promise: in each chain of them from the beginning on, the commands and answers so far say
-- of the next one which answers it may have: a read shows the line that was last written, power and the fuse are as the answers
-- told, a refusal or an exhibit comes only of a place that was tampered with, and a write is spent exactly once all are made.
use Rattle.std.specs.Prelude.{ℕ, ◌≡◌, ◌≢◌, ◌<◌, ◌≤◌, ◌+◌, ◌-◌, ◌⊎◌, Bool, true, false, List, [], ◌∷◌, replicate, Option, Some, None, All, slice_set, slice_index, ⊤, if◌then◌else◌}
use Rattle.pmem_base.specs.declared.lines.Line.{Line}
use Rattle.pmem_base.specs.declared.answers.Exhibit.{Exhibit}
use Rattle.pmem_base.specs.declared.answers.Exhibit.TheVariants.{Clash, Forged}
use Rattle.pmem_base.specs.Lines.{line_at, zero_line}
use Rattle.pmem_base.specs.Shape.{Shape}
use Rattle.suite.specs.Setup.{Setup}
use Rattle.bonsai_tree.specs.Positions.{level_of}
use Rattle.collision_witness.specs.Exhibits.{IsExhibit}
use Rattle.counter_tree.specs.Layout.{tree_lines, tree_size}
use Rattle.counter_tree.specs.Nodes.{node_place, total, version_counter}
use Rattle.counter_tree.specs.Shadow.{shadow_digests}
use Rattle.asit_shadow.specs.Plain.{hurt_with, node_above_lines}
use Rattle.trace_text.specs.Sessions.{Lasts, burnt}
use Rattle.tree_session.specs.declared.commands.TreeCommand.{TreeCommand}
use Rattle.tree_session.specs.declared.commands.TreeCommand.TheVariants as Do
use Rattle.tree_session.specs.declared.answers.TreeAnswer.{TreeAnswer}
use Rattle.tree_session.specs.declared.answers.TreeAnswer.TheVariants as Say
use Rattle.tree_session.specs.State.{SessionState, IsNewTree}
use Rattle.tree_session.specs.Called.{is_made}
use Rattle.tree_session.specs.Answered.{read_bound, tree_write_bound, write_least, tree_recovery_bound, IsPathTampered, IsSlotTampered, IsHurt, AllAreMade, IsTreeAnswered, IsTreeShownBy}

-- ---- chains of answers

-- a command and its answer
pub record TreeReply : Type 0 where
  pub command : TreeCommand
  pub answer : TreeAnswer

-- each was answered in the state that those before it left
abbrev pub AreTreeAnswered : Setup → SessionState → List TreeReply → SessionState → Type 0
AreTreeAnswered setup first [] last = last ≡ first
AreTreeAnswered setup first (reply ∷ replies) last =
    (next : SessionState) × IsTreeAnswered setup first reply.command reply.answer next
    × AreTreeAnswered setup next replies last

-- a chain from a new session on
pub record IsTreeSession (setup : Setup) (replies : List TreeReply) (last : SessionState) : Type 0 where
  pub first : SessionState
  pub is_new : IsNewTree setup first
  pub answered : AreTreeAnswered setup first replies last

-- ---- what commands and answers say by themselves

-- the lines written last and how often each was written, as answered ok or cut kept; whether a device line was ever tampered
-- with, by a poke or a back that was answered ok, and whether a data line's cipher or tag line was since the line was last written;
-- power, the steps to the next cut, and whether there is a snapshot
pub record History : Type 0 where
  pub memory : List Line
  pub counts : List ℕ
  pub tampered : List Bool
  pub hurt : List Bool
  pub power : Bool
  pub fuse : Option ℕ
  pub snapped : Bool

-- nothing was done yet
abbrev pub first_history : Shape → History
first_history g =
    record {
      memory = replicate (tree_lines g) zero_line;
      counts = replicate (tree_lines g) 0;
      tampered = replicate (tree_size g) false;
      hurt = replicate (tree_lines g) false;
      power = true;
      fuse = None;
      snapped = false;
    }

-- memory changes by a write that was answered ok or cut kept
abbrev pub tree_memory_with : List Line → TreeCommand → TreeAnswer → List Line
tree_memory_with memory (Do.Write a line) answer = if is_made answer then slice_set memory a line else memory
tree_memory_with memory command answer = memory

abbrev pub counts_with : List ℕ → TreeCommand → TreeAnswer → List ℕ
counts_with counts (Do.Write a line) answer = if is_made answer then slice_set counts a (slice_index counts a + 1) else counts
counts_with counts command answer = counts

abbrev pub is_answered_ok : TreeAnswer → Bool
is_answered_ok Say.Ok = true
is_answered_ok answer = false

-- device lines are tampered with by poke and back
abbrev pub tampered_with : List Bool → TreeCommand → TreeAnswer → List Bool
tampered_with tampered (Do.Poke d line) answer = if is_answered_ok answer then slice_set tampered d true else tampered
tampered_with tampered (Do.Back d) answer = if is_answered_ok answer then slice_set tampered d true else tampered
tampered_with tampered command answer = tampered

-- so data lines are hurt, until they are written
abbrev pub hurt_by : Shape → List Bool → TreeCommand → TreeAnswer → List Bool
hurt_by g hurt (Do.Write a line) answer = if is_made answer then slice_set hurt a false else hurt
hurt_by g hurt (Do.Poke d line) answer = if is_answered_ok answer then hurt_with g hurt d else hurt
hurt_by g hurt (Do.Back d) answer = if is_answered_ok answer then hurt_with g hurt d else hurt
hurt_by g hurt command answer = hurt

-- power goes off by `off` and by a cut, and on by a recovery that is done
abbrev pub power_with : Bool → TreeCommand → TreeAnswer → Bool
power_with power Do.Off Say.Ok = false
power_with power command (Say.CutKept s) = false
power_with power command (Say.CutLost s) = false
power_with power command (Say.Cut s) = false
power_with power command (Say.Recovered digests s) = true
power_with power command answer = power

-- the fuse burns by the steps of the answer, and is cleared as power goes off
abbrev pub fuse_with : Option ℕ → TreeCommand → TreeAnswer → Option ℕ
fuse_with fuse (Do.Cut n) Say.Ok = Some n
fuse_with fuse Do.Off Say.Ok = None
fuse_with fuse command (Say.CutKept s) = None
fuse_with fuse command (Say.CutLost s) = None
fuse_with fuse command (Say.Cut s) = None
fuse_with fuse command (Say.Written s) = burnt fuse s
fuse_with fuse command (Say.Got line s) = burnt fuse s
fuse_with fuse command (Say.Recovered digests s) = burnt fuse s
fuse_with fuse command (Say.RefusedNode x s) = burnt fuse s
fuse_with fuse command (Say.RefusedData a s) = burnt fuse s
fuse_with fuse command (Say.RefusedShadow kept found s) = burnt fuse s
fuse_with fuse command answer = fuse

abbrev pub snapped_with : Bool → TreeCommand → TreeAnswer → Bool
snapped_with snapped Do.Snap Say.Ok = true
snapped_with snapped command answer = snapped

abbrev pub history_with : Shape → History → TreeCommand → TreeAnswer → History
history_with g history command answer =
    record {
      memory = tree_memory_with history.memory command answer;
      counts = counts_with history.counts command answer;
      tampered = tampered_with history.tampered command answer;
      hurt = hurt_by g history.hurt command answer;
      power = power_with history.power command answer;
      fuse = fuse_with history.fuse command answer;
      snapped = snapped_with history.snapped command answer;
    }

abbrev pub history_after : Shape → History → List TreeReply → History
history_after g history [] = history
history_after g history (reply ∷ replies) = history_after g (history_with g history reply.command reply.answer) replies

-- ---- which answers they allow

-- power is on, and there is such a line
pub record IsTreeServed (g : Shape) (history : History) (a : ℕ) : Type 0 where
  pub power : history.power ≡ true
  pub inside : a < tree_lines g

-- that many steps at most, within the fuse
abbrev pub TakesFew : ℕ → ℕ → History → Type 0
TakesFew s most history = Lasts history.fuse s × (s ≤ most)

-- a cut after that many steps, fewer than the most
abbrev pub EndsAt : ℕ → ℕ → History → Type 0
EndsAt s most history = (history.fuse ≡ Some s) × (s < most)

abbrev pub MayWrite : Shape → History → ℕ → TreeAnswer → Type 0
MayWrite g history a Say.Off = history.power ≡ false
MayWrite g history a Say.Range = (history.power ≡ true) × (tree_lines g ≤ a)
MayWrite g history a (Say.Written s) =
    IsTreeServed g history a × (AllAreMade history.counts → ⊥) × (write_least g ≤ s) × TakesFew s (tree_write_bound g) history
MayWrite g history a (Say.CutKept s) =
    IsTreeServed g history a × (AllAreMade history.counts → ⊥) × (1 ≤ s) × EndsAt s (tree_write_bound g) history
MayWrite g history a (Say.CutLost s) =
    IsTreeServed g history a × (AllAreMade history.counts → ⊥) × (history.fuse ≡ Some s) × (s ≤ read_bound g)
MayWrite g history a (Say.RefusedNode x s) =
    IsTreeServed g history a × (AllAreMade history.counts → ⊥) × IsPathTampered g history.tampered a x × TakesFew s (read_bound g) history
MayWrite g history a (Say.Spent s) = IsTreeServed g history a × AllAreMade history.counts × (s ≡ 0)
MayWrite g history a answer = ⊥

abbrev pub MayRead : Shape → History → ℕ → TreeAnswer → Type 0
MayRead g history a Say.Off = history.power ≡ false
MayRead g history a Say.Range = (history.power ≡ true) × (tree_lines g ≤ a)
MayRead g history a (Say.Got line s) =
    IsTreeServed g history a × (line ≡ line_at history.memory a) × TakesFew s (read_bound g) history
MayRead g history a (Say.Cut s) = IsTreeServed g history a × EndsAt s (read_bound g) history
MayRead g history a (Say.RefusedData b s) =
    IsTreeServed g history a × (b ≡ a) × IsHurt history.hurt a × TakesFew s (read_bound g) history
MayRead g history a (Say.RefusedNode x s) =
    IsTreeServed g history a × IsPathTampered g history.tampered a x × TakesFew s (read_bound g) history
MayRead g history a answer = ⊥

abbrev pub MayTurnOn : Shape → History → TreeAnswer → Type 0
MayTurnOn g history Say.Already = history.power ≡ true
MayTurnOn g history (Say.Recovered digests s) =
    (history.power ≡ false) × (digests ≡ shadow_digests g) × TakesFew s (tree_recovery_bound g) history
MayTurnOn g history (Say.Cut s) = (history.power ≡ false) × EndsAt s (tree_recovery_bound g) history
MayTurnOn g history (Say.RefusedShadow kept found s) =
    (history.power ≡ false) × IsSlotTampered g history.tampered × (kept ≢ found) × TakesFew s (tree_recovery_bound g) history
MayTurnOn g history answer = ⊥

abbrev pub MayTurnOff : History → TreeAnswer → Type 0
MayTurnOff history Say.Off = history.power ≡ false
MayTurnOff history Say.Ok = history.power ≡ true
MayTurnOff history answer = ⊥

abbrev pub MayPoke : Shape → ℕ → TreeAnswer → Type 0
MayPoke g d Say.Range = tree_size g ≤ d
MayPoke g d Say.Ok = d < tree_size g
MayPoke g d answer = ⊥

abbrev pub MayPutBack : Shape → History → ℕ → TreeAnswer → Type 0
MayPutBack g history d Say.Range = tree_size g ≤ d
MayPutBack g history d Say.NoSnap = (d < tree_size g) × (history.snapped ≡ false)
MayPutBack g history d Say.Ok = (d < tree_size g) × (history.snapped ≡ true)
MayPutBack g history d answer = ⊥

abbrev pub IsAllowed : Shape → History → TreeCommand → TreeAnswer → Type 0
IsAllowed g history (Do.Write a line) answer = MayWrite g history a answer
IsAllowed g history (Do.Read a) answer = MayRead g history a answer
IsAllowed g history Do.On answer = MayTurnOn g history answer
IsAllowed g history Do.Off answer = MayTurnOff history answer
IsAllowed g history (Do.Cut n) answer = answer ≡ Say.Ok
IsAllowed g history (Do.Poke d line) answer = MayPoke g d answer
IsAllowed g history Do.Snap answer = answer ≡ Say.Ok
IsAllowed g history (Do.Back d) answer = MayPutBack g history d answer

-- each answer is one that those before it allow
abbrev pub AreAllowed : Shape → History → List TreeReply → Type 0
AreAllowed g history [] = ⊤
AreAllowed g history (reply ∷ replies) =
    IsAllowed g history reply.command reply.answer
    × AreAllowed g (history_with g history reply.command reply.answer) replies

-- ---- exhibits

-- the version of node x after that many writes of each line
abbrev pub version_by : Shape → List ℕ → ℕ → ℕ
version_by g counts x = total (node_above_lines g counts (g.levels - level_of x) x)

-- the exhibit is a forged line, under its version, of a node of the path of line a that was tampered with
pub record ShowsNode (g : Shape) (history : History) (a : ℕ) (exhibit : Exhibit) : Type 0 where
  pub x : ℕ
  pub cipher : Line
  pub tag : List ℕ
  pub place : IsPathTampered g history.tampered a x
  pub its : exhibit ≡ Forged (node_place x) (version_counter (version_by g history.counts x)) cipher tag

-- it is a forged cipher of line a, which is hurt, under its counter
pub record ShowsLine (history : History) (a : ℕ) (exhibit : Exhibit) : Type 0 where
  pub cipher : Line
  pub tag : List ℕ
  pub hurt : IsHurt history.hurt a
  pub its : exhibit ≡ Forged a (version_counter (slice_index history.counts a)) cipher tag

-- it is a clash of two slot trees, and a slot line was tampered with
pub record ShowsClash (g : Shape) (history : History) (exhibit : Exhibit) : Type 0 where
  pub position : ℕ
  pub first : Line
  pub second : Line
  pub place : IsSlotTampered g history.tampered
  pub its : exhibit ≡ Clash position first second

abbrev pub MayShow : Shape → History → TreeCommand → Exhibit → Type 0
MayShow g history (Do.Write a line) exhibit =
    IsTreeServed g history a × (AllAreMade history.counts → ⊥) × ShowsNode g history a exhibit
MayShow g history (Do.Read a) exhibit =
    IsTreeServed g history a × (ShowsNode g history a exhibit ⊎ ShowsLine history a exhibit)
MayShow g history Do.On exhibit = (history.power ≡ false) × ShowsClash g history exhibit
MayShow g history command exhibit = ⊥

-- ---- without tampering

-- neither a poke nor a back that was answered ok
abbrev pub IsNoTampering : TreeCommand → TreeAnswer → Type 0
IsNoTampering (Do.Poke d line) answer = is_answered_ok answer ≡ false
IsNoTampering (Do.Back d) answer = is_answered_ok answer ≡ false
IsNoTampering command answer = ⊤

abbrev pub IsTreeAnswerUnrefused : TreeAnswer → Type 0
IsTreeAnswerUnrefused (Say.RefusedNode x s) = ⊥
IsTreeAnswerUnrefused (Say.RefusedData a s) = ⊥
IsTreeAnswerUnrefused (Say.RefusedShadow kept found s) = ⊥
IsTreeAnswerUnrefused answer = ⊤

-- ---- the whole

-- each session's answers are allowed by those before them
abbrev pub IsTreeKept : Setup → Type 0
IsTreeKept setup =
    (replies : List TreeReply) (last : SessionState) → IsTreeSession setup replies last
    → AreAllowed setup.shape (first_history setup.shape) replies

-- an exhibit that comes after them holds, and is allowed too
abbrev pub IsTreeShown : Setup → Type 0
IsTreeShown setup =
    (replies : List TreeReply) (last new : SessionState) (command : TreeCommand) (exhibit : Exhibit)
    → IsTreeSession setup replies last → IsTreeShownBy setup last command exhibit new
    → IsExhibit setup.formulas exhibit
    × MayShow setup.shape (history_after setup.shape (first_history setup.shape) replies) command exhibit

-- if nobody tampered with the device, nothing is refused, and there is no exhibit
abbrev pub IsTreeUntouched : Setup → Type 0
IsTreeUntouched setup =
    (replies : List TreeReply) (last : SessionState) → IsTreeSession setup replies last
    → All (λ (reply : TreeReply). IsNoTampering reply.command reply.answer) replies
    → All (λ (reply : TreeReply). IsTreeAnswerUnrefused reply.answer) replies
    × ((command : TreeCommand) (exhibit : Exhibit) (new : SessionState) → IsTreeShownBy setup last command exhibit new → ⊥)
