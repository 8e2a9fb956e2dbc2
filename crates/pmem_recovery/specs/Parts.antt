-- What the stages of recovery do to the device, to the suite's counts, and why they stop.
use Rattle.std.specs.Prelude.{ℕ, ◌≡◌, ◌≢◌, ◌≤◌, ◌<◌, ◌+◌, ◌*◌, ◌⊎◌, true, false, List, [], ◌∷◌, Option, Some, None, length, Result, Ok, Err, ⊤}
use Rattle.pmem_base.specs.declared.lines.Line.{Line}
use Rattle.pmem_base.specs.declared.registers.Regs.{Regs}
use Rattle.pmem_base.specs.declared.answers.Exhibit.TheVariants as Exhibit
use Rattle.pmem_base.specs.Counts.{HasRisen, risen_times}
use Rattle.pmem_base.specs.Layout as layout
use Rattle.pmem_base.specs.Layout.{page_of, level_start}
use Rattle.pmem_base.specs.Shape.{Shape}
use Rattle.pmem_base.specs.Lines.{line_at, tag_slot}
use Rattle.board.specs.Device.{Device}
use Rattle.suite.specs.Formulas.{Formulas}
use Rattle.suite.specs.Setup.{Setup}
use Rattle.shadow_tables.specs.Entries.{shadow_of}
use Rattle.stop_loss.specs.declared.Found.{Found}
use Rattle.collision_witness.specs.Exhibits.{IsExhibit}
use Rattle.call_effects.specs.SuiteStates.{SuiteState}
use Rattle.pmem_recovery.specs.declared.faults.RecFault.{RecFault}
use Rattle.pmem_recovery.specs.declared.faults.RecFault.TheVariants.{Memory, Cut, NoCounter, Root, Twin}
use Rattle.pmem_recovery.specs.Named.{count_doubted}
use Rattle.pmem_recovery.specs.Trials.{stored_block, tried_minors, first_undecided, trials_below}
use Rattle.pmem_recovery.specs.Fixed.{found_root}

-- what holds of the lines, if they are exposed
abbrev pub IfLinesTold : Option (List Line) → (List Line → Type 0) → Type 0
IfLinesTold told P = (lines : List Line) → told ≡ Some lines → P lines

-- ---- the device

-- lines are read, and nothing else is changed
pub record KeepsDevice (old new : Device) : Type 0 where
  pub size : new.size ≡ old.size
  pub lines : new.lines ≡ old.lines
  pub regs : new.regs ≡ old.regs
  pub writes : new.writes ≡ old.writes
  pub latches : new.latches ≡ old.latches
  pub reads : old.reads ≤ new.reads

-- no cut came
pub record IsUncut (old new : Device) : Type 0 where
  pub cuts : new.cuts ≡ old.cuts
  pub steady : old.steady ≡ true → new.steady ≡ true
  pub live : old.live ≡ true → new.live ≡ true

-- a cut came, on a device that wasn't steady
pub record IsCutOff (old new : Device) : Type 0 where
  pub unsteady : old.steady ≡ false
  pub off : new.live ≡ false
  pub never_falls : old.cuts ≤ new.cuts
  pub rose : HasRisen old.cuts new.cuts

-- a stage that stops goes on but if power is cut
abbrev pub StopsBy : RecFault → Device → Device → Type 0
StopsBy Cut old new = IsCutOff old new
StopsBy fault old new = IsUncut old new

-- ---- the suite

-- that many tags and digests are made, and no pad
pub record SuiteWork (n m : ℕ) (old new : SuiteState) : Type 0 where
  pub keys : new.keys ≡ old.keys
  pub pads : new.pads ≡ old.pads
  pub tags : new.tags ≡ risen_times n old.tags
  pub digests : new.digests ≡ risen_times m old.digests

-- ---- what the trials of a line find

-- the one minor found, or why there is none
abbrev pub decided_of : Found → ℕ → ℕ → Line → List ℕ → Result ℕ RecFault
decided_of (Found.One minor) at major cipher tag = Ok minor
decided_of Found.Nothing at major cipher tag = Err (NoCounter at)
decided_of (Found.Twin low high) at major cipher tag = Err (Twin at major low high cipher tag)

-- of the minors that fit there are two or more: the least two, which are a twin of this cipher and tag
pub record IsTwinAmong (f : Formulas) (at major low high : ℕ) (cipher : Line) (tag matching : List ℕ) :
    Type 0 where
  pub more : List ℕ
  pub least : matching ≡ low ∷ high ∷ more
  pub holds : IsExhibit f (Exhibit.Twin at major low high cipher tag)

-- no minor fits, or more than one
abbrev pub IsUndecided : Formulas → ℕ → ℕ → Line → List ℕ → List ℕ → RecFault → Type 0
IsUndecided f at major cipher tag matching (NoCounter a) = (a ≡ at) × (matching ≡ [])
IsUndecided f at major cipher tag matching (Twin a m low high c t) =
    (a ≡ at) × (m ≡ major) × (c ≡ cipher) × (t ≡ tag) × IsTwinAmong f a m low high c t matching
IsUndecided f at major cipher tag matching fault = ⊥

-- exactly one minor fits, or why not
abbrev pub IsDecided : Formulas → ℕ → ℕ → Line → List ℕ → List ℕ → Result ℕ RecFault → Type 0
IsDecided f at major cipher tag matching (Ok minor) = (matching ≡ minor ∷ []) × (minor ≤ 127)
IsDecided f at major cipher tag matching (Err fault) = IsUndecided f at major cipher tag matching fault

-- each line of a page has one minor
abbrev pub AreOneTried : Setup → List Line → Regs → ℕ → Type 0
AreOneTried setup lines regs page =
    (i : ℕ) → i < 64 → length (tried_minors setup lines regs (64 * page + i)) ≡ 1

-- the found root is the kept one, or both are answered
abbrev pub IsCompared : List ℕ → List ℕ → Result Unit RecFault → Type 0
IsCompared kept found (Ok done) = found ≡ kept
IsCompared kept found (Err (Root k f)) = (k ≡ kept) × (f ≡ found) × (found ≢ kept)
IsCompared kept found (Err fault) = ⊥

-- ---- why it stops

-- two minors or more fit line a: the least two, with the device's cipher and slot
pub record IsTwinOf (setup : Setup) (lines : List Line) (regs : Regs) (a major low high : ℕ)
    (cipher : Line) (tag : List ℕ) : Type 0 where
  pub more : List ℕ
  pub tried : tried_minors setup lines regs a ≡ low ∷ high ∷ more
  pub its_major : major ≡ (stored_block setup.shape lines (page_of a)).major
  pub its_cipher : cipher ≡ line_at lines a
  pub its_tag : tag ≡ tag_slot (line_at lines (layout.tag_line setup.shape a)) a

-- at line a, which hasn't one minor
abbrev pub IsLineRefusal : Setup → List Line → Regs → ℕ → RecFault → Type 0
IsLineRefusal setup lines regs a Memory = ⊥
IsLineRefusal setup lines regs a Cut = ⊤
IsLineRefusal setup lines regs a (NoCounter at) =
    (at ≡ a) × (tried_minors setup lines regs a ≡ [])
IsLineRefusal setup lines regs a (Root kept found) = ⊥
IsLineRefusal setup lines regs a (Twin at major low high cipher tag) =
    (at ≡ a) × IsTwinOf setup lines regs a major low high cipher tag

-- at a line of a page behind lines that have one minor each
pub record IsPageRefusal (setup : Setup) (lines : List Line) (regs : Regs) (page : ℕ)
    (fault : RecFault) : Type 0 where
  pub place : ℕ
  pub in_page : place < 64
  pub before :
      (j : ℕ) → j < place → length (tried_minors setup lines regs (64 * page + j)) ≡ 1
  pub here : IsLineRefusal setup lines regs (64 * page + place) fault

-- the found root is another one than the register's
pub record HasOtherRoot (setup : Setup) (lines : List Line) (regs : Regs) (kept found : List ℕ) :
    Type 0 where
  pub decided : first_undecided setup lines regs ≡ None
  pub its_kept : kept ≡ regs.root
  pub its_found : found ≡ found_root setup lines regs
  pub differ : found ≢ kept

-- every line that is tried has one minor, and the found root is the register's
pub record HasRoot (setup : Setup) (lines : List Line) (regs : Regs) : Type 0 where
  pub decided : first_undecided setup lines regs ≡ None
  pub root : found_root setup lines regs ≡ regs.root

-- if recovery stops: at the first line that hasn't one minor, else at the root
abbrev pub IsRefusal : Setup → List Line → Regs → RecFault → Type 0
IsRefusal setup lines regs Memory = ⊤
IsRefusal setup lines regs Cut = ⊤
IsRefusal setup lines regs (NoCounter at) =
    (first_undecided setup lines regs ≡ Some at) × (tried_minors setup lines regs at ≡ [])
IsRefusal setup lines regs (Root kept found) = HasOtherRoot setup lines regs kept found
IsRefusal setup lines regs (Twin at major low high cipher tag) =
    (first_undecided setup lines regs ≡ Some at)
    × IsTwinOf setup lines regs at major low high cipher tag

-- ---- how much is tried before it stops

-- all digests of a recovery: four for each doubted node, and the top line's
abbrev pub all_digests : Shape → List Line → ℕ
all_digests g lines = 4 * count_doubted g (shadow_of g lines) 0 (level_start g.levels) + 1

-- the trials and digests of a recovery that is cut: the lines up to one are tried, and digests are made once all are
pub record IsCutWork (g : Shape) (lines : List Line) (regs : Regs) (trials digests : ℕ) : Type 0 where
  pub lines_tried : ℕ
  pub within : lines_tried ≤ layout.data_lines g
  pub its_trials : trials ≡ trials_below g lines regs lines_tried
  pub few_digests : digests ≤ all_digests g lines
  pub in_order : (lines_tried ≡ layout.data_lines g) ⊎ (digests ≡ 0)

-- the trials and digests of a recovery that stops: up to and with the first line that hasn't one minor, or all
abbrev pub IsWorkBefore : Shape → List Line → Regs → RecFault → ℕ → ℕ → Type 0
IsWorkBefore g lines regs Memory trials digests = (trials ≡ 0) × (digests ≡ 0)
IsWorkBefore g lines regs Cut trials digests = IsCutWork g lines regs trials digests
IsWorkBefore g lines regs (NoCounter at) trials digests =
    (trials ≡ trials_below g lines regs (at + 1)) × (digests ≡ 0)
IsWorkBefore g lines regs (Root kept found) trials digests =
    (trials ≡ trials_below g lines regs (layout.data_lines g)) × (digests ≡ all_digests g lines)
IsWorkBefore g lines regs (Twin at major low high cipher tag) trials digests =
    (trials ≡ trials_below g lines regs (at + 1)) × (digests ≡ 0)

pub record StoppedWork (g : Shape) (lines : List Line) (regs : Regs) (fault : RecFault)
    (old new : SuiteState) : Type 0 where
  pub trials : ℕ
  pub digests : ℕ
  pub so_far : IsWorkBefore g lines regs fault trials digests
  pub worked : SuiteWork trials digests old new

-- the trials and digests of a recovery that goes through: all candidates of all lines, and all digests
pub record IsAllWork (g : Shape) (lines : List Line) (regs : Regs) (trials digests : ℕ) : Type 0 where
  pub its_trials : trials ≡ trials_below g lines regs (layout.data_lines g)
  pub its_digests : digests ≡ all_digests g lines

-- ---- what a stop shows

-- a twin holds, and there is memory
abbrev pub IsFaultShown : Formulas → RecFault → Type 0
IsFaultShown f Memory = ⊥
IsFaultShown f (Twin at major low high cipher tag) = IsExhibit f (Exhibit.Twin at major low high cipher tag)
IsFaultShown f fault = ⊤
