-- How a call of the engine ends, and what each end leaves.
use Rattle.std.specs.Prelude.{ℕ, ◌≡◌, ◌≢◌, ◌<◌, ◌≤◌, ◌+◌, ◌==◌, ◌⊎◌, Bool, true, false, ◌&&◌, nat_lt, List, [], ◌++◌, length, is_some, IsTrue, IfSome, Result, Ok, Err, ⊤}
use Rattle.std.specs.List.{list_any}
use Rattle.pmem_base.specs.declared.answers.Mark.{Mark}
use Rattle.pmem_base.specs.declared.faults.Cut.{Cut}
use Rattle.pmem_base.specs.declared.answers.Mark.TheVariants.{Begin, Seal}
use Rattle.pmem_base.specs.Shape.{Shape, is_lazy}
use Rattle.pmem_base.specs.Layout as layout
use Rattle.pmem_base.specs.Layout.{page_of}
use Rattle.pmem_base.specs.Counts.{last_count}
use Rattle.pmem_base.specs.Lines.{line_at}
use Rattle.pmem_base.specs.Marks.{IsFresh}
use Rattle.pmem_base.specs.Registers.{IsValidRegs}
use Rattle.bonsai_tree.specs.Positions.{is_on_path, level_of}
use Rattle.board.specs.Device.{Device}
use Rattle.meta_cache.specs.Banks.{is_cached_dirty}
use Rattle.meta_path.specs.declared.faults.PathFault.{PathFault}
use Rattle.meta_path.specs.declared.faults.PathFault.TheVariants as Path
use Rattle.suite.specs.Setup.{Setup}
use Rattle.call_effects.specs.Outcomes.{Outcome, going, cut_short, shown, HasPower}
use Rattle.pmem_engine.specs.declared.fault.Fault.{Fault}
use Rattle.pmem_engine.specs.declared.fault.Fault.TheVariants as Fail
use Rattle.pmem_engine.specs.declared.fault.LineFault.{LineFault}
use Rattle.pmem_engine.specs.declared.fault.LineFault.TheVariants as AtLine
use Rattle.plain_model.specs.Bounds.{group_bound}
use Rattle.pmem_engine.specs.Invariants.{IsAnchored, stored_meta}
use Rattle.pmem_engine.specs.Parts.{Parts, regs_of, lines_redone, AreTrusted, AreSound, AreDurable, HoldsSeal, HoldsCounters, HoldsMeta, data_line_in, tag_slot_in, meta_line_in}

-- a part's fault as the engine's
abbrev pub fault_of_cut : Cut → Fault
fault_of_cut cut = Fail.Cut

abbrev pub fault_of_path : PathFault → Fault
fault_of_path Path.Cut = Fail.Cut
fault_of_path (Path.Meta x) = Fail.Meta x
fault_of_path Path.Shown = Fail.Shown

abbrev pub fault_of_line : LineFault → Fault
fault_of_line AtLine.Cut = Fail.Cut
fault_of_line (AtLine.Tag at) = Fail.Tag at
fault_of_line AtLine.Shown = Fail.Shown

-- a part's answer as the engine's
abbrev pub faulted : {T E : Type 0} → (E → Fault) → Result T E → Result T Fault
faulted its_fault (Ok value) = Ok value
faulted its_fault (Err fault) = Err (its_fault fault)

abbrev pub of_cut : {T : Type 0} → Result T Cut → Result T Fault
of_cut answer = faulted fault_of_cut answer

abbrev pub of_path : {T : Type 0} → Result T PathFault → Result T Fault
of_path answer = faulted fault_of_path answer

abbrev pub of_line : {T : Type 0} → Result T LineFault → Result T Fault
of_line answer = faulted fault_of_line answer

abbrev pub outcome_of_fault : Fault → Outcome
outcome_of_fault Fail.Cut = cut_short
outcome_of_fault Fail.Shown = shown
outcome_of_fault fault = going

abbrev pub outcome_of : {T : Type 0} → Result T Fault → Outcome
outcome_of (Ok value) = going
outcome_of (Err fault) = outcome_of_fault fault

-- ---- marks

-- whether a mark seals line a
abbrev pub is_seal_of : ℕ → Mark → Bool
is_seal_of a (Begin page) = false
is_seal_of a (Seal at ctr cipher tag) = at == a

-- whether one of these marks seals line a
abbrev pub is_sealed_by : List Mark → ℕ → Bool
is_sealed_by made a = list_any (is_seal_of a) made

-- whether a mark may leave blocks of the page's path dirty: a begin, or a seal with a minor above 0
abbrev pub is_touching : ℕ → Mark → Bool
is_touching page (Begin begun) = begun == page
is_touching page (Seal at ctr cipher tag) = page_of at == page && nat_lt 0 ctr.minor

-- x is on the path of a page that one of these marks touches, and its level is lazy
abbrev pub IsTouchedBy : Shape → List Mark → ℕ → Type 0
IsTouchedBy g made x =
    (page : ℕ) × IsTrue (list_any (is_touching page) made) × IsTrue (is_on_path g page x) × IsTrue (is_lazy g (level_of x))

-- ---- the whole

-- what is trusted afterwards; the counters are fresh in any case
abbrev pub LeavesTrusted : Setup → Outcome → Parts → Type 0
LeavesTrusted setup going new = AreTrusted setup new
LeavesTrusted setup cut_short new = IsAnchored setup (regs_of new) new.ledger
LeavesTrusted setup shown new = IsFresh new.ledger.marks

-- what is sound afterwards; no exhibit comes of what was sound
abbrev pub LeavesSound : Setup → Outcome → Parts → Type 0
LeavesSound setup going new = AreSound setup new
LeavesSound setup cut_short new = AreDurable setup new
LeavesSound setup shown new = ⊥

-- ---- place by place

-- metadata line x is the true one on the device
abbrev pub HoldsTruth : Shape → Parts → ℕ → Type 0
HoldsTruth g parts x =
    IfSome (lines_redone parts) (λ lines. stored_meta g lines x ≡ line_at parts.ledger.truth x)

-- what stays stored if these marks were made, whatever the end
pub record KeepsPlaces (setup : Setup) (made : List Mark) (old new : Parts) : Type 0 where
  -- the last seal of each data line, and each seal made
  pub seals :
      (a : ℕ) → a < layout.data_lines setup.shape
      → HoldsSeal setup.shape old a ⊎ IsTrue (is_sealed_by made a)
      → HoldsSeal setup.shape new a
  -- the data lines that no mark seals, and their tags
  pub data_lines :
      (a : ℕ) → a < layout.data_lines setup.shape → is_sealed_by made a ≡ false
      → data_line_in new a ≡ data_line_in old a
  pub tag_slots :
      (a : ℕ) → a < layout.data_lines setup.shape → is_sealed_by made a ≡ false
      → tag_slot_in setup.shape new a ≡ tag_slot_in setup.shape old a
  -- each line of a strict level that was the true one
  pub strict :
      (x : ℕ) → x < layout.meta_lines setup.shape → is_lazy setup.shape (level_of x) ≡ false
      → HoldsTruth setup.shape old x → HoldsTruth setup.shape new x

-- what the metadata lines keep, whatever the end but a cut
pub record KeepsMeta (setup : Setup) (made : List Mark) (old new : Parts) : Type 0 where
  pub true_or_dirty :
      (x : ℕ) → x < layout.meta_lines setup.shape → HoldsMeta setup.shape old x
      → HoldsMeta setup.shape new x
  -- a line that was changed
  pub changed :
      (x : ℕ) → x < layout.meta_lines setup.shape
      → (meta_line_in setup.shape new x ≡ meta_line_in setup.shape old x)
      ⊎ HoldsMeta setup.shape new x
  -- a block that is dirty
  pub dirty :
      (bank x : ℕ) → is_cached_dirty setup.shape new.engine.cache bank x ≡ true
      → (is_cached_dirty setup.shape old.engine.cache bank x ≡ true) ⊎ IsTouchedBy setup.shape made x

abbrev pub KeepsMetaWhere : Setup → Outcome → List Mark → Parts → Parts → Type 0
KeepsMetaWhere setup cut_short made old new = ⊤
KeepsMetaWhere setup outcome made old new = KeepsMeta setup made old new

-- ---- power

-- after a cut the armed group has at most as many lines as the bound
abbrev pub HasSmallGroup : Shape → Outcome → Parts → Type 0
HasSmallGroup g cut_short new = length (regs_of new).group.items ≤ group_bound g
HasSmallGroup g outcome new = ⊤

-- ---- persist steps: line writes and latches, whose counts stand still at their end

-- that many steps were taken
pub record TakesSteps (n : ℕ) (old new : Device) : Type 0 where
  pub writes : old.writes ≤ new.writes
  pub latches : old.latches ≤ new.latches
  pub sum :
      new.writes < last_count → new.latches < last_count
      → new.writes + new.latches ≡ old.writes + old.latches + n

-- at most that many
pub record TakesAtMost (n : ℕ) (old new : Device) : Type 0 where
  pub writes : old.writes ≤ new.writes
  pub latches : old.latches ≤ new.latches
  pub sum :
      new.writes < last_count → new.latches < last_count
      → new.writes + new.latches ≤ old.writes + old.latches + n

-- fewer than that many
pub record TakesFewer (n : ℕ) (old new : Device) : Type 0 where
  pub writes : old.writes ≤ new.writes
  pub latches : old.latches ≤ new.latches
  pub sum :
      new.writes < last_count → new.latches < last_count
      → new.writes + new.latches < old.writes + old.latches + n

-- a suite's count of 64 bits doesn't fall
abbrev pub NeverFalls : ℕ → ℕ → Type 0
NeverFalls old new = old ≤ last_count → (old ≤ new) × (new ≤ last_count)

-- ---- a call, or a part of one, that made these marks

pub record CallEffect (setup : Setup) (outcome : Outcome) (made : List Mark) (old new : Parts) : Type 0 where
  pub shape : new.engine.shape ≡ old.engine.shape
  pub size : new.device.size ≡ old.device.size
  pub told : is_some new.device.lines ≡ is_some old.device.lines
  pub valid : IsValidRegs setup.shape (regs_of old) → IsValidRegs setup.shape (regs_of new)
  pub group : outcome ≢ cut_short → (regs_of new).group ≡ (regs_of old).group
  pub small_group : (regs_of old).group.items ≡ [] → HasSmallGroup setup.shape outcome new
  pub power : HasPower outcome old.device new.device
  pub reads : old.device.reads ≤ new.device.reads
  pub tags : NeverFalls old.tags new.tags
  pub digests : NeverFalls old.digests new.digests
  pub marks : new.ledger.marks ≡ old.ledger.marks ++ made
  pub true_lines : length new.ledger.truth ≡ length old.ledger.truth
  pub data_lines : new.ledger.data_lines ≡ old.ledger.data_lines
  pub exhibit : outcome ≢ shown → new.ledger.exhibit ≡ old.ledger.exhibit
  pub trusted : AreTrusted setup old → LeavesTrusted setup outcome new
  pub sound : AreSound setup old → LeavesSound setup outcome new
  pub places : AreTrusted setup old → KeepsPlaces setup made old new
  pub metadata : AreTrusted setup old → KeepsMetaWhere setup outcome made old new

-- what can be mended of each counter block stays, whatever the end
abbrev pub KeepsCounters : Setup → Parts → Parts → Type 0
KeepsCounters setup old new =
    (page : ℕ) → page < layout.pages setup.shape → HoldsCounters setup old page
    → HoldsCounters setup new page

-- the same, under one stop-loss number
pub record OneLossEffect (setup : Setup) (outcome : Outcome) (made : List Mark) (old new : Parts) : Type 0 where
  pub gone : CallEffect setup outcome made old new
  pub loss : (regs_of new).loss ≡ (regs_of old).loss
  pub counters : AreTrusted setup old → KeepsCounters setup old new
