-- What a commit with a page's new path makes: a seal of a line under its next counter, and a page's begin.
use Rattle.std.specs.Prelude.{ℕ, ◌≡◌, ◌<◌, ◌+◌, ◌-◌, ◌⊎◌, List, [], ◌∷◌, ◌++◌, length, map, drop, if◌then◌else◌, Some, IfOk, IsOk, Result, Ok, Err}
use Rattle.pmem_base.specs.declared.faults.Cut.{Cut}
use Rattle.pmem_base.specs.declared.lines.Line.{Line}
use Rattle.pmem_base.specs.declared.lines.Ctr.{Ctr}
use Rattle.pmem_base.specs.declared.registers.Progress.{Progress}
use Rattle.pmem_base.specs.declared.registers.Regs.{Regs}
use Rattle.pmem_base.specs.declared.answers.Mark.{Mark}
use Rattle.pmem_base.specs.declared.answers.Mark.TheVariants.{Begin, Seal}
use Rattle.pmem_base.specs.Shape.{Shape}
use Rattle.pmem_base.specs.Layout as layout
use Rattle.pmem_base.specs.Layout.{page_of, index_in_page}
use Rattle.pmem_base.specs.Lines.{put_lines}
use Rattle.pmem_base.specs.Registers.{IsGroup}
use Rattle.suite.specs.Formulas.{Formulas}
use Rattle.suite.specs.Setup.{Setup}
use Rattle.split_counters.specs.declared.Block.{Block}
use Rattle.split_counters.specs.Blocks.{packed, minor_of, with_minor, next_block}
use Rattle.board.specs.Device.{Device}
use Rattle.meta_cache.specs.Banks.{IsBanksOf}
use Rattle.meta_path.specs.Blocks.{IsPathCached}
use Rattle.meta_path.specs.Storing.{IsPathOf, KeepsSlots}
use Rattle.seal_ledger.specs.Ledger.{LedgerState, IsSealValue}
use Rattle.page_reencrypt.specs.Registers.{registers_with_done, begun}
use Rattle.plain_model.specs.View.{plain_line}
use Rattle.plain_model.specs.Asked.{seal_mark}
use Rattle.plain_model.specs.Bounds.{path_length, begun_lines}
use Rattle.pmem_engine.specs.declared.fault.Fault.{Fault}
use Rattle.pmem_engine.specs.declared.fault.Fault.TheVariants as Fail
use Rattle.pmem_engine.specs.declared.resealing.NextSeal.{NextSeal}
use Rattle.pmem_engine.specs.Engine.{ChipState}
use Rattle.pmem_engine.specs.Parts.{Parts, regs_of, AreTrusted}
use Rattle.pmem_engine.specs.Outcomes.{of_cut, outcome_of, is_sealed_by, OneLossEffect, TakesSteps, TakesFewer}
use Rattle.pmem_engine.specs.CallFacts.{IsPathNamedInMirror, IsBlockTrue, IsWork, grouped_lines, begin_work, seal_work, KeepsButPath, KeepsOtherMeta}
use Rattle.pmem_engine.specs.Inner.{cached_block}
use Rattle.pmem_engine.specs.Committing.{entries_of, HasGroupEnded}

-- ---- parts of a commit

-- the cache has the path's new lines, and the engine is else as it was
pub record HasStoredPath (g : Shape) (page grouped : ℕ) (lines : List (ℕ × Line)) (old new : ChipState) :
    Type 0 where
  pub path : IsPathOf g page lines
  pub shape : new.shape ≡ old.shape
  pub mirror : new.mirror ≡ old.mirror
  pub slots : KeepsSlots g page grouped lines old.cache new.cache
  pub kept : KeepsButPath g page old.cache new.cache
  pub cached : IsPathCached g new.cache page
  pub banks_before : IsBanksOf g old.cache
  pub banks : IsBanksOf g new.cache

-- the ledger has one mark more, and the path's new lines
pub record HasNotedPath (lines : List (ℕ × Line)) (mark : Mark) (old new : LedgerState) : Type 0 where
  pub marks : new.marks ≡ old.marks ++ mark ∷ []
  pub truth : new.truth ≡ put_lines lines old.truth
  pub count : length new.truth ≡ length old.truth
  pub data_lines : new.data_lines ≡ old.data_lines
  pub exhibit : new.exhibit ≡ old.exhibit

-- that many lowest lines of a path, from the top down, in their places
abbrev pub path_entries : Shape → ℕ → List (ℕ × Line) → List (ℕ × Line)
path_entries g grouped lines =
    map (λ entry. (layout.meta_line g entry.0, entry.1)) (drop (path_length g - grouped) lines)

-- a seal's group: its lines, and that many lowest lines of its page's path
abbrev pub seal_group : Shape → NextSeal → ℕ → List (ℕ × Line) → List (ℕ × Line)
seal_group g next grouped lines = entries_of g next ++ path_entries g grouped lines

-- ---- a seal

-- what both a commit and a cut during it leave of the chip
pub record HasPathSealed (g : Shape) (next : NextSeal) (grouped : ℕ) (lines : List (ℕ × Line)) (root : List ℕ)
    (old new : ChipState) (old_regs new_regs : Regs) (before after : LedgerState) : Type 0 where
  pub is_group : IsGroup (layout.device_lines g) (seal_group g next grouped lines)
  pub fits : IsSealValue next.ctr next.cipher next.tag
  pub root_now : new_regs.root ≡ root
  pub progress : new_regs.progress.items ≡ registers_with_done old_regs.progress.items next.at
  pub loss : new_regs.loss ≡ old_regs.loss
  pub stored : HasStoredPath g (page_of next.at) grouped lines old new
  pub noted : HasNotedPath lines (Seal next.at next.ctr next.cipher next.tag) before after

-- ---- a begin

-- a begin's group: the lowest lines of its page's path, at least the counter block
abbrev pub begin_group : Shape → List (ℕ × Line) → List (ℕ × Line)
begin_group g lines = path_entries g (begun_lines g) lines

pub record HasPageBegun (g : Shape) (page : ℕ) (register : Progress) (lines : List (ℕ × Line)) (root : List ℕ)
    (old new : ChipState) (old_regs new_regs : Regs) (before after : LedgerState) : Type 0 where
  pub is_group : IsGroup (layout.device_lines g) (begin_group g lines)
  pub root_now : new_regs.root ≡ root
  pub progress : new_regs.progress.items ≡ old_regs.progress.items ++ register ∷ []
  pub loss : new_regs.loss ≡ old_regs.loss
  pub stored : HasStoredPath g page (begun_lines g) lines old new
  pub noted : HasNotedPath lines (Begin page) before after

-- ---- ends

abbrev pub HasSealEnded :
    Shape → NextSeal → ℕ → List (ℕ × Line) → List ℕ → ChipState → ChipState → Device → Device
    → LedgerState → LedgerState → Result (Unit {0}) Cut → Type 0
HasSealEnded g next grouped lines root old new old_device new_device before after =
    HasGroupEnded (seal_group g next grouped lines) ((new ≡ old) × (after ≡ before))
    (HasPathSealed g next grouped lines root old new old_device.regs new_device.regs before after)
    old_device new_device

abbrev pub HasBeginEnded :
    Shape → ℕ → Progress → List (ℕ × Line) → List ℕ → ChipState → ChipState → Device → Device
    → LedgerState → LedgerState → Result (Unit {0}) Cut → Type 0
HasBeginEnded g page register lines root old new old_device new_device before after =
    HasGroupEnded (begin_group g lines) ((new ≡ old) × (after ≡ before))
    (HasPageBegun g page register lines root old new old_device.regs new_device.regs before after)
    old_device new_device

-- ---- the whole

-- the next counter of line a, and its page's counter block with it
abbrev pub next_counter_of : Shape → ChipState → ℕ → Ctr
next_counter_of g engine a =
    let block = cached_block g engine (page_of a) in
    record { major = block.major; minor = minor_of block (index_in_page a) + 1 }

abbrev pub raised_block : Shape → ChipState → ℕ → Block
raised_block g engine a =
    let block = cached_block g engine (page_of a) in
    with_minor block (index_in_page a) (minor_of block (index_in_page a) + 1)

-- the steps of a seal: four, and one for each line of the path in its group
abbrev pub seal_steps : Shape → ℕ → Ctr → ℕ
seal_steps g loss ctr = 4 + grouped_lines g loss ctr.minor

-- the marks of a seal of a plain line, by its answer
abbrev pub HasNextMarks : Formulas → ℕ → Ctr → Line → List Mark → Result Ctr Cut → Type 0
HasNextMarks f at next plain made (Ok ctr) = (ctr ≡ next) × (made ≡ seal_mark f at next plain ∷ [])
HasNextMarks f at next plain made (Err cut) = (made ≡ []) ⊎ (made ≡ seal_mark f at next plain ∷ [])

abbrev pub TakesSealSteps : ℕ → Parts → Parts → Result Ctr Cut → Type 0
TakesSealSteps n old new (Ok ctr) = TakesSteps n old.device new.device
TakesSealSteps n old new (Err cut) = TakesFewer n old.device new.device

-- a plain line was sealed under its line's next counter, or cut
pub record HasSealedNext (setup : Setup) (at : ℕ) (plain : Line) (old new : Parts) (answer : Result Ctr Cut) :
    Type 0 where
  pub made : List Mark
  pub done : OneLossEffect setup (outcome_of (of_cut answer)) made old new
  pub marks : HasNextMarks setup.formulas at (next_counter_of setup.shape old.engine at) plain made answer
  -- what was sealed is the plain line, and every other one is as it was
  pub plain_now :
      (a : ℕ)
      → plain_line setup.formulas new.ledger.marks a
      ≡ (if is_sealed_by made a then Some plain else plain_line setup.formulas old.ledger.marks a)
  pub path_cached : IsOk answer → IsPathCached setup.shape new.engine.cache (page_of at)
  pub path_named : IsOk answer → IsPathNamedInMirror setup.shape new.engine (page_of at)
  pub steps :
      TakesSealSteps (seal_steps setup.shape (regs_of old).loss (next_counter_of setup.shape old.engine at)) old new answer
  pub work : IfOk answer (λ ctr. IsWork (seal_work setup.shape (regs_of old).loss ctr) old new)
  pub cache : KeepsButPath setup.shape (page_of at) old.engine.cache new.engine.cache
  pub meta_lines : IsOk answer → KeepsOtherMeta setup.shape (page_of at) old.device.lines new.device.lines
  pub block_written :
      AreTrusted setup old → IsOk answer
      → 0 < grouped_lines setup.shape (regs_of old).loss (next_counter_of setup.shape old.engine at).minor
      → IsBlockTrue setup new (page_of at)

-- ---- a page begun

abbrev pub HasBeginMarks : ℕ → List Mark → Result Unit Fault → Type 0
HasBeginMarks page made (Ok value) = made ≡ Begin page ∷ []
HasBeginMarks page made (Err Fail.Cut) = (made ≡ []) ⊎ (made ≡ Begin page ∷ [])
HasBeginMarks page made (Err fault) = ⊥

abbrev pub TakesBeginSteps : Shape → Parts → Parts → Result Unit Fault → Type 0
TakesBeginSteps g old new (Ok value) = TakesSteps (2 + begun_lines g) old.device new.device
TakesBeginSteps g old new (Err fault) = TakesFewer (2 + begun_lines g) old.device new.device

-- the page's register stands last, and its next counter block is the cached one
pub record IsPageOpened (setup : Setup) (page : ℕ) (old new : Parts) : Type 0 where
  pub registers :
      (regs_of new).progress.items
      ≡ (regs_of old).progress.items
      ++ begun page (packed (cached_block setup.shape old.engine page)) ∷ []
  pub block :
      AreTrusted setup old
      → cached_block setup.shape new.engine page ≡ next_block (cached_block setup.shape old.engine page)
  pub block_true : AreTrusted setup old → IsBlockTrue setup new page
  pub path_cached : IsPathCached setup.shape new.engine.cache page
  pub path_named : IsPathNamedInMirror setup.shape new.engine page

pub record HasBegunPage (setup : Setup) (page : ℕ) (old new : Parts) (answer : Result Unit Fault) : Type 0 where
  pub made : List Mark
  pub done : OneLossEffect setup (outcome_of answer) made old new
  pub marks : HasBeginMarks page made answer
  pub opened : IsOk answer → IsPageOpened setup page old new
  pub steps : TakesBeginSteps setup.shape old new answer
  pub work : IsOk answer → IsWork (begin_work setup.shape 1) old new
  pub cache : KeepsButPath setup.shape page old.engine.cache new.engine.cache
  pub meta_lines : IsOk answer → KeepsOtherMeta setup.shape page old.device.lines new.device.lines
  pub reads : new.device.reads ≡ old.device.reads
  pub tags : new.tags ≡ old.tags
