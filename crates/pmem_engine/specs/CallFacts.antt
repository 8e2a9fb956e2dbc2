-- What the relations of the engine's calls are made of: what a call asks, how it ends, its work, marks and steps.
use Rattle.std.specs.Prelude.{ℕ, Bool, ◌≡◌, ◌<◌, ◌≤◌, ◌+◌, ◌*◌, ◌%◌, ◌-◌, ◌==◌, ◌⊎◌, true, false, not, All, map, ◌||◌, ◌&&◌, nat_lt, nat_le, List, [], ◌++◌, length, unwrap_or, is_none, Option, Some, None, option_map, IsSome, IsTrue, Result, Ok, Err, MatchBool, ⊤, if◌then◌else◌}
use Rattle.pmem_base.specs.declared.lines.Line.{Line}
use Rattle.pmem_base.specs.declared.lines.Ctr.{Ctr}
use Rattle.pmem_base.specs.declared.commands.Posted.{Posted}
use Rattle.pmem_base.specs.declared.answers.Mark.{Mark}
use Rattle.pmem_base.specs.declared.answers.Place.{Place}
use Rattle.pmem_base.specs.declared.answers.Exhibit.{Exhibit}
use Rattle.pmem_base.specs.declared.answers.Exhibit.TheVariants.{Forged}
use Rattle.pmem_base.specs.Shape.{Shape, named_levels}
use Rattle.pmem_base.specs.Layout as layout
use Rattle.pmem_base.specs.Layout.{page_of}
use Rattle.pmem_base.specs.Lines.{line_at, zero_line}
use Rattle.pmem_base.specs.Counts.{risen, risen_times}
use Rattle.pmem_base.specs.Marks.{last_seal}
use Rattle.pmem_base.specs.declared.answers.Mark.TheVariants.{Begin, Seal}
use Rattle.pmem_base.specs.Registers.{IsValidRegs}
use Rattle.bonsai_tree.specs.Positions.{level_of, is_on_path, counter_position}
use Rattle.board.specs.Counts.{RisesBy}
use Rattle.board.specs.Device.{Device}
use Rattle.seal_ledger.specs.Ledger.{LedgerState}
use Rattle.meta_cache.specs.declared.slot.Slot.{Slot}
use Rattle.meta_cache.specs.Banks.{Banks, set_of, is_cached_dirty}
use Rattle.shadow_tables.specs.Entries.{slot_entry}
use Rattle.meta_path.specs.Blocks.{path_at, bank_dirty_count, dirty_count}
use Rattle.meta_path.specs.Naming.{path_number, naming_writes}
use Rattle.meta_path.specs.Storing.{IsCleaned}
use Rattle.meta_path.specs.Work.{told_line, FetchState}
use Rattle.meta_path.specs.Fetching.{absent_count, spilled, HasFetchedSets}
use Rattle.commit_regs.specs.Groups.{redone_told}
use Rattle.suite.specs.Setup.{Setup}
use Rattle.suite.specs.Formulas.{Formulas}
use Rattle.plain_model.specs.State.{Memory, memory_with}
use Rattle.plain_model.specs.View.{view_of, plain_line}
use Rattle.plain_model.specs.Asked.{Moment}
use Rattle.plain_model.specs.Bounds.{path_length, begun_lines, seal_count, begin_count, writing_bound}
use Rattle.plain_model.specs.Fits.{IsResealOf, IsLeftAfterTurn, IsLowestLeft, IsTurnMark, oldest_page}
use Rattle.pmem_engine.specs.declared.fault.Fault.{Fault}
use Rattle.pmem_engine.specs.declared.fault.Fault.TheVariants as Fail
use Rattle.pmem_engine.specs.Engine.{ChipState, EngineState}
use Rattle.pmem_engine.specs.Parts.{Parts, regs_of, HoldsSeal, meta_line_in}
use Rattle.call_effects.specs.Outcomes.{Outcome, going, cut_short, is_going}
use Rattle.pmem_engine.specs.Outcomes.{outcome_of, is_sealed_by, TakesSteps, TakesAtMost, TakesFewer}
use Rattle.pmem_engine.specs.Faults.{IsMetaRefused, IsClashShown, IsTagRefused, IsForgedShown}

-- ---- what a call asks of its parts

-- the device and its registers are of this geometry, and no group is armed, unless the engine is down
pub record IsReadyWith (g : Shape) (down : Bool) (device : Device) : Type 0 where
  pub its_size : device.size ≡ layout.device_lines g
  pub valid_regs : IsValidRegs g device.regs
  pub no_group : down ≡ false → device.regs.group.items ≡ []

-- so is the ledger, and each data line was sealed
pub record IsUsableWith (g : Shape) (down : Bool) (device : Device) (ledger : LedgerState) : Type 0 where
  pub ready : IsReadyWith g down device
  pub true_lines : length ledger.truth ≡ layout.meta_lines g
  pub line_count : ledger.data_lines ≡ layout.data_lines g
  pub each_sealed : (a : ℕ) → a < layout.data_lines g → IsSome (last_seal ledger.marks a)

abbrev pub IsReady : Shape → EngineState → Device → Type 0
IsReady g engine device = IsReadyWith g engine.down device

abbrev pub IsUsable : Shape → EngineState → Device → LedgerState → Type 0
IsUsable g engine device ledger = IsUsableWith g engine.down device ledger

-- the slot of each block of the page's path that may get dirty is named in the mirror, if there are shadow tables
pub record IsPathNamedInMirror (g : Shape) (engine : ChipState) (page : ℕ) : Type 0 where
  pub each :
      (j : ℕ) → j < named_levels g
      → slot_entry g engine.mirror j (path_number g engine.cache page j) ≡ path_at g page j + 1

-- ---- ends of a call

abbrev pub IsDownAnswer : {T : Type 0} → Result T Fault → Type 0
IsDownAnswer (Err Fail.Down) = ⊤
IsDownAnswer answer = ⊥

-- the call was done, or cut, or its line is used up: no refusal and no exhibit
abbrev pub IsUnrefused : {T : Type 0} → Result T Fault → Type 0
IsUnrefused (Ok value) = ⊤
IsUnrefused (Err Fail.Cut) = ⊤
IsUnrefused (Err (Fail.Spent page)) = ⊤
IsUnrefused answer = ⊥

-- nothing was done
pub record IsLeftAlone (old new : Parts) : Type 0 where
  pub engine : new.engine ≡ old.engine
  pub device : new.device ≡ old.device
  pub ledger : new.ledger ≡ old.ledger
  pub tags : new.tags ≡ old.tags
  pub digests : new.digests ≡ old.digests

-- A call that is guarded by the flag whether its engine is down, before and later. If the engine is up, this is promised, and it is down
-- later if the call was cut or shown. If it is down, nothing is done, and this is refused.
pub record IsGuarded (down later : Bool) (outcome : Outcome) (old new : Parts) (promised refused : Type 0) : Type 0 where
  pub did : down ≡ false → promised
  pub refuses : down ≡ true → IsLeftAlone old new × refused
  pub after : later ≡ (down || not (is_going outcome))

-- a call of the engine itself
abbrev pub IsEngineCall : {T : Type 0} → Bool → Bool → Parts → Parts → Result T Fault → Type 0 → Type 0
IsEngineCall down later old new answer promised =
    IsGuarded down later (outcome_of answer) old new promised (answer ≡ Err Fail.Down)

-- that many steps, or at a cut fewer
abbrev pub TakesWithin : Outcome → ℕ → Parts → Parts → Type 0
TakesWithin cut_short n old new = TakesFewer n old.device new.device
TakesWithin outcome n old new = TakesAtMost n old.device new.device

-- the same if the board was live; otherwise only that there are no more
abbrev pub TakesWithinOfLive : Outcome → ℕ → Parts → Parts → Type 0
TakesWithinOfLive outcome n old new =
    TakesAtMost n old.device new.device × (old.device.live ≡ true → TakesWithin outcome n old new)

-- ---- what stays, and when the path is cached

abbrev pub IsForgedExhibit : Option Exhibit → Type 0
IsForgedExhibit (Some (Forged at ctr cipher tag)) = ⊤
IsForgedExhibit exhibit = ⊥

-- the answer was decided once the path was fetched: no cut, no refusal of the path and no clash on it
abbrev pub IsPastFetch : {T : Type 0} → Parts → Parts → Result T Fault → Type 0
IsPastFetch old new (Ok value) = ⊤
IsPastFetch old new (Err (Fail.Tag b)) = ⊤
IsPastFetch old new (Err (Fail.Spent page)) = ⊤
IsPastFetch old new (Err Fail.Shown) = (old.ledger.exhibit ≡ None) × IsForgedExhibit new.ledger.exhibit
IsPastFetch old new (Err Fail.Cut) = ⊥
IsPastFetch old new (Err Fail.Down) = ⊥
IsPastFetch old new (Err (Fail.Meta x)) = ⊥

-- ---- exact work

-- an amount of work: lines read, lines written, latches, tags and digests
pub record Work : Type 0 where
  pub reads : ℕ
  pub writes : ℕ
  pub latches : ℕ
  pub tags : ℕ
  pub digests : ℕ

-- one amount, and then another
abbrev pub then_work : Work → Work → Work
then_work first second =
    record {
      reads = first.reads + second.reads;
      writes = first.writes + second.writes;
      latches = first.latches + second.latches;
      tags = first.tags + second.tags;
      digests = first.digests + second.digests;
    }

-- just so much was done; each count stands still at its end
pub record IsWork (work : Work) (old new : Parts) : Type 0 where
  pub reads : RisesBy work.reads old.device.reads new.device.reads
  pub no_read : work.reads ≡ 0 → new.device.reads ≡ old.device.reads
  pub writes : RisesBy work.writes old.device.writes new.device.writes
  pub no_write : work.writes ≡ 0 → new.device.writes ≡ old.device.writes
  pub latches : RisesBy work.latches old.device.latches new.device.latches
  pub no_latch : work.latches ≡ 0 → new.device.latches ≡ old.device.latches
  pub tags : new.tags ≡ risen_times work.tags old.tags
  pub digests : new.digests ≡ risen_times work.digests old.digests

-- ---- the exact work of a fetch

-- the cache, the board and the count of digests, as a fetch sees them
abbrev pub fetch_state : Shape → Parts → FetchState
fetch_state g parts =
    record {
      cache = record { shape = g; banks = parts.engine.cache };
      device = parts.device;
      digests = parts.digests;
    }

-- how many blocks of the page's path aren't cached: as many lines are read and digests made to fetch it
abbrev pub path_absent : Shape → Parts → ℕ → ℕ
path_absent g parts page = absent_count g parts.engine.cache page (path_length g)

-- the dirty blocks that are evicted for those, by place and line: that many lines are written to fetch it
abbrev pub path_spilled : Shape → Parts → ℕ → List (ℕ × Line)
path_spilled g parts page = spilled g parts.engine.cache page (path_length g)

-- each block that wasn't cached takes a read and a digest, each that gives way dirty a line write
abbrev pub fetch_work : Shape → Parts → ℕ → Work
fetch_work g parts page =
    record {
      reads = path_absent g parts page;
      writes = length (path_spilled g parts page);
      latches = 0;
      tags = 0;
      digests = path_absent g parts page;
    }

-- The cache once the page's path is fetched, by the cache as it was: a block that was cached is its
-- set's most recently used one; each other one came in for the least recently used one.
abbrev pub IsPathFetchedInto : Shape → ℕ → Parts → Banks → Type 0
IsPathFetchedInto g page old fetched =
    HasFetchedSets g old.ledger.truth page (path_length g) (record { shape = g; banks = old.engine.cache })
    (record { shape = g; banks = fetched })

abbrev pub IsPathFetched : Shape → ℕ → Parts → Parts → Type 0
IsPathFetched g page old new = IsPathFetchedInto g page old new.engine.cache

-- ---- the lines of a path in a group

-- how many of a path's lowest lines stand in the group of a seal with this minor: those that the policy persists, and at
-- least the counter block if the stop-loss number divides the minor
abbrev pub grouped_lines : Shape → ℕ → ℕ → ℕ
grouped_lines g loss minor = if minor % loss == 0 then begun_lines g else g.persist

-- ---- the exact work of unsealing and sealing

-- that many lines unsealed: for each the line and its tag line are read, and a tag is made
abbrev pub unseal_work : ℕ → Work
unseal_work n = record { reads = 2 * n; writes = 0; latches = 0; tags = n; digests = 0 }

-- that many held lines resealed: each is unsealed, and its group has the line and its tag line
abbrev pub reseal_work : ℕ → Work
reseal_work n = record { reads = 2 * n; writes = 2 * n; latches = 2 * n; tags = 2 * n; digests = 0 }

-- that many shadow lines written
abbrev pub naming_work : ℕ → Work
naming_work n = record { reads = 0; writes = n; latches = 0; tags = 0; digests = 0 }

-- that many pages begun: for each the path is made again, and the group has its lowest lines
abbrev pub begin_work : Shape → ℕ → Work
begin_work g n =
    record { reads = 0; writes = begun_lines g * n; latches = 2 * n; tags = 0; digests = path_length g * n }

-- a line sealed under its next counter: the path is made again, and the tag line is read; the group has the line, its tag line, and
-- the lowest lines of the path
abbrev pub seal_work : Shape → ℕ → Ctr → Work
seal_work g loss ctr =
    record {
      reads = 1;
      writes = 2 + grouped_lines g loss ctr.minor;
      latches = 2;
      tags = 1;
      digests = path_length g;
    }

-- ---- reads

-- the answers that a read may give, whatever the chip is
abbrev pub IsAnswerOfRead : Result Line Fault → Type 0
IsAnswerOfRead (Err (Fail.Spent page)) = ⊥
IsAnswerOfRead answer = ⊤

-- the exact work of a read that is answered, by the cache as it was: a fetch, and a line unsealed
pub record IsReadWork (g : Shape) (a : ℕ) (old new : Parts) : Type 0 where
  pub cache : IsPathFetched g (page_of a) old new
  pub lines : new.device.lines ≡ redone_told (path_spilled g old (page_of a)) old.device.lines
  pub work : IsWork (then_work (fetch_work g old (page_of a)) (unseal_work 1)) old new

-- what a read's answer says, from a trusted chip on
abbrev pub AnswersRead : Setup → ℕ → Parts → Parts → Result Line Fault → Type 0
AnswersRead setup a old new (Ok line) =
    (plain_line setup.formulas old.ledger.marks a ≡ Some line) × HoldsSeal setup.shape new a
AnswersRead setup a old new (Err Fail.Cut) = ⊤
AnswersRead setup a old new (Err (Fail.Meta x)) = IsMetaRefused setup (page_of a) x old new
AnswersRead setup a old new (Err (Fail.Tag b)) = (b ≡ a) × IsTagRefused setup a new
AnswersRead setup a old new (Err Fail.Shown) =
    IsClashShown setup (page_of a) old new ⊎ IsForgedShown setup a new
AnswersRead setup a old new (Err (Fail.Spent page)) = ⊥
AnswersRead setup a old new (Err Fail.Down) = ⊥

-- ---- turns

abbrev pub IsMemory : Setup → Memory → Parts → Type 0
IsMemory setup memory parts =
    (a : ℕ) → a < layout.data_lines setup.shape
    → plain_line setup.formulas parts.ledger.marks a ≡ Some (line_at memory a)

-- the plain memory of a ledger, and the view of its marks
abbrev pub moment_in : Setup → Memory → Parts → Moment
moment_in setup memory parts =
    record { memory = memory; view = view_of setup.shape parts.ledger.marks }

-- the marks of a turn, by its answer
abbrev pub AreMarksOfTurn : Formulas → Moment → List Mark → Result (Option (ℕ × ℕ)) Fault → Type 0
AreMarksOfTurn f now made (Ok None) = (made ≡ []) × (now.view.open_pages ≡ [])
AreMarksOfTurn f now made (Ok (Some turned)) =
    IsTurnMark f now made × IsLowestLeft (oldest_page now) (Place.Line turned.0)
    × IsLeftAfterTurn (oldest_page now) turned.1
AreMarksOfTurn f now made (Err Fail.Cut) = IsSome (oldest_page now) × ((made ≡ []) ⊎ IsTurnMark f now made)
AreMarksOfTurn f now made (Err (Fail.Tag b)) = (made ≡ []) × IsLowestLeft (oldest_page now) (Place.Line b)
AreMarksOfTurn f now made (Err Fail.Shown) = (made ≡ []) × IsSome (oldest_page now)
AreMarksOfTurn f now made (Err (Fail.Meta x)) = ⊥
AreMarksOfTurn f now made (Err (Fail.Spent page)) = ⊥
AreMarksOfTurn f now made (Err Fail.Down) = ⊥

-- an exhibit of a turn is a forged seal of the lowest line not done of the oldest page
pub record IsForgedInTurn (setup : Setup) (old new : Parts) : Type 0 where
  pub at : ℕ
  pub lowest :
      IsLowestLeft (oldest_page (moment_in setup [] old)) (Place.Line at)
  pub forged : IsForgedShown setup at new

-- the answers that a turn may give, whatever the chip is
abbrev pub IsAnswerOfTurn : Result (Option (ℕ × ℕ)) Fault → Type 0
IsAnswerOfTurn (Err (Fail.Meta x)) = ⊥
IsAnswerOfTurn (Err (Fail.Spent page)) = ⊥
IsAnswerOfTurn answer = ⊤

abbrev pub AnswersTurn : Setup → Parts → Parts → Result (Option (ℕ × ℕ)) Fault → Type 0
AnswersTurn setup old new (Err (Fail.Tag b)) = IsTagRefused setup b new
AnswersTurn setup old new (Err Fail.Shown) = IsForgedInTurn setup old new
AnswersTurn setup old new answer = ⊤

-- the exact work of a turn that seals a line
abbrev pub IsTurnWork : Parts → Parts → Type 0
IsTurnWork old new = IsWork (reseal_work 1) old new

-- the steps, reads, tags and digests of a turn
abbrev pub CountsTurn : Parts → Parts → Result (Option (ℕ × ℕ)) Fault → Type 0
CountsTurn old new (Ok None) = IsLeftAlone old new
CountsTurn old new (Ok (Some turned)) =
    TakesSteps 4 old.device new.device × RisesBy 2 old.device.reads new.device.reads
    × (new.tags ≡ risen (risen old.tags))
CountsTurn old new (Err Fail.Cut) = TakesFewer 4 old.device new.device
CountsTurn old new (Err fault) = TakesSteps 0 old.device new.device

-- ---- flushes

abbrev pub AnswersFlush : Shape → Parts → Parts → Result (Option ℕ) Fault → Type 0
AnswersFlush g old new (Ok None) =
    IsLeftAlone old new
    × ((bank x : ℕ) → is_cached_dirty g old.engine.cache bank x ≡ false)
AnswersFlush g old new (Ok (Some x)) =
    (is_cached_dirty g old.engine.cache (level_of x) x ≡ true)
    × (is_cached_dirty g new.engine.cache (level_of x) x ≡ false)
    × (x < layout.meta_lines g)
    × TakesSteps 1 old.device new.device
AnswersFlush g old new (Err Fail.Cut) =
    ((bank : ℕ) × (x : ℕ) × (is_cached_dirty g old.engine.cache bank x ≡ true))
    × TakesSteps 0 old.device new.device
AnswersFlush g old new (Err fault) = ⊥

-- the exact work of a flush: the named block's line is written to its place, and its mark cleared
abbrev pub IsFlushWork : Shape → Option ℕ → Parts → Parts → Type 0
IsFlushWork g None old new = new.engine.cache ≡ old.engine.cache
IsFlushWork g (Some x) old new =
    IsCleaned g (level_of x) x (record { shape = g; banks = old.engine.cache })
    (record { shape = g; banks = new.engine.cache }) old.device new.device

-- ---- writes

-- a write of a whole line
abbrev pub whole_write : ℕ → Line → Posted
whole_write a line = record { at = a; from = 0; len = 64; line = line }

-- memory afterwards: with the write if its own seal was made
abbrev pub memory_after : Memory → Posted → List Mark → Memory
memory_after memory write made = if is_sealed_by made write.at then memory_with memory write else memory

-- made is a prefix of the marks asked, but not all of them; none of a write that is spent
pub record IsPartOf (asked : Option (List Mark)) (made : List Mark) : Type 0 where
  pub left : List Mark
  pub front : unwrap_or asked [] ≡ made ++ left
  pub not_all : IsTrue (is_none asked || nat_lt 0 (length left))

-- line b is the one to be sealed next, before the write's own seal; or it is the line of a write
-- shorter than a line, which isn't spent and has no mark yet
abbrev pub IsRefusedLine : Option (List Mark) → List Mark → Posted → ℕ → Type 0
IsRefusedLine asked made write b =
    ((part : IsPartOf asked made) × IsResealOf b part.left)
    ⊎ ((write.len < 64) × (b ≡ write.at) × (made ≡ []) × IsSome asked)

-- the marks of a write, by its answer
abbrev pub AreMarksOfWrite : Option (List Mark) → List Mark → Posted → Result Ctr Fault → Type 0
AreMarksOfWrite asked made write (Ok ctr) = asked ≡ Some made
AreMarksOfWrite asked made write (Err Fail.Cut) = (asked ≡ Some made) ⊎ IsPartOf asked made
AreMarksOfWrite asked made write (Err (Fail.Meta x)) = made ≡ []
AreMarksOfWrite asked made write (Err (Fail.Tag b)) = IsRefusedLine asked made write b
AreMarksOfWrite asked made write (Err Fail.Shown) = IsPartOf asked made
AreMarksOfWrite asked made write (Err (Fail.Spent page)) =
    (asked ≡ None) × (made ≡ []) × (page ≡ page_of write.at)
AreMarksOfWrite asked made write (Err Fail.Down) = ⊥

-- an exhibit of a write: a clash on its path before any mark, or a forged seal of a line that could
-- be refused
pub record IsForgedInWrite (setup : Setup) (asked : Option (List Mark)) (made : List Mark)
    (write : Posted) (new : Parts) : Type 0 where
  pub at : ℕ
  pub refusable : IsRefusedLine asked made write at
  pub forged : IsForgedShown setup at new

abbrev pub AnswersWrite :
    Setup → Option (List Mark) → List Mark → Posted → Parts → Parts → Result Ctr Fault → Type 0
AnswersWrite setup asked made write old new (Ok ctr) =
    option_map (λ seal. seal.ctr) (last_seal new.ledger.marks write.at) ≡ Some ctr
AnswersWrite setup asked made write old new (Err (Fail.Meta x)) =
    IsMetaRefused setup (page_of write.at) x old new
AnswersWrite setup asked made write old new (Err (Fail.Tag b)) = IsTagRefused setup b new
AnswersWrite setup asked made write old new (Err Fail.Shown) =
    ((made ≡ []) × IsClashShown setup (page_of write.at) old new)
    ⊎ IsForgedInWrite setup asked made write new
AnswersWrite setup asked made write old new answer = ⊤

-- whether metadata line x is among that many lowest lines of the page's path
abbrev pub is_grouped : Shape → ℕ → ℕ → ℕ → Bool
is_grouped g page grouped x = is_on_path g page x && nat_le (path_length g - grouped) (level_of x)

-- the page's counter block is true on the device, and not dirty in the cache
pub record IsBlockTrue (setup : Setup) (new : Parts) (page : ℕ) : Type 0 where
  pub line :
      meta_line_in setup.shape new (counter_position setup.shape page)
      ≡ option_map (λ lines. line_at new.ledger.truth (counter_position setup.shape page)) new.device.lines
  pub clean :
      is_cached_dirty setup.shape new.engine.cache setup.shape.levels (counter_position setup.shape page) ≡ false

-- ---- the marks of a write, whatever the chip is

-- a mark begins a page, or seals a line under the minor 0
abbrev pub IsUnderMinorZero : Mark → Type 0
IsUnderMinorZero (Begin page) = ⊤
IsUnderMinorZero (Seal at ctr cipher tag) = ctr.minor ≡ 0

abbrev pub AreUnderMinorZero : List Mark → Type 0
AreUnderMinorZero made = All IsUnderMinorZero made

-- a mark is the write's own seal of its line, whose minor is above 0
abbrev pub IsOwnSeal : ℕ → Mark → Type 0
IsOwnSeal at (Begin page) = ⊥
IsOwnSeal at (Seal line ctr cipher tag) = (line ≡ at) × (0 < ctr.minor)

-- at most 65 marks under the minor 0, and then the write's own seal, if it was made
pub record AreInWriteOrder (at : ℕ) (made : List Mark) : Type 0 where
  pub before : List Mark
  pub own : List Mark
  pub both : made ≡ before ++ own
  pub few_before : length before ≤ 65
  pub minors : AreUnderMinorZero before
  pub one_own : length own ≤ 1
  pub its_seal : All (IsOwnSeal at) own

-- ---- the names of a write

-- the bound of a write that makes these marks
abbrev pub write_bound : Shape → List Mark → ℕ
write_bound g marks = writing_bound g 1 marks

-- a write that is spent makes the steps of its path alone
abbrev pub TakesSpent : Shape → Outcome → Parts → Parts → Type 0
TakesSpent g outcome old new =
    TakesWithin outcome (path_length g) old new
    × TakesWithinOfLive outcome (dirty_count g old.engine.cache) old new

abbrev pub TakesOfWrite :
    Shape → Option (List Mark) → List Mark → Parts → Parts → Result Ctr Fault → Type 0
TakesOfWrite g asked made old new (Ok ctr) = TakesAtMost (write_bound g made) old.device new.device
TakesOfWrite g (Some marks) made old new (Err Fail.Cut) =
    TakesFewer (write_bound g marks) old.device new.device
TakesOfWrite g None made old new (Err Fail.Cut) = TakesSpent g cut_short old new
TakesOfWrite g asked made old new (Err (Fail.Spent page)) = TakesSpent g going old new
TakesOfWrite g asked made old new (Err fault) =
    TakesAtMost (write_bound g made) old.device new.device

-- ---- the exact work of a write

-- a slot, without its line and its mark if it has position x
abbrev pub masked : ℕ → Slot → Slot
masked x slot = if slot.position == x then record slot { line = zero_line; dirty = false } else slot

-- No block came in or gave way: each set has its slots and its order of use still, and they have their
-- lines and marks, those of the page's path aside.
abbrev pub KeepsButPath : Shape → ℕ → Banks → Banks → Type 0
KeepsButPath g page old new =
    (bank set : ℕ)
    → map (masked (path_at g page bank)) (set_of new bank set)
    ≡ map (masked (path_at g page bank)) (set_of old bank set)

-- each metadata line is as it was
abbrev pub KeepsMetaLines : Shape → Option (List Line) → Option (List Line) → Type 0
KeepsMetaLines g old new =
    (x : ℕ) → x < layout.meta_lines g
    → told_line new (layout.meta_line g x) ≡ told_line old (layout.meta_line g x)

-- so is each one but the lowest lines of the page's path that stand in a group
abbrev pub KeepsOtherMeta : Shape → ℕ → Option (List Line) → Option (List Line) → Type 0
KeepsOtherMeta g page old new =
    (x : ℕ) → x < layout.meta_lines g → is_grouped g page (begun_lines g) x ≡ false
    → told_line new (layout.meta_line g x) ≡ told_line old (layout.meta_line g x)

-- a write that is shorter than a line unseals it
abbrev pub unsealed_count : Posted → ℕ
unsealed_count write = if nat_lt write.len 64 then 1 else 0

-- how many shadow lines are written to name the page's path, by the cache once it is fetched: none without shadow tables
abbrev pub path_unnamed : Shape → Parts → ℕ → Banks → ℕ
path_unnamed g old page fetched = length (naming_writes g fetched page old.engine.mirror (named_levels g))

-- what a write does, part by part: the path is fetched, the line unsealed, a page finished, the path
-- named, the page begun, and the line sealed; the marks made are the seals and the begin of these parts
abbrev pub write_work : Shape → Posted → Ctr → List Mark → Parts → Banks → Work
write_work g write ctr made old fetched =
    then_work
    (then_work
    (then_work
    (then_work
    (then_work (fetch_work g old (page_of write.at)) (unseal_work (unsealed_count write)))
    (reseal_work (seal_count made - 1)))
    (naming_work (path_unnamed g old (page_of write.at) fetched)))
    (begin_work g (begin_count made)))
    (seal_work g (regs_of old).loss ctr)

-- the exact work of a write that is answered, by the cache as it was
pub record IsWriteWork (g : Shape) (write : Posted) (ctr : Ctr) (made : List Mark) (old new : Parts) : Type 0 where
  -- the cache once the path is fetched, and afterwards
  pub fetched : Banks
  pub path_fetched : IsPathFetchedInto g (page_of write.at) old fetched
  pub cache : KeepsButPath g (page_of write.at) fetched new.engine.cache
  -- of the metadata lines, the blocks that gave way are written, and the page's counter block may be
  pub lines :
      KeepsOtherMeta g (page_of write.at) (redone_told (path_spilled g old (page_of write.at)) old.device.lines)
      new.device.lines
  pub work : IsWork (write_work g write ctr made old fetched) old new

-- ---- the stop-loss number

-- how many steps it takes: none if it is the present one, one if it is greater, else one more than there are dirty counter blocks
abbrev pub AreStepsOfLoss : ℕ → ℕ → ℕ → ℕ → Type 0
AreStepsOfLoss dirty old_loss n steps =
    MatchBool (n == old_loss) (steps ≡ 0)
    (MatchBool (nat_lt old_loss n) (steps ≡ 1) (steps ≡ dirty + 1))

-- ends before the last of those steps
abbrev pub IsCutInLoss : ℕ → ℕ → ℕ → Parts → Parts → Type 0
IsCutInLoss dirty old_loss n old new =
    MatchBool (n == old_loss) ⊥
    (MatchBool (nat_lt old_loss n) (TakesFewer 1 old.device new.device)
    (TakesFewer (dirty + 1) old.device new.device))

abbrev pub AnswersLoss : Shape → ℕ → Parts → Parts → Result ℕ Fault → Type 0
AnswersLoss g n old new (Ok steps) =
    AreStepsOfLoss (bank_dirty_count g old.engine.cache g.levels) (regs_of old).loss n steps
    × TakesSteps steps old.device new.device × ((regs_of new).loss ≡ n)
AnswersLoss g n old new (Err Fail.Cut) =
    IsCutInLoss (bank_dirty_count g old.engine.cache g.levels) (regs_of old).loss n old new
    × ((regs_of new).loss ≡ (regs_of old).loss)
AnswersLoss g n old new (Err fault) = ⊥
