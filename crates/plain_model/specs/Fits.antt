-- When a reply fits the device view: its marks are those asked, and what it shows of the device is
-- what the marks say.
use Rattle.std.specs.Prelude.{ℕ, ◌≡◌, ◌<◌, ◌+◌, ◌-◌, ◌*◌, ◌^◌, nat_lt, nat_le, Bool, true, false, ◌||◌, ◌⊎◌, List, [], ◌∷◌, ◌++◌, length, take, drop, slice_get, unwrap_or, option_and_then, is_none, Option, Some, None, IsTrue, IsSome, MatchBool, MatchOption, ⊤}
use Rattle.std.specs.List.{list_any, range_with_len}
use Rattle.pmem_base.specs.declared.lines.Line.{Line}
use Rattle.pmem_base.specs.declared.commands.Posted.{Posted}
use Rattle.pmem_base.specs.declared.commands.Command.{Command}
use Rattle.pmem_base.specs.declared.commands.Command.TheVariants as Do
use Rattle.pmem_base.specs.declared.answers.Mark.{Mark}
use Rattle.pmem_base.specs.declared.answers.Mark.TheVariants.{Seal}
use Rattle.pmem_base.specs.declared.answers.Answer.{Answer}
use Rattle.pmem_base.specs.declared.answers.Answer.TheVariants as Say
use Rattle.pmem_base.specs.declared.answers.Place.{Place}
use Rattle.pmem_base.specs.Shape.{Shape, counter_window}
use Rattle.pmem_base.specs.Layout as layout
use Rattle.pmem_base.specs.Layout.{page_of, Content, data_line, tags_from, metadata, shadow, nothing, content_of}
use Rattle.pmem_base.specs.Lines.{line_at, line_of}
use Rattle.pmem_base.specs.WaitingWrites.{queue_of}
use Rattle.suite.specs.Formulas.{Formulas, cipher_of}
use Rattle.split_counters.specs.Blocks.{packed, unpacked, IsStoredBlock}
use Rattle.bonsai_tree.specs.Positions.{counter_position}
use Rattle.suite.specs.Setup.{Setup}
use Rattle.plain_model.specs.State.{Memory, PlainState, Reply, is_flagged, has_flags}
use Rattle.plain_model.specs.View.{DeviceView, OpenPage, counter_at, counter_block_of}
use Rattle.plain_model.specs.Asked.{Moment, moment_of, marks_of_write, marks_of_writes, moment_after_writes, first_of, mark_of_turn}
use Rattle.plain_model.specs.Bounds.{can_be_dirty, IsWithinBounds}

-- ---- the marks of drains and fences

-- the marks of the first n writes
abbrev pub drained_marks : Formulas → Moment → List Posted → ℕ → Option (List Mark)
drained_marks f now queue n = marks_of_writes f now (take n queue)

-- the marks of the write after them, none if its counter is exhausted
abbrev pub next_marks : Formulas → Moment → List Posted → ℕ → Option (List Mark)
next_marks f now queue n =
    option_and_then (marks_of_write f (moment_after_writes f now (take n queue))) (slice_get queue n)

-- of a reply's marks, those after the first n writes'
abbrev pub marks_in_flight : Formulas → Moment → List Posted → ℕ → List Mark → List Mark
marks_in_flight f now queue n marks = drop (length (unwrap_or (drained_marks f now queue n) [])) marks

-- the marks that the write in flight still has to make
abbrev pub marks_still_asked : Formulas → Moment → List Posted → ℕ → List Mark → List Mark
marks_still_asked f now queue n marks =
    drop (length (marks_in_flight f now queue n marks)) (unwrap_or (next_marks f now queue n) [])

-- all marks of n drained writes, and then a proper part from the front of the next write's marks, or nothing if it is spent
pub record IsStopped (f : Formulas) (now : Moment) (queue : List Posted) (n : ℕ)
    (marks : List Mark) : Type 0 where
  pub one_waits : n < length queue
  pub none_spent : IsSome (drained_marks f now queue n)
  pub all_drained :
      marks ≡ unwrap_or (drained_marks f now queue n) [] ++ marks_in_flight f now queue n marks
  pub begun :
      unwrap_or (next_marks f now queue n) []
      ≡ marks_in_flight f now queue n marks ++ marks_still_asked f now queue n marks
  pub not_done :
      IsTrue
      (is_none (next_marks f now queue n)
      || nat_lt 0 (length (marks_still_asked f now queue n marks)))

-- the next mark asked is a seal of line b, and not the write's own, which is the last
abbrev pub IsResealOf : ℕ → List Mark → Type 0
IsResealOf b (Seal at ctr cipher tag ∷ later ∷ marks) = at ≡ b
IsResealOf b marks = ⊥

-- the write in flight is shorter than a line, to line b, has no mark yet, and isn't spent
pub record IsShortWriteOf (f : Formulas) (now : Moment) (queue : List Posted) (n b : ℕ)
    (marks : List Mark) : Type 0 where
  pub short : MatchOption (slice_get queue n) ⊥ (λ write. (write.len < 64) × (write.at ≡ b))
  pub unmarked : marks_in_flight f now queue n marks ≡ []
  pub not_spent : IsSome (next_marks f now queue n)

abbrev pub IsPlaceInFlight : Formulas → Moment → List Posted → ℕ → List Mark → Place → Type 0
IsPlaceInFlight f now queue n marks (Place.Line b) =
    IsResealOf b (marks_still_asked f now queue n marks) ⊎ IsShortWriteOf f now queue n b marks
IsPlaceInFlight f now queue n marks (Place.Meta x) = marks_in_flight f now queue n marks ≡ []

-- the write after n drained ones is spent, and lies in the page
pub record IsSpentNext (f : Formulas) (now : Moment) (queue : List Posted) (n page : ℕ)
    (marks : List Mark) : Type 0 where
  pub one_waits : n < length queue
  pub all_drained : drained_marks f now queue n ≡ Some marks
  pub spent : next_marks f now queue n ≡ None
  pub its_page : MatchOption (slice_get queue n) ⊥ (λ write. page_of write.at ≡ page)

-- the marks of a drain or a fence, by its answer
abbrev pub HasWriteMarks : Formulas → Moment → List Posted → List Mark → Answer → Type 0
HasWriteMarks f now queue marks (Say.Drained steps) = drained_marks f now queue 1 ≡ Some marks
HasWriteMarks f now queue marks (Say.Fenced n steps) =
    (n ≡ length queue) × (drained_marks f now queue n ≡ Some marks)
HasWriteMarks f now queue marks (Say.CutKept n steps) =
    (unwrap_or n 0 < length queue) × (drained_marks f now queue (unwrap_or n 0 + 1) ≡ Some marks)
HasWriteMarks f now queue marks (Say.CutLost n steps) = IsStopped f now queue (unwrap_or n 0) marks
HasWriteMarks f now queue marks (Say.Refused n place steps) =
    IsStopped f now queue (unwrap_or n 0) marks
    × IsPlaceInFlight f now queue (unwrap_or n 0) marks place
HasWriteMarks f now queue marks (Say.Spent n page steps) =
    IsSpentNext f now queue (unwrap_or n 0) page marks
HasWriteMarks f now queue marks (Say.Shown exhibit) = (n : ℕ) × IsStopped f now queue n marks
HasWriteMarks f now queue marks answer = marks ≡ []

-- ---- the mark of a turn

-- the oldest open page has `left` lines not done after one more
abbrev pub IsLeftAfterTurn : Option OpenPage → ℕ → Type 0
IsLeftAfterTurn None left = ⊥
IsLeftAfterTurn (Some opened) left = length opened.left ≡ left + 1

-- b is the lowest line not done of the oldest open page
abbrev pub IsLowestLeft : Option OpenPage → Place → Type 0
IsLowestLeft (Some opened) (Place.Line b) =
    MatchOption (slice_get opened.left 0) ⊥ (λ i. b ≡ 64 * opened.page + i)
IsLowestLeft opened place = ⊥

-- the marks are the one that a turn asks
abbrev pub IsTurnMark : Formulas → Moment → List Mark → Type 0
IsTurnMark f now marks = MatchOption (mark_of_turn f now) ⊥ (λ mark. marks ≡ mark ∷ [])

abbrev pub oldest_page : Moment → Option OpenPage
oldest_page now = first_of now.view.open_pages

-- the marks of a turn, by its answer
abbrev pub HasTurnMarks : Formulas → Moment → List Mark → Answer → Type 0
HasTurnMarks f now marks (Say.Turned left steps) =
    IsTurnMark f now marks × IsLeftAfterTurn (oldest_page now) left
HasTurnMarks f now marks (Say.Cut steps) =
    IsSome (oldest_page now) × ((marks ≡ []) ⊎ IsTurnMark f now marks)
HasTurnMarks f now marks (Say.Refused n place steps) =
    (marks ≡ []) × IsLowestLeft (oldest_page now) place
HasTurnMarks f now marks (Say.Shown exhibit) = (marks ≡ []) × IsSome (oldest_page now)
HasTurnMarks f now marks Say.Idle = (marks ≡ []) × (now.view.open_pages ≡ [])
HasTurnMarks f now marks answer = marks ≡ []

-- the marks are those that the command's answer lets it have
abbrev pub HasMarks : Formulas → PlainState → DeviceView → Command → Reply → Type 0
HasMarks f state view (Do.Drain port) reply =
    HasWriteMarks f (moment_of state view) (queue_of state.queues port) reply.marks reply.answer
HasMarks f state view (Do.Fence port) reply =
    HasWriteMarks f (moment_of state view) (queue_of state.queues port) reply.marks reply.answer
HasMarks f state view Do.Turn reply =
    HasTurnMarks f (moment_of state view) reply.marks reply.answer
HasMarks f state view command reply = reply.marks ≡ []

-- ---- what a peek shows

-- memory's line a under its last counter
abbrev pub sealed_line : Formulas → Memory → DeviceView → ℕ → Line
sealed_line f memory view a = cipher_of f a (counter_at view a) (line_at memory a)

-- the tag of its last seal
abbrev pub sealed_tag : Formulas → Memory → DeviceView → ℕ → List ℕ
sealed_tag f memory view a = f.tag_of a (counter_at view a) (sealed_line f memory view a)

-- the tags of the four lines from a on
abbrev pub sealed_tags : Formulas → Memory → DeviceView → ℕ → Line
sealed_tags f memory view a =
    line_of
    (sealed_tag f memory view a ++ sealed_tag f memory view (a + 1)
    ++ sealed_tag f memory view (a + 2) ++ sealed_tag f memory view (a + 3))

abbrev pub is_any_hurt : PlainState → ℕ → Bool
is_any_hurt state a = list_any (is_flagged state.hurt) (range_with_len a 4)

-- with power on, a data line that isn't hurt shows memory's line, sealed
abbrev pub ShowsDataLine : Formulas → PlainState → DeviceView → ℕ → Line → Type 0
ShowsDataLine f state view a shown =
    state.power ≡ true → is_flagged state.hurt a ≡ false → shown ≡ sealed_line f state.memory view a

-- with power on, the tag line of the data lines from a on, none of them hurt, shows their tags
abbrev pub ShowsTagLine : Formulas → PlainState → DeviceView → ℕ → Line → Type 0
ShowsTagLine f state view a shown =
    state.power ≡ true → is_any_hurt state a ≡ false → shown ≡ sealed_tags f state.memory view a

-- with power on and nothing loose, a counter block's line that isn't named shows a stored block of its page, and if nothing is touched the
-- true one
abbrev pub ShowsCounterBlock : Shape → PlainState → DeviceView → ℕ → Line → Type 0
ShowsCounterBlock g state view page shown =
    state.power ≡ true → state.loose ≡ false
    → is_flagged state.named (layout.meta_line g (counter_position g page)) ≡ false
    → IsStoredBlock (counter_window g state.loss) (unpacked shown) (counter_block_of view page)
    × (has_flags state.touched ≡ false → shown ≡ packed (counter_block_of view page))

-- a tree node may be shown as anything
abbrev pub ShowsMetaLine : Shape → PlainState → DeviceView → ℕ → Line → Type 0
ShowsMetaLine g state view x shown =
    MatchBool (nat_le (counter_position g 0) x)
    (ShowsCounterBlock g state view (x - counter_position g 0) shown)
    ⊤

-- what a device line shows, by what the layout keeps there
abbrev pub ShowsContent : Setup → PlainState → DeviceView → Content → Line → Type 0
ShowsContent setup state view (data_line a) shown = ShowsDataLine setup.formulas state view a shown
ShowsContent setup state view (tags_from a) shown = ShowsTagLine setup.formulas state view a shown
ShowsContent setup state view (metadata x) shown = ShowsMetaLine setup.shape state view x shown
ShowsContent setup state view (shadow n) shown = ⊤
ShowsContent setup state view nothing shown = ⊤

-- ---- a reply fits

abbrev pub IsPeekTrue : Setup → PlainState → DeviceView → Command → Answer → Type 0
IsPeekTrue setup state view (Do.Peek d) (Say.Raw line) =
    ShowsContent setup state view (content_of setup.shape d) line
IsPeekTrue setup state view command answer = ⊤

-- line writes and latches are the steps, as long as their sum doesn't stand still
abbrev pub AreStepsCounted : PlainState → Answer → Type 0
AreStepsCounted state (Say.Counts counts) =
    state.steps < 2 ^ 64 - 1 → counts.writes + counts.latches ≡ state.steps
AreStepsCounted state answer = ⊤

abbrev pub IsFlushTrue : Shape → PlainState → Answer → Type 0
IsFlushTrue g state (Say.Flushed x steps) = IsTrue (can_be_dirty g state x)
IsFlushTrue g state answer = ⊤

pub record Fits (setup : Setup) (state : PlainState) (view : DeviceView) (command : Command)
    (reply : Reply) : Type 0 where
  pub marks_asked : HasMarks setup.formulas state view command reply
  pub peek_true : IsPeekTrue setup state view command reply.answer
  pub steps_counted : AreStepsCounted state reply.answer
  pub flush_true : IsFlushTrue setup.shape state reply.answer
  pub within_bounds : IsWithinBounds setup state view command reply
