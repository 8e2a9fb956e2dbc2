-- Changes of data lines, made by an engine in order: how many of their writes are done, by the answer, and all their marks.
use Rattle.std.proofs.Common.{ℕ, zero, suc, ◌≡◌, ◌<◌, ◌≤◌, ◌+◌, ◌++◌, ◌⊎◌, inl, inr, List, [], ◌∷◌, length, take, drop, Some, Result, Ok, Err, sym, ap, subst, ◌∙◌, arith}
use Rattle.std.specs.Prelude.{All, MatchOption, slice_get, option_and_then}
use Rattle.std.proofs.lemmas.List.Elements.{All-head, All-tail}
use Rattle.pmem_base.specs.declared.lines.Line.{Line}
use Rattle.pmem_base.specs.declared.lines.Ctr.{Ctr}
use Rattle.pmem_base.specs.declared.commands.Posted.{Posted}
use Rattle.pmem_base.specs.declared.answers.Mark.{Mark}
use Rattle.pmem_base.specs.Shape.{Shape}
use Rattle.pmem_base.specs.Layout.{data_lines, page_of}
use Rattle.pmem_base.specs.Lines.{line_at}
use Rattle.suite.specs.Formulas.{Formulas}
use Rattle.suite.specs.Setup.{Setup}
use Rattle.plain_model.specs.State.{Memory, memory_with}
use Rattle.plain_model.specs.Asked.{Moment, marks_of_write, marks_of_writes, moment_after_writes}
use Rattle.plain_model.specs.Fits.{next_marks, IsStopped, IsSpentNext}
use Rattle.pmem_engine.specs.declared.fault.Fault.{Fault}
use Rattle.pmem_engine.specs.declared.fault.Fault.TheVariants as Fail
use Rattle.pmem_engine.specs.Parts.{Parts}
use Rattle.pmem_engine.specs.Calls.{whole_write, HasReadLine, HasWrittenLine}
use Rattle.pmem_engine.proofs.PostedWrites.StoppedWrites.{stopped}
use Rattle.engine_lines.specs.declared.edits.Edit.{Edit}
use Rattle.engine_lines.specs.declared.edits.Edit.TheVariants as Make
use Rattle.engine_lines.specs.Lines.{done_as}
use Rattle.engine_lines.specs.Edits.{HasLinePut, HasPutRead, HasEdited, GoesOn, AreEdited, IsEditOf}
use Rattle.engine_lines.specs.Writes.{Writing, IsCutAmong, write_steps, read_steps}
use Rattle.engine_lines.proofs.EngineWrites.{after_more, memory_now, moment_now, within_done, within_cut, AreDone, AreCut, memory_done, read_line, read_done, read_cut, write_done, spent_next, spent_done, write_cut}

-- ---- the writes of changes

-- a change's, if these are the lines
abbrev pub posted_of : Memory → Edit → Posted
posted_of memory (Make.Put at line) = whole_write at line
posted_of memory (Make.Copy from at) = whole_write at (line_at memory from)

abbrev pub all_posted : Memory → List Edit → List Posted
all_posted memory [] = []
all_posted memory (edit ∷ edits) = posted_of memory edit ∷ all_posted (memory_with memory (posted_of memory edit)) edits

-- the most steps of a change: a copy reads, too
abbrev pub cost_of : Shape → Edit → ℕ
cost_of g (Make.Put at line) = write_steps g
cost_of g (Make.Copy from at) = read_steps g + write_steps g

abbrev pub cost : Shape → List Edit → ℕ
cost g [] = 0
cost g (edit ∷ edits) = cost_of g edit + cost g edits

-- ---- ends

-- this number of the writes are done
pub record AreGone (setup : Setup) (from : Parts) (queue : List Posted) (count most : ℕ) (to : Parts) : Type 0 where
  pub made : List Mark
  pub done : AreDone setup from (take count queue) made most to

-- the counter of one from the first on, and before the last, is used up
pub record IsSpentAt (setup : Setup) (from : Parts) (queue : List Posted) (first last page most : ℕ) (to : Parts) : Type 0 where
  pub count : ℕ
  pub low : first ≤ count
  pub high : count < last
  pub made : List Mark
  pub done : AreDone setup from (take count queue) made most to
  pub next : IsSpentNext setup.formulas (moment_now setup from) queue count page made

-- power was cut with this number done, from the first on
pub record IsCutAt (setup : Setup) (from : Parts) (queue : List Posted) (first last most : ℕ) (to : Parts) : Type 0 where
  pub writing : Writing
  pub low : first ≤ writing.done
  pub high : writing.done ≤ last
  pub came : IsCutAmong setup.formulas (moment_now setup from) queue writing
  pub cut : AreCut setup from (take writing.done queue) writing.made most to

-- power was cut in the next one after these
pub record IsStoppedAt (setup : Setup) (from : Parts) (queue : List Posted) (count most : ℕ) (to : Parts) : Type 0 where
  pub made : List Mark
  pub came : IsStopped setup.formulas (moment_now setup from) queue count made
  pub cut : AreCut setup from (take count queue) made most to

-- by the answer of changes whose writes are those from the first to before the last
abbrev pub EndsAt : Setup → Parts → List Posted → ℕ → ℕ → ℕ → Result (Unit {0}) Fault → Parts → Type 0
EndsAt setup from queue first last most (Ok done) to = AreGone setup from queue last most to
EndsAt setup from queue first last most (Err (Fail.Spent page)) to = IsSpentAt setup from queue first last page most to
EndsAt setup from queue first last most (Err Fail.Cut) to = IsCutAt setup from queue first last most to
EndsAt setup from queue first last most (Err fault) to = ⊥

-- ---- bounds

pub gone_within : (setup : Setup) (from : Parts) (queue : List Posted) (last last' n m : ℕ) (to : Parts) → last ≡ last' → n ≤ m
    → AreGone setup from queue last n to → AreGone setup from queue last' m to
gone_within setup from queue last last' n m to same few it =
    record {
      made = it.made;
      done =
          subst (λ k. AreDone setup from (take k queue) it.made m to) same
          (within_done setup from (take last queue) it.made n m to few it.done);
    }

-- an end of fewer changes is one of more
pub ends_within : (setup : Setup) (from : Parts) (queue : List Posted) (first first' last last' n m : ℕ) (fault : Fault) (to : Parts)
    → first' ≤ first → last ≤ last' → n ≤ m → EndsAt setup from queue first last n (Err fault) to
    → EndsAt setup from queue first' last' m (Err fault) to
ends_within setup from queue first first' last last' n m (Fail.Spent page) to lower higher few it =
    record {
      count = it.count;
      low = let low = it.low in omega (arith, low, lower);
      high = let high = it.high in omega (arith, high, higher);
      made = it.made;
      done = within_done setup from (take it.count queue) it.made n m to few it.done;
      next = it.next;
    }
ends_within setup from queue first first' last last' n m Fail.Cut to lower higher few it =
    record {
      writing = it.writing;
      low = let low = it.low in omega (arith, low, lower);
      high = let high = it.high in omega (arith, high, higher);
      came = it.came;
      cut = within_cut setup from (take it.writing.done queue) it.writing.made n m to few it.cut;
    }
ends_within setup from queue first first' last last' n m fault to lower higher few it = absurd it

-- ---- the writes of a list, one by one

-- the next one of them
record IsNextOf (queue : List Posted) (k : ℕ) (write : Posted) (rest : List Posted) : Type 0 where
  place : slice_get queue k ≡ Some write
  more : take (suc k) queue ≡ take k queue ++ write ∷ []
  waits : k < length queue
  later : drop (suc k) queue ≡ rest

next_of : (queue : List Posted) (k : ℕ) (write : Posted) (rest : List Posted) → drop k queue ≡ write ∷ rest → IsNextOf queue k write rest
next_of [] zero write rest is = absurd (omega (arith, ap length is))
next_of [] (suc k) write rest is = absurd (omega (arith, ap length is))
next_of (first ∷ queue) zero write rest is =
    record {
      place = ap (λ (l : List Posted). slice_get l 0) is;
      more = ap (take 1) is;
      waits = omega arith;
      later = ap (drop 1) is;
    }
next_of (first ∷ queue) (suc k) write rest is =
    let it = next_of queue k write rest is in
    record {
      place = it.place;
      more = ap (λ l. first ∷ l) it.more;
      waits = let waits = it.waits in omega (arith, waits);
      later = it.later;
    }

module _ (setup : Setup) (from : Parts) (queue : List Posted) where
  abbrev f : Formulas
  f = setup.formulas

  abbrev now : Moment
  now = moment_now setup from

  abbrev w : ℕ
  w = write_steps setup.shape

  abbrev r : ℕ
  r = read_steps setup.shape

  -- ---- one write

  module _ (at : ℕ) (line : Line) (k most : ℕ) (made : List Mark) (parts to : Parts) (rest : List Posted) (within : at < data_lines setup.shape)
      (done : AreDone setup from (take k queue) made most parts) (there : drop k queue ≡ whole_write at line ∷ rest) where
    abbrev write : Posted
    write = whole_write at line

    it : IsNextOf queue k write rest
    it = next_of queue k write rest there

    next_is : next_marks f now queue k ≡ marks_of_write f (moment_after_writes f now (take k queue)) write
    next_is = ap (option_and_then (marks_of_write f (moment_after_writes f now (take k queue)))) it.place

    pub write_gone : (ctr : Ctr) → HasWrittenLine setup write parts to (Ok ctr) → AreGone setup from queue (suc k) (most + w) to
    write_gone ctr written =
        record {
          made = made ++ written.made;
          done =
              subst (λ ws. AreDone setup from ws (made ++ written.made) (most + w) to) (sym it.more)
              (write_done setup from parts (take k queue) made most done write to within ctr written);
        }

    pub write_spent_next : (page : ℕ) → HasWrittenLine setup write parts to (Err (Fail.Spent page)) → IsSpentNext f now queue k page made
    write_spent_next page written =
        let none = spent_next setup from parts (take k queue) made most done write to within page written in
        record {
          one_waits = it.waits;
          all_drained = done.asked;
          spent = next_is ∙ none.0;
          its_page = subst (λ o. MatchOption o ⊥ (λ (w : Posted). page_of w.at ≡ page)) (sym it.place) (sym none.1);
        }

    -- after all of its marks, or within them
    pub write_stopped : HasWrittenLine setup write parts to (Err Fail.Cut)
        → IsCutAt setup from queue (suc k) (suc k) (most + w) to ⊎ IsStoppedAt setup from queue k (most + w) to
    write_stopped written =
        elim (write_cut setup from parts (take k queue) made most done write to within written) [
          | inl after ↦
              inl (record {
                writing = record { done = suc k; made = made ++ written.made };
                low = omega arith;
                high = omega arith;
                came = inl (let waits = it.waits in omega (arith, waits), ap (marks_of_writes f now) it.more ∙ after.asked);
                cut = subst (λ ws. AreCut setup from ws (made ++ written.made) (most + w) to) (sym it.more) after.cut;
              })
          | inr before ↦
              inr (record {
                made = made ++ written.made;
                came =
                    stopped f now queue k made written.made (marks_of_write f (moment_after_writes f now (take k queue)) write) write
                    it.place done.asked next_is before.part;
                cut = before.cut;
              })
        ]

    stopped_ends : IsCutAt setup from queue (suc k) (suc k) (most + w) to ⊎ IsStoppedAt setup from queue k (most + w) to
        → IsCutAt setup from queue k (suc k) (most + w) to
    stopped_ends (inl after) =
        ends_within setup from queue (suc k) k (suc k) (suc k) (most + w) (most + w) Fail.Cut to (omega arith) (omega arith) (omega arith) after
    stopped_ends (inr before) =
        record {
          writing = record { done = k; made = before.made };
          low = omega arith;
          high = omega arith;
          came = inr before.came;
          cut = before.cut;
        }

    pub put_goes : (answer : Result (Unit {0}) Fault) → HasLinePut setup at line parts to answer → EndsAt setup from queue k (suc k) (most + w) answer to
    put_goes answer put = subst (λ a. EndsAt setup from queue k (suc k) (most + w) a to) (sym put.its_answer) (go put.made put.was_written)
      where
        go : (made_by : Result Ctr Fault) → HasWrittenLine setup write parts to made_by
            → EndsAt setup from queue k (suc k) (most + w) (done_as made_by) to
        go (Ok ctr) written = write_gone ctr written
        go (Err (Fail.Spent page)) written =
            record {
              count = k;
              low = omega arith;
              high = omega arith;
              made = made;
              done = spent_done setup from parts (take k queue) made most done write to within page written;
              next = write_spent_next page written;
            }
        go (Err Fail.Cut) written = stopped_ends (write_stopped written)
        go (Err fault) written = absurd (written.unrefused done.sound)

  -- ---- one change

  pub edit_goes : (edit : Edit) (k most : ℕ) (made : List Mark) (parts to : Parts) (rest : List Posted) (answer : Result (Unit {0}) Fault)
      → IsEditOf (data_lines setup.shape) edit → AreDone setup from (take k queue) made most parts
      → drop k queue ≡ posted_of (memory_now setup parts) edit ∷ rest → HasEdited setup edit parts to answer
      → EndsAt setup from queue k (suc k) (most + cost_of setup.shape edit) answer to
  edit_goes (Make.Put at line) k most made parts to rest answer fit done there it = put_goes at line k most made parts to rest fit.0 done there answer it
  edit_goes (Make.Copy source at) k most made parts to rest answer fit done there it = go it.read it.was_read it.then
    where
      -- the steps of the read and of the write
      sum : (answer : Result (Unit {0}) Fault) → EndsAt setup from queue k (suc k) (most + r + w) answer to
          → EndsAt setup from queue k (suc k) (most + (r + w)) answer to
      sum answer = subst (λ n. EndsAt setup from queue k (suc k) n answer to) (omega arith)

      go : (read : Result Line Fault) → HasReadLine setup source parts it.between read → HasPutRead read setup at it.between to answer
          → EndsAt setup from queue k (suc k) (most + (r + w)) answer to
      go (Ok line) was put =
          let same : line ≡ line_at (memory_now setup parts) source =
          read_line setup from parts (take k queue) made most done source it.between line fit.0 was in
          sum answer
          (put_goes at (line_at (memory_now setup parts) source) k (most + r) made it.between to rest fit.1
          (read_done setup from parts (take k queue) made most done source it.between line was) there answer
          (subst (λ l. HasLinePut setup at l it.between to answer) same put))
      go (Err (Fail.Spent page)) was put = absurd was.possible
      go (Err Fail.Cut) was put =
          subst (λ a. EndsAt setup from queue k (suc k) (most + (r + w)) a to) (sym put.0)
          (subst (IsCutAt setup from queue k (suc k) (most + (r + w))) (sym put.1)
          (let waits = (next_of queue k (whole_write at (line_at (memory_now setup parts) source)) rest there).waits in
          let end : IsCutAt setup from queue k (suc k) (most + (r + w)) it.between =
          record {
            writing = record { done = k; made = made };
            low = omega arith;
            high = omega arith;
            came = inl (omega (arith, waits), done.asked);
            cut =
                within_cut setup from (take k queue) made (most + r) (most + (r + w)) it.between (omega arith)
                (read_cut setup from parts (take k queue) made most done source it.between was);
          } in end))
      go (Err fault) was put = absurd (was.unrefused done.sound)

  -- ---- several

  -- memory after one more
  memory_more : (k most : ℕ) (made : List Mark) (before after : Parts) (write : Posted) (rest : List Posted)
      → (moment_after_writes f now (take k queue)).memory ≡ memory_now setup before → drop k queue ≡ write ∷ rest
      → AreDone setup from (take (suc k) queue) made most after → memory_now setup after ≡ memory_with (memory_now setup before) write
  memory_more k most made before after write rest was there done =
      let its = next_of queue k write rest there in
      memory_done setup from after (take (suc k) queue) made most done
      ∙ ap (λ ws. (moment_after_writes f now ws).memory) its.more
      ∙ ap (λ (m : Moment). m.memory) (after_more f now (take k queue) write)
      ∙ ap (λ m. memory_with m write) was

  pub edits_go : (edits : List Edit) (k most : ℕ) (made : List Mark) (parts to : Parts) (tail : List Posted) (answer : Result (Unit {0}) Fault)
      → All (IsEditOf (data_lines setup.shape)) edits → AreDone setup from (take k queue) made most parts
      → drop k queue ≡ all_posted (memory_now setup parts) edits ++ tail → AreEdited setup edits parts to answer
      → EndsAt setup from queue k (k + length edits) (most + cost setup.shape edits) answer to
  edits_go [] k most made parts to tail answer fits done there it =
      subst (λ a. EndsAt setup from queue k (k + 0) (most + 0) a to) (sym it.0)
      (subst (AreGone setup from queue (k + 0) (most + 0)) (sym it.1)
      (let end : AreGone setup from queue (k + 0) (most + 0) parts =
      record {
        made = made;
        done =
            subst (λ n. AreDone setup from (take n queue) made (most + 0) parts) (omega arith)
            (within_done setup from (take k queue) made most (most + 0) parts (omega arith) done);
      } in end))
  edits_go (edit ∷ edits) k most made parts to tail answer fits done there it =
      go it.1 (λ n made_now gone place then. edits_go edits (suc k) n made_now it.0 to tail answer others gone place then) it.2 it.3
    where
      fit : IsEditOf (data_lines setup.shape) edit
      fit = All-head (IsEditOf (data_lines setup.shape)) edit edits fits

      others : All (IsEditOf (data_lines setup.shape)) edits
      others = All-tail (IsEditOf (data_lines setup.shape)) edit edits fits

      write : Posted
      write = posted_of (memory_now setup parts) edit

      rest : List Posted
      rest = all_posted (memory_with (memory_now setup parts) write) edits ++ tail

      most_of : ℕ
      most_of = most + cost_of setup.shape edit

      one : (first : Result (Unit {0}) Fault) → HasEdited setup edit parts it.0 first → EndsAt setup from queue k (suc k) most_of first it.0
      one first edited = edit_goes edit k most made parts it.0 rest first fit done there edited

      -- from the second on
      from_second : (answer : Result (Unit {0}) Fault)
          → EndsAt setup from queue (suc k) (suc k + length edits) (most_of + cost setup.shape edits) answer to
          → EndsAt setup from queue k (k + length (edit ∷ edits)) (most + cost setup.shape (edit ∷ edits)) answer to
      from_second (Ok done) gone =
          subst (λ n. AreGone setup from queue n (most + cost setup.shape (edit ∷ edits)) to) (omega arith)
          (subst (λ n. AreGone setup from queue (suc k + length edits) n to) (omega arith) gone)
      from_second (Err fault) ends =
          ends_within setup from queue (suc k) k (suc k + length edits) (k + length (edit ∷ edits)) (most_of + cost setup.shape edits)
          (most + cost setup.shape (edit ∷ edits)) fault to (omega arith) (omega arith) (omega arith) ends

      go : (first : Result (Unit {0}) Fault)
          → ((n : ℕ) (made_now : List Mark) → AreDone setup from (take (suc k) queue) made_now n it.0
          → drop (suc k) queue ≡ all_posted (memory_now setup it.0) edits ++ tail → AreEdited setup edits it.0 to answer
          → EndsAt setup from queue (suc k) (suc k + length edits) (n + cost setup.shape edits) answer to)
          → HasEdited setup edit parts it.0 first
          → GoesOn first (AreEdited setup edits it.0 to answer) it.0 to answer
          → EndsAt setup from queue k (k + length (edit ∷ edits)) (most + cost setup.shape (edit ∷ edits)) answer to
      go (Ok done_now) next edited then =
          let gone : AreGone setup from queue (suc k) most_of it.0 = one (Ok done_now) edited in
          let memory = memory_more k most_of gone.made parts it.0 write rest (sym (memory_done setup from parts (take k queue) made most done)) there gone.done in
          from_second answer
          (next most_of gone.made gone.done ((next_of queue k write rest there).later ∙ ap (λ m. all_posted m edits ++ tail) (sym memory)) then)
      go (Err fault) next edited then =
          subst (λ a. EndsAt setup from queue k (k + length (edit ∷ edits)) (most + cost setup.shape (edit ∷ edits)) a to) (sym then.0)
          (subst (EndsAt setup from queue k (k + length (edit ∷ edits)) (most + cost setup.shape (edit ∷ edits)) (Err fault)) (sym then.1)
          (ends_within setup from queue k k (suc k) (k + length (edit ∷ edits)) most_of (most + cost setup.shape (edit ∷ edits)) fault it.0
          (omega arith) (omega arith) (omega arith) (one (Err fault) edited)))
