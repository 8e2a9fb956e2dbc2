-- The engine's calls of a command, one after the other: the marks, memory and steps of those that are done, and what a cut leaves.
use Rattle.std.proofs.Common.{ℕ, ◌≡◌, ◌<◌, ◌≤◌, ◌+◌, ◌-◌, ◌*◌, ◌++◌, ◌⊎◌, inl, inr, true, false, cond, List, [], ◌∷◌, length, mul-le-mul_left, Option, Some, None, Result, Ok, Err, refl, sym, ap, ap₂, subst, ◌∙◌, arith, rules}
use Rattle.std.specs.Prelude.{unwrap_or, option_map}
use Rattle.std.proofs.lemmas.List.{append-nil, append_assoc, length-set}
use Rattle.pmem_base.specs.declared.lines.Line.{Line}
use Rattle.pmem_base.specs.declared.lines.Ctr.{Ctr}
use Rattle.pmem_base.specs.declared.commands.Posted.{Posted}
use Rattle.pmem_base.specs.declared.answers.Mark.{Mark}
use Rattle.pmem_base.specs.Layout as layout
use Rattle.pmem_base.specs.Layout.{page_of}
use Rattle.pmem_base.specs.Lines.{line_at}
use Rattle.pmem_base.specs.WaitingWrites.{put_write}
use Rattle.board.specs.Device.{Device}
use Rattle.suite.specs.Formulas.{Formulas}
use Rattle.suite.specs.Setup.{Setup}
use Rattle.plain_model.specs.State.{Memory, memory_with}
use Rattle.plain_model.specs.View.{DeviceView, IsMemoryOf, start_view, view_of, view_after_marks, plain_memory}
use Rattle.plain_model.specs.Asked.{Moment, marks_of_write, marks_of_writes, moment_after, moment_after_writes}
use Rattle.plain_model.specs.Bounds.{path_length, begun_lines, path_mark_count, writing_bound, group_bound}
use Rattle.plain_model.proofs.PlainMemory.{memory_is}
use Rattle.plain_model.proofs.Views.{view_after_marks-append}
use Rattle.plain_model.proofs.WriteMarks.{marks_of_writes-more}
use Rattle.pmem_engine.specs.declared.fault.Fault.{Fault}
use Rattle.pmem_engine.specs.declared.fault.Fault.TheVariants as Fail
use Rattle.pmem_engine.specs.Parts.{Parts, regs_of, AreTrusted, AreSound, AreDurable}
use Rattle.call_effects.specs.Outcomes.{going, cut_short}
use Rattle.pmem_engine.specs.Outcomes.{is_sealed_by, OneLossEffect, TakesAtMost, TakesFewer}
use Rattle.pmem_engine.specs.Calls.{IsMemory, IsPartOf, TakesOfWrite, moment_in, HasReadLine, HasWrittenLine}
use Rattle.pmem_engine.proofs.Laws.PolicyBounds.{begun_some}
use Rattle.pmem_engine.proofs.CallEnds.StillParts.{sound_trusted}
use Rattle.engine_lines.specs.Writes.{write_steps, read_steps}
use Rattle.engine_lines.proofs.SealedLines.{places_of, sealed_in}
use Rattle.engine_lines.proofs.AskedWrites.{asked_are, few_asked, few_paths_asked, asked_sealed, part_apart}

-- ---- plain memory, as the marks have it

abbrev pub memory_now : Setup → Parts → Memory
memory_now setup parts = plain_memory setup parts.ledger.marks

abbrev pub moment_now : Setup → Parts → Moment
moment_now setup parts = moment_in setup (memory_now setup parts) parts

pub memory_of : (setup : Setup) (parts : Parts) → AreTrusted setup parts → IsMemoryOf setup parts.ledger.marks (memory_now setup parts)
memory_of setup parts trusted =
    places_of setup parts.ledger.marks (sealed_in setup (regs_of parts) parts.ledger trusted.anchored)

-- ---- steps of calls add up

most_more : (a b c : Device) (n m : ℕ) → TakesAtMost n a b → TakesAtMost m b c → TakesAtMost (n + m) a c
most_more a b c n m first later =
    record {
      writes = let one = first.writes in let two = later.writes in omega (arith, one, two);
      latches = let one = first.latches in let two = later.latches in omega (arith, one, two);
      sum =
          λ writes latches.
          let one = first.sum (let two = later.writes in omega (arith, two, writes)) (let two = later.latches in omega (arith, two, latches)) in
          let two = later.sum writes latches in
          omega (arith, one, two);
    }

fewer_more : (a b c : Device) (n m : ℕ) → TakesAtMost n a b → TakesFewer m b c → TakesFewer (n + m) a c
fewer_more a b c n m first later =
    record {
      writes = let one = first.writes in let two = later.writes in omega (arith, one, two);
      latches = let one = first.latches in let two = later.latches in omega (arith, one, two);
      sum =
          λ writes latches.
          let one = first.sum (let two = later.writes in omega (arith, two, writes)) (let two = later.latches in omega (arith, two, latches)) in
          let two = later.sum writes latches in
          omega (arith, one, two);
    }

pub fewer_within : (a b : Device) (n m : ℕ) → n ≤ m → TakesFewer n a b → TakesFewer m a b
fewer_within a b n m few it =
    record {
      writes = it.writes;
      latches = it.latches;
      sum = λ writes latches. let one = it.sum writes latches in omega (arith, one, few);
    }

pub most_within : (a b : Device) (n m : ℕ) → n ≤ m → TakesAtMost n a b → TakesAtMost m a b
most_within a b n m few it =
    record {
      writes = it.writes;
      latches = it.latches;
      sum = λ writes latches. let one = it.sum writes latches in omega (arith, one, few);
    }

-- ---- the calls that are done

-- these writes were done, with these marks, in at most this number of steps, and all is sound
pub record AreDone (setup : Setup) (from : Parts) (writes : List Posted) (made : List Mark) (most : ℕ) (to : Parts) : Type 0 where
  pub asked : marks_of_writes setup.formulas (moment_now setup from) writes ≡ Some made
  pub moment : moment_now setup to ≡ moment_after_writes setup.formulas (moment_now setup from) writes
  pub marks : to.ledger.marks ≡ from.ledger.marks ++ made
  pub loss : (regs_of to).loss ≡ (regs_of from).loss
  pub sound : AreSound setup to
  pub live : to.device.live ≡ true
  pub takes : TakesAtMost most from.device to.device

pub none_done : (setup : Setup) (from : Parts) → AreSound setup from → from.device.live ≡ true → AreDone setup from [] [] 0 from
none_done setup from sound live =
    record {
      asked = refl;
      moment = refl;
      marks = sym (append-nil from.ledger.marks);
      loss = refl;
      sound = sound;
      live = live;
      takes = record { writes = omega arith; latches = omega arith; sum = λ writes latches. omega arith };
    }

-- power was cut, with these writes done, these marks made, and fewer than this number of steps
pub record AreCut (setup : Setup) (from : Parts) (writes : List Posted) (made : List Mark) (most : ℕ) (to : Parts) : Type 0 where
  pub memory : memory_now setup to ≡ (moment_after_writes setup.formulas (moment_now setup from) writes).memory
  pub marks : to.ledger.marks ≡ from.ledger.marks ++ made
  pub loss : (regs_of to).loss ≡ (regs_of from).loss
  pub durable : AreDurable setup to
  pub dark : to.device.live ≡ false
  pub small_group : length (regs_of to).group.items ≤ group_bound setup.shape
  pub takes : TakesFewer most from.device to.device

-- a write was cut after its own seal, or before it
pub record IsCutAfter (setup : Setup) (from : Parts) (writes : List Posted) (made : List Mark) (write : Posted) (more : List Mark) (most : ℕ)
    (to : Parts) : Type 0 where
  pub asked : marks_of_writes setup.formulas (moment_now setup from) (writes ++ write ∷ []) ≡ Some (made ++ more)
  pub cut : AreCut setup from (writes ++ write ∷ []) (made ++ more) most to

pub record IsCutBefore (setup : Setup) (from : Parts) (writes : List Posted) (made : List Mark) (write : Posted) (more : List Mark) (most : ℕ)
    (to : Parts) : Type 0 where
  pub part :
      IsPartOf (marks_of_write setup.formulas (moment_after_writes setup.formulas (moment_now setup from) writes) write) more
  pub apart : is_sealed_by more write.at ≡ false
  pub cut : AreCut setup from writes (made ++ more) most to

-- ---- bounds

pub within_done : (setup : Setup) (from : Parts) (writes : List Posted) (made : List Mark) (n m : ℕ) (to : Parts) → n ≤ m
    → AreDone setup from writes made n to → AreDone setup from writes made m to
within_done setup from writes made n m to few it =
    record {
      asked = it.asked;
      moment = it.moment;
      marks = it.marks;
      loss = it.loss;
      sound = it.sound;
      live = it.live;
      takes = most_within from.device to.device n m few it.takes;
    }

pub within_cut : (setup : Setup) (from : Parts) (writes : List Posted) (made : List Mark) (n m : ℕ) (to : Parts) → n ≤ m
    → AreCut setup from writes made n to → AreCut setup from writes made m to
within_cut setup from writes made n m to few it =
    record {
      memory = it.memory;
      marks = it.marks;
      loss = it.loss;
      durable = it.durable;
      dark = it.dark;
      small_group = it.small_group;
      takes = fewer_within from.device to.device n m few it.takes;
    }

-- ---- after a list that is done

pub after_more : (f : Formulas) (now : Moment) (writes : List Posted) (write : Posted)
    → moment_after_writes f now (writes ++ write ∷ []) ≡ moment_after f (moment_after_writes f now writes) write
after_more f now [] write = refl
after_more f now (first ∷ writes) write = after_more f (moment_after f now first) writes write

module _ (setup : Setup) (from parts : Parts) (writes : List Posted) (made : List Mark) (most : ℕ) (done : AreDone setup from writes made most parts) where
  abbrev f : Formulas
  f = setup.formulas

  abbrev now : Moment
  now = moment_now setup from

  trusted : AreTrusted setup parts
  trusted = sound_trusted setup parts done.sound

  whole : IsMemoryOf setup parts.ledger.marks (memory_now setup parts)
  whole = memory_of setup parts trusted

  pub memory_done : memory_now setup parts ≡ (moment_after_writes f now writes).memory
  memory_done = ap (λ (m : Moment). m.memory) done.moment

  -- a call that makes no mark
  still : (to : Parts) (more : ℕ) → OneLossEffect setup going [] parts to → TakesAtMost more parts.device to.device
      → AreDone setup from writes made (most + more) to
  still to more effect takes =
      let same : to.ledger.marks ≡ parts.ledger.marks = effect.gone.marks ∙ append-nil parts.ledger.marks in
      record {
        asked = done.asked;
        moment =
            ap (λ (marks : List Mark). moment_in setup (plain_memory setup marks) (record parts { ledger = record parts.ledger { marks = marks } })) same
            ∙ done.moment;
        marks = same ∙ done.marks;
        loss = effect.loss ∙ done.loss;
        sound = effect.gone.sound done.sound;
        live = effect.gone.power.1 done.live;
        takes = most_more from.device parts.device to.device most more done.takes takes;
      }

  -- ---- a read

  pub read_line : (at : ℕ) (to : Parts) (line : Line) → at < layout.data_lines setup.shape → HasReadLine setup at parts to (Ok line)
      → line ≡ line_at (memory_now setup parts) at
  read_line at to line within it =
      let read = (it.answered trusted).0 in
      let here = whole.each at within in
      let both : Some line ≡ Some (line_at (memory_now setup parts) at) = sym read ∙ here in
      search (rules, both)

  pub read_done : (at : ℕ) (to : Parts) (line : Line) → HasReadLine setup at parts to (Ok line)
      → AreDone setup from writes made (most + read_steps setup.shape) to
  read_done at to line it = still to (read_steps setup.shape) it.done it.steps_of_path.0

  pub read_cut : (at : ℕ) (to : Parts) → HasReadLine setup at parts to (Err Fail.Cut)
      → AreCut setup from writes made (most + read_steps setup.shape) to
  read_cut at to it =
      let effect = it.done in
      let same : to.ledger.marks ≡ parts.ledger.marks = effect.gone.marks ∙ append-nil parts.ledger.marks in
      record {
        memory = ap (plain_memory setup) same ∙ memory_done;
        marks = same ∙ done.marks;
        loss = effect.loss ∙ done.loss;
        durable = effect.gone.sound done.sound;
        dark = effect.gone.power.1;
        small_group = effect.gone.small_group trusted.no_group;
        takes = fewer_more from.device parts.device to.device most (read_steps setup.shape) done.takes (it.steps_of_path.1 done.live);
      }

  -- ---- a write

  module _ (write : Posted) (to : Parts) (within : write.at < layout.data_lines setup.shape) where
    abbrev next : Option (List Mark)
    next = marks_of_write f (moment_after_writes f now writes) write

    next_is : marks_of_write f (moment_now setup parts) write ≡ next
    next_is = ap (λ m. marks_of_write f m write) done.moment

    its_view : (moment_now setup parts).view ≡ view_of setup.shape parts.ledger.marks
    its_view = refl

    inside : write.at < length (memory_now setup parts)
    inside = let count = whole.count in omega (arith, within, count)

    -- memory by the marks that were made
    sealed_memory : (answer : Result Ctr Fault) (it : HasWrittenLine setup write parts to answer) → is_sealed_by it.made write.at ≡ true
        → memory_now setup to ≡ memory_with (memory_now setup parts) write
    sealed_memory answer it sealed =
        memory_is setup to.ledger.marks (memory_with (memory_now setup parts) write)
        (record {
          count = length-set (memory_now setup parts) write.at (put_write (line_at (memory_now setup parts) write.at) write) ∙ whole.count;
          each =
              subst (λ b. IsMemory setup (cond b (memory_with (memory_now setup parts) write) (memory_now setup parts)) to) sealed
              (it.memory trusted (memory_now setup parts) inside whole.each);
        })

    unsealed_memory : (answer : Result Ctr Fault) (it : HasWrittenLine setup write parts to answer) → is_sealed_by it.made write.at ≡ false
        → memory_now setup to ≡ memory_now setup parts
    unsealed_memory answer it sealed =
        memory_is setup to.ledger.marks (memory_now setup parts)
        (record {
          count = whole.count;
          each =
              subst (λ b. IsMemory setup (cond b (memory_with (memory_now setup parts) write) (memory_now setup parts)) to) sealed
              (it.memory trusted (memory_now setup parts) inside whole.each);
        })

    asked_more : (more : List Mark) → marks_of_write f (moment_now setup parts) write ≡ Some more
        → marks_of_writes f now (writes ++ write ∷ []) ≡ Some (made ++ more)
    asked_more more asked =
        marks_of_writes-more f now writes write made done.asked ∙ ap (option_map (λ here. made ++ here)) (sym next_is ∙ asked)

    marks_more : (more : List Mark) → to.ledger.marks ≡ parts.ledger.marks ++ more → to.ledger.marks ≡ from.ledger.marks ++ (made ++ more)
    marks_more more marks = marks ∙ ap (λ m. m ++ more) done.marks ∙ append_assoc from.ledger.marks made more

    view_more : (more : List Mark) → to.ledger.marks ≡ parts.ledger.marks ++ more → marks_of_write f (moment_now setup parts) write ≡ Some more
        → view_of setup.shape to.ledger.marks ≡ (moment_after f (moment_now setup parts) write).view
    view_more more marks asked =
        ap (view_of setup.shape) marks ∙ view_after_marks-append (start_view setup.shape) parts.ledger.marks more
        ∙ ap (λ (o : Option (List Mark)). view_after_marks (view_of setup.shape parts.ledger.marks) (unwrap_or o [])) (sym asked)

    moment_more : memory_now setup to ≡ memory_with (memory_now setup parts) write
        → view_of setup.shape to.ledger.marks ≡ (moment_after f (moment_now setup parts) write).view
        → moment_now setup to ≡ moment_after_writes f now (writes ++ write ∷ [])
    moment_more memory view =
        ap₂ (λ (m : Memory) (v : DeviceView). record { memory = m; view = v }) memory view
        ∙ ap (λ m. moment_after f m write) done.moment ∙ sym (after_more f now writes write)

    pub write_done : (ctr : Ctr) (it : HasWrittenLine setup write parts to (Ok ctr))
        → AreDone setup from (writes ++ write ∷ []) (made ++ it.made) (most + write_steps setup.shape) to
    write_done ctr it =
        let effect = it.done in
        let asked = it.marks trusted (memory_now setup parts) whole.each in
        let sealed : is_sealed_by it.made write.at ≡ true = it.own_sealed (search rules) in
        record {
          asked = asked_more it.made asked;
          moment = moment_more (sealed_memory (Ok ctr) it sealed) (view_more it.made effect.gone.marks asked);
          marks = marks_more it.made effect.gone.marks;
          loss = effect.loss ∙ done.loss;
          sound = effect.gone.sound done.sound;
          live = effect.gone.power.1 done.live;
          takes = most_more from.device parts.device to.device most (write_steps setup.shape) done.takes it.few_steps;
        }

    -- its counter is used up
    pub spent_next : (page : ℕ) → HasWrittenLine setup write parts to (Err (Fail.Spent page)) → (next ≡ None) × (page ≡ page_of write.at)
    spent_next page it =
        let none = it.marks trusted (memory_now setup parts) whole.each in (sym next_is ∙ none.0, none.2)

    spent_still : (more : ℕ) (page : ℕ) (it : HasWrittenLine setup write parts to (Err (Fail.Spent page))) → TakesAtMost more parts.device to.device
        → AreDone setup from writes made (most + more) to
    spent_still more page it takes =
        let none = (it.marks trusted (memory_now setup parts) whole.each).1 in
        still to more (subst (λ m. OneLossEffect setup going m parts to) none it.done) takes

    pub spent_done : (page : ℕ) → HasWrittenLine setup write parts to (Err (Fail.Spent page))
        → AreDone setup from writes made (most + write_steps setup.shape) to
    spent_done page it = spent_still (write_steps setup.shape) page it it.few_steps

    -- if it is the first call, in the steps of its path
    pub spent_path : (page : ℕ) → HasWrittenLine setup write parts to (Err (Fail.Spent page))
        → AreDone setup from writes made (most + path_length setup.shape) to
    spent_path page it =
        let none = (it.marks trusted (memory_now setup parts) whole.each).0 in
        spent_still (path_length setup.shape) page it
        (it.steps_of_spent trusted (memory_now setup parts) whole.each none).0

    -- ---- a cut

    cut_within : (asked : Option (List Mark)) (more : List Mark) → marks_of_write f (moment_now setup parts) write ≡ asked
        → TakesOfWrite setup.shape asked more parts to (Err Fail.Cut) → TakesFewer (write_steps setup.shape) parts.device to.device
    cut_within (Some marks) more there takes =
        let are = asked_are setup (regs_of parts) parts.ledger trusted.anchored (moment_now setup parts) refl write marks there in
        let few = few_asked f write.at marks are in
        let paths : (begun_lines setup.shape - 1) * path_mark_count marks ≤ (begun_lines setup.shape - 1) * 2 =
        mul-le-mul_left (begun_lines setup.shape - 1) (few_paths_asked f write.at marks are) in
        fewer_within parts.device to.device (writing_bound setup.shape 1 marks) (write_steps setup.shape)
        (omega (arith, few, paths, begun_some setup.shape)) takes
    cut_within None more there takes =
        fewer_within parts.device to.device (path_length setup.shape) (write_steps setup.shape) (omega arith) takes.0

    module _ (it : HasWrittenLine setup write parts to (Err Fail.Cut)) where
      cut_effect : OneLossEffect setup cut_short it.made parts to
      cut_effect = it.done

      cut_as : (done_writes : List Posted) → memory_now setup to ≡ (moment_after_writes f now done_writes).memory
          → AreCut setup from done_writes (made ++ it.made) (most + write_steps setup.shape) to
      cut_as done_writes memory =
          record {
            memory = memory;
            marks = marks_more it.made cut_effect.gone.marks;
            loss = cut_effect.loss ∙ done.loss;
            durable = cut_effect.gone.sound done.sound;
            dark = cut_effect.gone.power.1;
            small_group = cut_effect.gone.small_group trusted.no_group;
            takes =
                fewer_more from.device parts.device to.device most (write_steps setup.shape) done.takes
                (cut_within (marks_of_write f (moment_now setup parts) write) it.made refl
                (it.steps trusted (memory_now setup parts) whole.each));
          }

      pub write_cut : IsCutAfter setup from writes made write it.made (most + write_steps setup.shape) to
          ⊎ IsCutBefore setup from writes made write it.made (most + write_steps setup.shape) to
      write_cut = elim (it.marks trusted (memory_now setup parts) whole.each) [
        | inl asked ↦
            let own = asked_are setup (regs_of parts) parts.ledger trusted.anchored (moment_now setup parts) refl write it.made asked in
            let sealed = asked_sealed f write.at it.made own in
            inl (record {
              asked = asked_more it.made asked;
              cut =
                  cut_as (writes ++ write ∷ [])
                  (ap (λ (m : Moment). m.memory) (moment_more (sealed_memory (Err Fail.Cut) it sealed) (view_more it.made cut_effect.gone.marks asked)));
            })
        | inr part ↦
            let apart = part_apart setup (regs_of parts) parts.ledger trusted.anchored (moment_now setup parts) refl write it.made part in
            inr (record {
              part = subst (λ o. IsPartOf o it.made) next_is part;
              apart = apart;
              cut = cut_as writes (unsealed_memory (Err Fail.Cut) it apart ∙ memory_done);
            })
      ]
