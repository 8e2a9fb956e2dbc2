-- A write that ends its command, a drain of it or a fence after others: what the world answers, and what becomes of it.
use Rattle.std.proofs.Common.{ℕ, ◌≡◌, ◌<◌, ◌≤◌, ◌+◌, ◌++◌, ◌^◌, Bool, true, false, inl, inr, List, [], Option, Some, None, Ok, Err, refl, sym, ap, subst, ◌∙◌, arith}
use Rattle.std.specs.Prelude.{not, Result, option_map, ⊤, if◌then◌else◌}
use Rattle.std.proofs.lemmas.Bool.{true≢false, false_from_ne_true}
use Rattle.std.proofs.lemmas.List.{append-nil}
use Rattle.pmem_base.specs.declared.lines.Ctr.{Ctr}
use Rattle.pmem_base.specs.declared.commands.Command.{Command}
use Rattle.pmem_base.specs.declared.answers.Answer.{Answer}
use Rattle.pmem_base.specs.declared.answers.Answer.TheVariants as Say
use Rattle.pmem_base.specs.declared.answers.Mark.{Mark}
use Rattle.pmem_base.specs.declared.answers.Place.{Place}
use Rattle.pmem_base.specs.Layout as layout
use Rattle.pmem_base.specs.declared.answers.Exhibit.{Exhibit}
use Rattle.pmem_base.specs.Marks.{last_seal}
use Rattle.pmem_base.specs.Ranges.{IsAnswer, IsDrained, IsExhibitValue}
use Rattle.suite.specs.Setup.{Setup}
use Rattle.plain_model.specs.State.{PlainState}
use Rattle.plain_model.specs.Asked.{moment_of, marks_of_write}
use Rattle.plain_model.specs.Bounds.{IsSpentWithin, IsCutWriteWithin}
use Rattle.plain_model.specs.After.{state_after, after_marks, steps_of, is_cut}
use Rattle.plain_model.specs.Answers.{is_shown}
use Rattle.pmem_engine.specs.declared.fault.Fault.{Fault}
use Rattle.pmem_engine.specs.declared.fault.Fault.TheVariants as Fail
use Rattle.call_effects.specs.Outcomes.{going}
use Rattle.pmem_engine.specs.Outcomes.{outcome_of, is_sealed_by}
use Rattle.pmem_engine.specs.Calls.{IsPartOf}
use Rattle.pmem_replay.specs.World.{WorldState, IsOn, IsWorld, view_in}
use Rattle.watched_board.specs.declared.taken.Taken.{Taken}
use Rattle.watched_board.specs.Watching.{steps_in}
use Rattle.pmem_replay.specs.Given.{given_state, WasWriteGiven, IsWriteGiven, IsWriteGivenShown, IsWriteGivenTo, IsDrainSaid}
use Rattle.pmem_replay.specs.Replies.{with_marks_since}
use Rattle.pmem_replay.specs.Stepped.{HasStepped, EndsWrites, IsDrainAnswer, IsPlaceWrong, IsSeenOnDevice, IsExhibitSeen}
use Rattle.pmem_engine.proofs.PostedWrites.WriteParts.{last_seal-unsealed}
use Rattle.pmem_replay.proofs.Marks.AfterMarks.{touched_after, flushed_after, with_flags, after_marks-is}
use Rattle.pmem_replay.proofs.Marks.AskedMarks.{refused_within}
use Rattle.pmem_replay.proofs.Marks.OpenPages.{whole_pages}
use Rattle.pmem_replay.proofs.Marks.SealedLines.{same_truth}
use Rattle.pmem_replay.proofs.Steps.WorldsAfterCalls.{on_in}
use Rattle.pmem_replay.proofs.Steps.FaultCauses.{on_path-within, forged_unstored, shown_uncut}
use Rattle.pmem_replay.proofs.Steps.PartsOfWorld.{since}
use Rattle.pmem_replay.proofs.Steps.GoodReplies.{IsGood}
use Rattle.pmem_replay.proofs.Steps.DeviceEvidence.{meta_wrong, tag_wrong, small_position, small_line, clash_sight, forged_sight_by, seal_counter}
use Rattle.pmem_replay.proofs.Drains.GivenCalls.{given_call, cut_says, power_after}
use Rattle.pmem_replay.proofs.Drains.DrainChain.{IsDrainedTo}
use Rattle.pmem_replay.proofs.Drains.WriteLaws.{shown-good, meta-good, tag-good, spent-good, lost-good, kept-good, lost-unsealed, kept-sealed}
use Rattle.pmem_replay.proofs.Drains.WriteReplies.{IsReplayWriting, after_refused, after_spent, after_lost, after_kept}
use Rattle.pmem_replay.proofs.Drains.WriteWorlds.{front_on_memory}

-- what the answer of a write that ends its command shows of the device
abbrev pub IsSeenAfter : Setup → WorldState → Answer → Type 0
IsSeenAfter setup new (Say.Refused drained place steps) = IsPlaceWrong setup new place
IsSeenAfter setup new (Say.Spent drained page steps) = ⊤
IsSeenAfter setup new (Say.CutKept drained steps) = ⊤
IsSeenAfter setup new (Say.CutLost drained steps) = ⊤
IsSeenAfter setup new (Say.Shown exhibit) = IsExhibitSeen setup new exhibit
IsSeenAfter setup new said = ⊥

-- A command that was begun in `old` and gives a write in `now`, after n writes that were drained since `mid`, which is
-- `old` but for the room for marks: its bounds, and that it steps where that write ends it.
pub record IsLastWrite (setup : Setup) (old mid now new : WorldState) (command : Command) (d : Option ℕ) (port n : ℕ) (made : List Mark) (spent : ℕ) :
    Type 0 where
  pub small : port < 8
  pub whole : IsWorld setup mid
  pub writing : IsReplayWriting setup mid command d port n
  pub drained : IsDrainedTo setup mid now port n made spent
  pub counted : IsDrained d
  pub few : (taken : Taken) → steps_in taken ≤ 65536 → spent + steps_in taken < 2 ^ 64
  pub spent_within :
      (answer : Result Ctr Fault) (g : WasWriteGiven setup now port answer new) → outcome_of answer ≡ going
      → marks_of_write setup.formulas (moment_of now.state (view_in setup now)) g.write ≡ None
      → IsSpentWithin setup.shape mid.state d (made ++ g.written.made) (spent + steps_in g.taken)
  pub cut_within :
      (g : WasWriteGiven setup now port (Err Fail.Cut) new)
      → IsCutWriteWithin setup mid.state (view_in setup mid) port d (spent + steps_in g.taken)
  pub seen : (said : Answer) → IsSeenAfter setup new said → IsSeenOnDevice setup old command said new
  pub step :
      (answer : Result Ctr Fault) (g : WasWriteGiven setup now port answer new) (one said : Answer)
      → IsGood setup mid command (record { marks = made ++ g.written.made; answer = said }) → IsAnswer said
      → IsDrainAnswer g.write now.ledger new.ledger (steps_in g.taken) answer one
      → new.engine ≡ (if is_cut one then None else Some g.after)
      → new.board.powered ≡ not (is_cut one)
      → (is_shown one ≡ false → steps_of one ≡ steps_in g.taken)
      → EndsWrites d spent one said
      → new.shown ≡ is_shown said
      → (is_shown said ≡ false → new.state ≡ state_after setup.shape mid.state command (record { marks = made ++ g.written.made; answer = said }))
      → (is_shown said ≡ false → IsWorld setup new)
      → IsSeenOnDevice setup old command said new
      → HasStepped setup old command (record { marks = made ++ g.written.made; answer = said }) new

module _ {setup : Setup} {old mid now new : WorldState} {command : Command} {d : Option ℕ} {port n : ℕ} {made : List Mark} {spent : ℕ}
    (w : IsLastWrite setup old mid now new command d port n made spent) where
  whole : IsWorld setup now
  whole = w.drained.world

  on_now : (answer : Result Ctr Fault) (g : WasWriteGiven setup now port answer new) → IsOn setup now g.engine
  on_now answer g = on_in setup now g.engine whole g.was_on

  within : (answer : Result Ctr Fault) (g : WasWriteGiven setup now port answer new) → g.write.at < layout.data_lines setup.shape
  within answer g = front_on_memory setup now.state port g.write g.later whole.queues w.small g.waits

  all_steps : (k m : ℕ) → k ≡ m → spent + m ≡ spent + k
  all_steps k m same = omega (arith, same)

  state_form : (s : PlainState) (made : List Mark) → new.state ≡ after_marks setup.shape s made
      → new.state ≡ with_flags s (touched_after s.touched made) (flushed_after setup.shape s.flushed made)
  state_form s made is = is ∙ after_marks-is setup.shape s made

  -- the command ends so, with these marks
  abbrev Ends : List Mark → Answer → Type 0
  Ends more said = HasStepped setup old command (record { marks = made ++ more; answer = said }) new

  -- ---- refused

  ends-meta : (x k : ℕ) (is : IsWriteGiven setup now port k (Err (Fail.Meta x)) false true new)
      → Ends is.given.written.made (Say.Refused d (Place.Meta x) (spent + k))
  ends-meta x k is =
      let g = is.given in
      let c = given_call setup now new port (Err (Fail.Meta x)) whole g in
      let on = on_now (Err (Fail.Meta x)) g in
      let refused = g.written.answered on.trusted now.state.memory whole.memory.each in
      let inside = within (Err (Fail.Meta x)) g in
      let in_tree = on_path-within setup.shape (layout.page_of g.write.at) x (omega (arith, inside)) refused.fetched.on_path in
      let done = g.written.done in
      let none : g.written.made ≡ [] = g.written.marks on.trusted now.state.memory whole.memory.each in
      let marks : new.ledger.marks ≡ now.ledger.marks = g.marks ∙ ap (λ (ms : List Mark). now.ledger.marks ++ ms) none ∙ append-nil now.ledger.marks in
      subst (λ (s : ℕ). Ends g.written.made (Say.Refused d (Place.Meta x) s)) (all_steps k (steps_in g.taken) is.counted)
      (w.step (Err (Fail.Meta x)) g (Say.Refused None (Place.Meta x) (steps_in g.taken)) (Say.Refused d (Place.Meta x) (spent + steps_in g.taken))
      (meta-good setup mid now new command d port n made spent w.writing w.drained w.whole w.small g.write g.later g.waits g.engine g.after g.taken c x g.written
      (w.spent_within (Err (Fail.Meta x)) g refl))
      (w.counted, small_position setup.shape whole.whole_shape x in_tree, w.few g.taken g.follows.few) refl is.engine (power_after _ _ _ _ _ _ _ _ is) (λ quiet. refl) refl is.unshown
      (λ quiet. state_form (given_state setup.shape now.state port g.write g.later (steps_in g.taken) false true) g.written.made is.state
      ∙ after_refused setup mid now command d port n made g.written.made spent (steps_in g.taken) w.writing w.drained g.write g.later g.waits (Place.Meta x))
      (λ quiet. is.holds)
      (w.seen (Say.Refused d (Place.Meta x) (spent + steps_in g.taken))
      (meta_wrong setup new now.ledger x refused.line refused.fetched.read
      (same_truth setup now.board.regs new.board.regs now.ledger new.ledger whole.whole_shape on.trusted.anchored
      (done.gone.trusted on.trusted).anchored marks) refused.other_digest)))

  ends-tag : (b k : ℕ) (is : IsWriteGiven setup now port k (Err (Fail.Tag b)) false true new)
      → Ends is.given.written.made (Say.Refused d (Place.Line b) (spent + k))
  ends-tag b k is =
      let g = is.given in
      let c = given_call setup now new port (Err (Fail.Tag b)) whole g in
      let on = on_now (Err (Fail.Tag b)) g in
      let small_b = small_line setup.shape whole.whole_shape b
      (refused_within setup.shape setup.formulas (moment_of now.state (view_in setup now)) g.write g.written.made b
      (whole_pages setup now.board.regs now.ledger on.trusted.anchored) (within (Err (Fail.Tag b)) g)
      (g.written.marks on.trusted now.state.memory whole.memory.each)) in
      subst (λ (s : ℕ). Ends g.written.made (Say.Refused d (Place.Line b) s)) (all_steps k (steps_in g.taken) is.counted)
      (w.step (Err (Fail.Tag b)) g (Say.Refused None (Place.Line b) (steps_in g.taken)) (Say.Refused d (Place.Line b) (spent + steps_in g.taken))
      (tag-good setup mid now new command d port n made spent w.writing w.drained w.whole w.small g.write g.later g.waits g.engine g.after g.taken c b g.written
      (w.spent_within (Err (Fail.Tag b)) g refl))
      (w.counted, small_b, w.few g.taken g.follows.few) refl is.engine (power_after _ _ _ _ _ _ _ _ is) (λ quiet. refl) refl is.unshown
      (λ quiet. state_form (given_state setup.shape now.state port g.write g.later (steps_in g.taken) false true) g.written.made is.state
      ∙ after_refused setup mid now command d port n made g.written.made spent (steps_in g.taken) w.writing w.drained g.write g.later g.waits (Place.Line b))
      (λ quiet. is.holds)
      (w.seen (Say.Refused d (Place.Line b) (spent + steps_in g.taken))
      (tag_wrong setup new g.after g.taken b (g.written.answered on.trusted now.state.memory whole.memory.each))))

  ends-spent : (page k : ℕ) (is : IsWriteGiven setup now port k (Err (Fail.Spent page)) false true new)
      → Ends is.given.written.made (Say.Spent d page (spent + k))
  ends-spent page k is =
      let g = is.given in
      let c = given_call setup now new port (Err (Fail.Spent page)) whole g in
      let on = on_now (Err (Fail.Spent page)) g in
      let its = g.written.marks on.trusted now.state.memory whole.memory.each in
      let its_page : page ≡ layout.page_of g.write.at = its.2 in
      let small_at = small_line setup.shape whole.whole_shape g.write.at (within (Err (Fail.Spent page)) g) in
      let small_page : page < 2 ^ 32 = omega (arith, its_page, small_at) in
      subst (λ (s : ℕ). Ends g.written.made (Say.Spent d page s)) (all_steps k (steps_in g.taken) is.counted)
      (w.step (Err (Fail.Spent page)) g (Say.Spent None page (steps_in g.taken)) (Say.Spent d page (spent + steps_in g.taken))
      (spent-good setup mid now new command d port n made spent w.writing w.drained w.whole w.small g.write g.later g.waits g.engine g.after g.taken c page g.written
      (w.spent_within (Err (Fail.Spent page)) g refl its.0))
      (w.counted, small_page, w.few g.taken g.follows.few) refl is.engine (power_after _ _ _ _ _ _ _ _ is) (λ quiet. refl) refl is.unshown
      (λ quiet. state_form (given_state setup.shape now.state port g.write g.later (steps_in g.taken) false true) g.written.made is.state
      ∙ after_spent setup mid now command d port n made g.written.made spent (steps_in g.taken) w.writing w.drained g.write g.later g.waits page)
      (λ quiet. is.holds) (w.seen (Say.Spent d page (spent + steps_in g.taken)) tt))

  -- ---- cut

  ends-kept : (k : ℕ) (is : IsWriteGiven setup now port k (Err Fail.Cut) true false new)
      → Ends is.given.written.made (Say.CutKept d (spent + k))
  ends-kept k is =
      let g = is.given in
      let c = given_call setup now new port (Err Fail.Cut) whole g in
      let on = on_now (Err Fail.Cut) g in
      let all : marks_of_write setup.formulas (moment_of now.state (view_in setup now)) g.write ≡ Some g.written.made =
      elim (g.written.marks on.trusted now.state.memory whole.memory.each) [
        | inl asked ↦ asked
        | inr part ↦
            absurd (true≢false (sym is.sealed
            ∙ lost-unsealed setup mid now new command d port n made spent w.writing w.drained w.whole w.small g.write g.later g.waits g.engine g.after g.taken c g.written part))
      ] in
      subst (λ (s : ℕ). Ends g.written.made (Say.CutKept d s)) (all_steps k (steps_in g.taken) is.counted)
      (w.step (Err Fail.Cut) g (Say.CutKept None (steps_in g.taken)) (Say.CutKept d (spent + steps_in g.taken))
      (kept-good setup mid now new command d port n made spent w.writing w.drained w.whole w.small g.write g.later g.waits g.engine g.after g.taken c g.written all (w.cut_within g))
      (w.counted, w.few g.taken g.follows.few) (cut_says setup now new port g true is.sealed) is.engine (power_after _ _ _ _ _ _ _ _ is) (λ quiet. refl) refl is.unshown
      (λ quiet. state_form (given_state setup.shape now.state port g.write g.later (steps_in g.taken) true false) g.written.made is.state
      ∙ after_kept setup mid now command d port n made g.written.made spent (steps_in g.taken) w.writing w.drained g.write g.later g.waits)
      (λ quiet. is.holds) (w.seen (Say.CutKept d (spent + steps_in g.taken)) tt))

  ends-lost : (k : ℕ) (is : IsWriteGiven setup now port k (Err Fail.Cut) false false new)
      → Ends is.given.written.made (Say.CutLost d (spent + k))
  ends-lost k is =
      let g = is.given in
      let c = given_call setup now new port (Err Fail.Cut) whole g in
      let on = on_now (Err Fail.Cut) g in
      let part : IsPartOf (marks_of_write setup.formulas (moment_of now.state (view_in setup now)) g.write) g.written.made =
      elim (g.written.marks on.trusted now.state.memory whole.memory.each) [
        | inl asked ↦
            absurd (true≢false (sym
            (kept-sealed setup mid now new command d port n made spent w.writing w.drained w.whole w.small g.write g.later g.waits g.engine g.after g.taken c g.written asked)
            ∙ is.sealed))
        | inr part ↦ part
      ] in
      subst (λ (s : ℕ). Ends g.written.made (Say.CutLost d s)) (all_steps k (steps_in g.taken) is.counted)
      (w.step (Err Fail.Cut) g (Say.CutLost None (steps_in g.taken)) (Say.CutLost d (spent + steps_in g.taken))
      (lost-good setup mid now new command d port n made spent w.writing w.drained w.whole w.small g.write g.later g.waits g.engine g.after g.taken c g.written part (w.cut_within g))
      (w.counted, w.few g.taken g.follows.few) (cut_says setup now new port g false is.sealed) is.engine (power_after _ _ _ _ _ _ _ _ is) (λ quiet. refl) refl is.unshown
      (λ quiet. state_form (given_state setup.shape now.state port g.write g.later (steps_in g.taken) false false) g.written.made is.state
      ∙ after_lost setup mid now command d port n made g.written.made spent (steps_in g.taken) w.writing w.drained g.write g.later g.waits)
      (λ quiet. is.holds) (w.seen (Say.CutLost d (spent + steps_in g.taken)) tt))

  -- ---- shown

  ends-shown : (exhibit : Exhibit) (is : IsWriteGivenShown setup now port new) → new.ledger.exhibit ≡ Some exhibit
      → Ends is.given.written.made (Say.Shown exhibit)
  ends-shown exhibit is its =
      let g = is.given in
      let c = given_call setup now new port (Err Fail.Shown) whole g in
      let on = on_now (Err Fail.Shown) g in
      let inside = within (Err Fail.Shown) g in
      let done = g.written.done in
      let places = done.gone.places on.trusted in
      let pages = whole_pages setup now.board.regs now.ledger on.trusted.anchored in
      let sight : IsExhibitValue exhibit × IsExhibitSeen setup new exhibit =
      elim (g.written.answered on.trusted now.state.memory whole.memory.each) [
        | inl clash ↦
            clash_sight setup now new g.engine g.after g.taken (layout.page_of g.write.at) exhibit whole.whole_shape (omega (arith, inside))
            g.each_line on.trusted.anchored.of_shape.truth_lines clash.1 its
        | inr found ↦
            let on_line = refused_within setup.shape setup.formulas (moment_of now.state (view_in setup now)) g.write g.written.made found.at pages inside found.refusable in
            let none : new.board.regs.group.items ≡ [] = ap (λ group. group.items) (done.gone.group shown_uncut) ∙ on.trusted.no_group in
            let unstored = forged_unstored setup new g.after g.taken found.at none found.forged in
            let unsealed : is_sealed_by g.written.made found.at ≡ false =
            false_from_ne_true (is_sealed_by g.written.made found.at) (λ sealed. unstored (places.seals found.at on_line (inr sealed))) in
            let its_seal : last_seal new.ledger.marks found.at ≡ last_seal now.ledger.marks found.at =
            ap (λ marks. last_seal marks found.at) done.gone.marks ∙ last_seal-unsealed now.ledger.marks g.written.made found.at unsealed in
            forged_sight_by setup new g.after g.taken found.at exhibit whole.whole_shape whole.whole_formulas on_line g.each_line
            found.forged its
            (seal_counter setup.shape now.ledger.marks found.at found.forged.ctr on.trusted.anchored.of_shape.marks_in_range
            (ap (option_map (λ seal. seal.ctr)) (sym its_seal) ∙ found.forged.unsealed.counter))
      ] in
      w.step (Err Fail.Shown) g (Say.Shown exhibit) (Say.Shown exhibit)
      (shown-good setup mid now new command d port n made spent w.writing w.drained w.whole w.small g.write g.later g.waits g.engine g.after g.taken c g.written exhibit its
      (λ clash. clash.fetched.before) places)
      sight.0 (exhibit, its, refl) is.engine (done.gone.power.1 (whole.board.power ∙ on.powered))
      (λ quiet. absurd (true≢false quiet)) refl is.shown
      (λ quiet. absurd (true≢false quiet))
      (λ quiet. absurd (true≢false quiet))
      (w.seen (Say.Shown exhibit) sight.1)

  -- ---- by what the engine answers

  ends-since : (more : List Mark) (said answer : Answer) → Ends more said → answer ≡ said → HasStepped setup old command (with_marks_since old new answer) new
  ends-since more said answer step same =
      subst (λ (a : Answer). HasStepped setup old command (with_marks_since old new a) new) (sym same) (since setup old new command (made ++ more) said step)

  pub ends_with_write : (one said : Answer) (answer : Result Ctr Fault) (put : Bool) (k : ℕ) → IsWriteGivenTo setup now port k answer put new
      → IsDrainSaid new answer put k one → EndsWrites d spent one said → HasStepped setup old command (with_marks_since old new said) new
  ends_with_write one said (Ok ctr) put k it is ends = absurd (subst (λ (a : Answer). EndsWrites d spent a said) is ends)
  ends_with_write one said (Err (Fail.Meta x)) put k it is ends =
      ends-since it.given.written.made (Say.Refused d (Place.Meta x) (spent + k)) said (ends-meta x k it) (subst (λ (a : Answer). EndsWrites d spent a said) is ends)
  ends_with_write one said (Err (Fail.Tag b)) put k it is ends =
      ends-since it.given.written.made (Say.Refused d (Place.Line b) (spent + k)) said (ends-tag b k it) (subst (λ (a : Answer). EndsWrites d spent a said) is ends)
  ends_with_write one said (Err (Fail.Spent page)) put k it is ends =
      ends-since it.given.written.made (Say.Spent d page (spent + k)) said (ends-spent page k it) (subst (λ (a : Answer). EndsWrites d spent a said) is ends)
  ends_with_write one said (Err Fail.Cut) true k it is ends =
      ends-since it.given.written.made (Say.CutKept d (spent + k)) said (ends-kept k it) (subst (λ (a : Answer). EndsWrites d spent a said) is ends)
  ends_with_write one said (Err Fail.Cut) false k it is ends =
      ends-since it.given.written.made (Say.CutLost d (spent + k)) said (ends-lost k it) (subst (λ (a : Answer). EndsWrites d spent a said) is ends)
  ends_with_write one said (Err Fail.Shown) put k it is ends =
      ends-since it.given.written.made (Say.Shown is.0) said (ends-shown is.0 it is.1) (subst (λ (a : Answer). EndsWrites d spent a said) is.2 ends)
  ends_with_write one said (Err Fail.Down) put k it is ends = absurd is
