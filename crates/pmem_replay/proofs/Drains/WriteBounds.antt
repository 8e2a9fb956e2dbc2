-- What a write asks, and the bounds that the steps of one that is refused or cut keep.
use Rattle.std.proofs.Common.{ℕ, suc, ◌≡◌, ◌<◌, ◌≤◌, ◌+◌, ◌++◌, cond, List, [], ◌∷◌, length, Option, Some, None, Err, refl, arith, take, sym, ap, ap₂, subst, ◌∙◌}
use Rattle.std.specs.Prelude.{All, MatchBool, is_none, unwrap_or, option_map}
use Rattle.std.proofs.lemmas.Bool.{le-leb}
use Rattle.std.proofs.lemmas.List.{length-append}
use Rattle.pmem_base.specs.declared.commands.Command.{Command}
use Rattle.pmem_base.specs.declared.answers.Mark.{Mark}
use Rattle.pmem_base.specs.declared.answers.Place.{Place}
use Rattle.pmem_base.specs.declared.answers.Answer.TheVariants as Say
use Rattle.pmem_base.specs.Shape.{Shape}
use Rattle.suite.specs.Setup.{Setup}
use Rattle.plain_model.specs.Legal.{IsEngineLegal}
use Rattle.plain_model.specs.State.{PlainState}
use Rattle.plain_model.specs.View.{start_view, view_of, view_after_marks}
use Rattle.plain_model.proofs.Views.{view_after_marks-append}
use Rattle.plain_model.specs.Bounds.{writing_bound, path_length, spent_bound, dirty_bound, is_spent_in_flight, marks_of_first, cut_bound, IsRefusedWriteWithin, IsSpentWithin}
use Rattle.plain_model.specs.Fits.{Fits}
use Rattle.pmem_engine.specs.declared.fault.Fault.TheVariants as Fail
use Rattle.pmem_engine.specs.Parts.{Parts}
use Rattle.pmem_engine.specs.Outcomes.{TakesAtMost}
use Rattle.pmem_engine.specs.Calls.{TakesOfWrite, write_bound}
use Rattle.pmem_replay.specs.World.{WorldState, view_in}
use Rattle.pmem_base.specs.declared.commands.Posted.{Posted}
use Rattle.pmem_base.specs.WaitingWrites.{queue_of}
use Rattle.plain_model.specs.Asked.{seal_mark, moment_of, marks_of_write, marks_of_writes}
use Rattle.pmem_replay.proofs.Marks.OpenPages.{IsWholePage}
use Rattle.pmem_replay.proofs.Marks.AskedMarks.{asked_form}
use Rattle.plain_model.proofs.WriteMarks.{writing_bound-append, marks_of_writes-more}
use Rattle.pmem_replay.proofs.Drains.DrainLists.{take-next}
use Rattle.pmem_replay.proofs.Drains.DrainChain.{IsDrainedTo, IsNextDrain}

-- ---- the steps of a refused write

pub takes_meta : (g : Shape) (asked : Option (List Mark)) (made : List Mark) (old new : Parts) (x : ℕ)
    → TakesOfWrite g asked made old new (Err (Fail.Meta x)) → TakesAtMost (write_bound g made) old.device new.device
takes_meta g None made old new x it = it
takes_meta g (Some marks) made old new x it = it

pub takes_tag : (g : Shape) (asked : Option (List Mark)) (made : List Mark) (old new : Parts) (b : ℕ)
    → TakesOfWrite g asked made old new (Err (Fail.Tag b)) → TakesAtMost (write_bound g made) old.device new.device
takes_tag g None made old new b it = it
takes_tag g (Some marks) made old new b it = it

-- ---- the marks of a write

-- a write that isn't spent asks some
pub some_asked : (setup : Setup) (mid : WorldState) (write : Posted) → All (IsWholePage setup.shape) (view_in setup mid).open_pages
    → (marks : List Mark) → marks_of_write setup.formulas (moment_of mid.state (view_in setup mid)) write ≡ Some marks → 0 < length marks
some_asked setup mid write whole marks it =
    let form = asked_form setup.shape setup.formulas (moment_of mid.state (view_in setup mid)) write marks whole it in
    omega (arith, ap length form.form, length-append form.front (seal_mark setup.formulas write.at form.ctr form.plain ∷ []))

-- the view after the marks before it and its own
pub view_both : (setup : Setup) (old mid : WorldState) (port n : ℕ) (made : List Mark) (spent : ℕ) → IsDrainedTo setup old mid port n made spent
    → (more : List Mark) → view_after_marks (view_in setup old) (made ++ more) ≡ view_after_marks (view_in setup mid) more
view_both setup old mid port n made spent drained more =
    view_after_marks-append (view_in setup old) made more
    ∙ ap (λ view. view_after_marks view more)
    (sym (view_after_marks-append (start_view setup.shape) old.ledger.marks made) ∙ ap (view_of setup.shape) (sym drained.marks))

-- ---- the bound of a cut

-- by the marks that the write in flight asks
abbrev pub bound_by : Shape → ℕ → List Mark → Option (List Mark) → ℕ
bound_by g n made None = writing_bound g n made + spent_bound g
bound_by g n made (Some more) = writing_bound g (n + 1) (made ++ more)

pub bound_is : (g : Shape) (n : ℕ) (made : List Mark) (asked : Option (List Mark))
    → cond (is_none (option_map (λ more. made ++ more) asked)) (writing_bound g n (unwrap_or (Some made) []) + spent_bound g)
    (writing_bound g (n + 1) (unwrap_or (option_map (λ more. made ++ more) asked) []))
    ≡ bound_by g n made asked
bound_is g n made None = refl
bound_is g n made (Some more) = refl

-- what the first writes ask, with the next one
pub first_next : (setup : Setup) (old mid : WorldState) (port n : ℕ) (made : List Mark) (spent : ℕ) (write : Posted)
    → IsDrainedTo setup old mid port n made spent → IsNextDrain setup old mid port n made write
    → marks_of_first setup old.state (view_in setup old) port (n + 1)
    ≡ option_map (λ more. made ++ more) (marks_of_write setup.formulas (moment_of mid.state (view_in setup mid)) write)
first_next setup old mid port n made spent write drained next =
    ap (λ k. marks_of_writes setup.formulas (moment_of old.state (view_in setup old)) (take k (queue_of old.state.queues port))) {x = n + 1} {y = suc n} (omega arith)
    ∙ ap (marks_of_writes setup.formulas (moment_of old.state (view_in setup old))) (take-next (queue_of old.state.queues port) n write next.its_place)
    ∙ marks_of_writes-more setup.formulas (moment_of old.state (view_in setup old)) (take n (queue_of old.state.queues port)) write made drained.asked
    ∙ ap (λ moment. option_map (λ more. made ++ more) (marks_of_write setup.formulas moment write)) next.moment

pub bound_at : (setup : Setup) (old mid : WorldState) (port n : ℕ) (made : List Mark) (spent : ℕ) (write : Posted)
    → IsDrainedTo setup old mid port n made spent → IsNextDrain setup old mid port n made write
    → (it : Option (List Mark)) → marks_of_write setup.formulas (moment_of mid.state (view_in setup mid)) write ≡ it
    → cut_bound setup old.state (view_in setup old) port n ≡ bound_by setup.shape n made it
bound_at setup old mid port n made spent write drained next it there =
    ap₂ (λ (first second : Option (List Mark)). cond (is_none second) (writing_bound setup.shape n (unwrap_or first []) + spent_bound setup.shape)
    (writing_bound setup.shape (n + 1) (unwrap_or second []))) drained.asked
    (first_next setup old mid port n made spent write drained next ∙ ap (option_map (λ more. made ++ more)) there)
    ∙ bound_is setup.shape n made it

-- ---- the bound of a refusal

-- the steps of a write that was refused are within the bound
pub refused_bound : (g : Shape) (n : ℕ) (made more : List Mark) (spent steps : ℕ) → spent ≤ writing_bound g n made → steps ≤ write_bound g more
    → spent + steps ≤ writing_bound g (n + 1) (made ++ more)
refused_bound g n made more spent steps before few = omega (arith, few, before, writing_bound-append g n 1 made more)

-- so are those of any refusal, also where the write is spent
pub refusal_within : (setup : Setup) (old mid : WorldState) (port n : ℕ) (made : List Mark) (spent : ℕ) (write : Posted)
    → IsDrainedTo setup old mid port n made spent → IsNextDrain setup old mid port n made write
    → (d : Option ℕ) → unwrap_or d 0 ≡ n → (all : List Mark) (steps : ℕ)
    → (marks_of_write setup.formulas (moment_of mid.state (view_in setup mid)) write ≡ None → IsSpentWithin setup.shape old.state d all steps)
    → steps ≤ writing_bound setup.shape (n + 1) all → IsRefusedWriteWithin setup old.state (view_in setup old) port d all steps
refusal_within setup old mid port n made spent write drained next d count all steps if_spent bound =
    subst (λ k. MatchBool (is_spent_in_flight setup old.state (view_in setup old) port k) (IsSpentWithin setup.shape old.state d all steps)
    (steps ≤ writing_bound setup.shape (k + 1) all)) (sym count)
    (subst (λ o. MatchBool (is_none o) (IsSpentWithin setup.shape old.state d all steps) (steps ≤ writing_bound setup.shape (n + 1) all))
    (sym (first_next setup old mid port n made spent write drained next))
    (go (marks_of_write setup.formulas (moment_of mid.state (view_in setup mid)) write) refl))
  where
    go : (it : Option (List Mark)) → marks_of_write setup.formulas (moment_of mid.state (view_in setup mid)) write ≡ it
        → MatchBool (is_none (option_map (λ more. made ++ more) it)) (IsSpentWithin setup.shape old.state d all steps)
        (steps ≤ writing_bound setup.shape (n + 1) all)
    go None there = if_spent there
    go (Some marks) there = bound

-- no step at all is within each bound of a spent write
pub none_within : (g : Shape) (state : PlainState) (d : Option ℕ) (all : List Mark) → IsSpentWithin g state d all 0
none_within g state None all = (le-leb 0 (path_length g) (omega arith), le-leb 0 (dirty_bound g state) (omega arith))
none_within g state (Some k) all = omega arith

-- a refusal that is legal and fits, with these steps
pub record CanBeRefusedIn (setup : Setup) (old : WorldState) (command : Command) (marks : List Mark) (d : Option ℕ) (place : Place) (steps : ℕ) :
    Type 0 where
  pub legal : IsEngineLegal setup old.state (view_in setup old) command (Say.Refused d place steps)
  pub fits :
      Fits setup old.state (view_in setup old) command
      (record { marks = marks; answer = Say.Refused d place steps })

pub next_count : {n : ℕ} (k : ℕ) → k ≡ n → suc n ≡ k + 1
next_count k same = omega (arith, same)
