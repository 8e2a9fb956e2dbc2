-- A run goes on by the world's steps.
use Rattle.std.proofs.Common.{rules, ◌≡◌, ◌∙◌, ℕ, Bool, true, false, List, [], ◌∷◌, ◌++◌, refl, sym, ap, subst, inl, inr}
use Rattle.std.specs.Prelude.{◌⊎◌}
use Rattle.pmem_base.specs.declared.commands.Command.{Command}
use Rattle.pmem_base.specs.declared.answers.Mark.{Mark}
use Rattle.pmem_base.specs.Counts.{risen_times}
use Rattle.pmem_base.specs.Layout as layout
use Rattle.pmem_base.specs.Shape.{Shape}
use Rattle.suite.specs.Formulas.{Formulas}
use Rattle.suite.specs.Setup.{Setup}
use Rattle.plain_model.specs.State.{PlainState, Reply}
use Rattle.plain_model.specs.View.{DeviceView, start_view, view_of, view_after_marks}
use Rattle.plain_model.specs.Answers.{is_shown}
use Rattle.plain_model.specs.Run.{Machine, Step, start, machine_after, machine_after_all}
use Rattle.plain_model.proofs.Views.{view_after_marks-append}
use Rattle.pmem_replay.specs.World.{WorldState, setup_of_world, view_in}
use Rattle.pmem_replay.specs.Stepped.{HasFormatWork, IsNewWorld, HasStepped, AddsFewSteps}
use Rattle.pmem_cli.specs.Standing.{Standing, standing_of, AreStepped, IsFirstWorld, StandingAfter}
use Rattle.pmem_cli.specs.Replies.{HasReplied}

pub machine_after_all-append : (setup : Setup) (machine : Machine) (xs ys : List Step)
    → machine_after_all setup machine (xs ++ ys) ≡ machine_after_all setup (machine_after_all setup machine xs) ys
machine_after_all-append setup machine [] ys = refl
machine_after_all-append setup machine (x ∷ xs) ys = machine_after_all-append setup (machine_after setup machine x) xs ys

pub AreStepped-append : (setup : Setup) (a b c : WorldState) (xs ys : List Step) → AreStepped setup a xs b → AreStepped setup b ys c → AreStepped setup a (xs ++ ys) c
AreStepped-append setup a b c [] ys first second = subst (λ w. AreStepped setup w ys c) first second
AreStepped-append setup a b c (x ∷ xs) ys first second = (first.0, first.1, AreStepped-append setup first.0 b c xs ys first.2 second)

pub StandingAfter-nil : (s : Standing) → s.world.shown ≡ false → StandingAfter s s []
StandingAfter-nil s running = record { setup = refl; machine = refl; running = running; chain = refl }

pub StandingAfter-trans : (s t u : Standing) (xs ys : List Step) → StandingAfter s t xs → StandingAfter t u ys → StandingAfter s u (xs ++ ys)
StandingAfter-trans s t u xs ys first second = record {
  setup = second.setup ∙ first.setup;
  machine =
      second.machine ∙ ap (λ setup. machine_after_all setup t.machine ys) first.setup
      ∙ ap (λ machine. machine_after_all s.setup machine ys) first.machine ∙ sym (machine_after_all-append s.setup s.machine xs ys);
  running = second.running;
  chain =
      AreStepped-append s.setup s.world t.world u.world xs ys first.chain
      (subst (λ setup. AreStepped setup t.world ys u.world) first.setup second.chain);
}

-- a chain that follows a run
pub AreStepped-after : (s t : Standing) (last : WorldState) (xs ys : List Step) → StandingAfter s t xs → AreStepped t.setup t.world ys last → AreStepped s.setup s.world (xs ++ ys) last
AreStepped-after s t last xs ys first second =
    AreStepped-append s.setup s.world t.world last xs ys first.chain (subst (λ setup. AreStepped setup t.world ys last) first.setup second)

-- ---- one step of the world

same_machine : (s t : PlainState) (v w : DeviceView) → s ≡ t → v ≡ w → ◌≡◌ {A = Machine} (record { state = s; view = v }) (record { state = t; view = w })
same_machine s t v w states views = rw (states, views) refl

-- what the marks say after more of them
view_more : (g h : Shape) (old new more : List Mark) → h ≡ g → new ≡ old ++ more → view_of h new ≡ view_after_marks (view_of g old) more
view_more g h old new more shape marks = rw (shape, marks) (view_after_marks-append (start_view g) old more)

pub StandingAfter-step : (f : List ℕ → Formulas) (old new : WorldState) (step : Step) → HasStepped (setup_of_world f old) old step.command step.reply new → AddsFewSteps old new
    → is_shown step.reply.answer ≡ false
    → StandingAfter (standing_of f old) (standing_of f new) (step ∷ [])
unfolding machine_after
StandingAfter-step f old new step stepped few hidden = record {
  setup = rw (stepped.same_shape, stepped.same_keys) refl;
  machine =
      same_machine new.state _ (view_in (setup_of_world f new) new) _ (stepped.state hidden)
      (view_more old.shape new.shape old.ledger.marks new.ledger.marks step.reply.marks stepped.same_shape stepped.marks);
  running = stepped.shown ∙ hidden;
  chain = (new, record { stepped = stepped; few = few }, refl);
}

-- so the run goes on, unless the reply is an exhibit
pub goes_or_shown : (v : Bool) (f : List ℕ → Formulas) (old new : WorldState) (step : Step) → is_shown step.reply.answer ≡ v
    → HasStepped (setup_of_world f old) old step.command step.reply new → AddsFewSteps old new
    → (is_shown step.reply.answer ≡ true) ⊎ StandingAfter (standing_of f old) (standing_of f new) (step ∷ [])
goes_or_shown true f old new step shown stepped few = inl shown
goes_or_shown false f old new step hidden stepped few = inr (StandingAfter-step f old new step stepped few hidden)

-- the world's reply as the command's
pub HasReplied-step : (f : List ℕ → Formulas) (old new : WorldState) (command : Command) (reply : Reply) → HasStepped (setup_of_world f old) old command reply new → AddsFewSteps old new
    → HasReplied (standing_of f old) command (record { command = command; reply = reply })
HasReplied-step f old new command reply stepped few = search rules

-- ---- a new world

pub new_setup : (f : List ℕ → Formulas) (shape : Shape) (keys : List ℕ) (world : WorldState) → IsNewWorld (record { shape = shape; formulas = f keys }) world → world.keys ≡ keys
    → (standing_of f world).setup ≡ record { shape = shape; formulas = f keys }
new_setup f shape keys world is same = rw (is.its_shape, same) refl

pub new_machine : (f : List ℕ → Formulas) (setup : Setup) (world : WorldState) → IsNewWorld setup world → (standing_of f world).machine ≡ start setup
unfolding start
new_machine f setup world is =
    same_machine world.state _ (view_of world.shape world.ledger.marks) _ is.state (ap (λ g. view_of g world.ledger.marks) is.its_shape ∙ is.view)

-- over a suite that had made nothing
pub first_world : (setup : Setup) (world : WorldState) (tags digests : ℕ) → IsNewWorld setup world → HasFormatWork setup.shape tags digests world
    → (tags ≡ 0) × (digests ≡ 0) → IsFirstWorld setup world
first_world setup world tags digests new work unused = record {
  new = new;
  work = record {
    tags = work.tags ∙ ap (risen_times (layout.data_lines setup.shape)) unused.0;
    digests = work.digests ∙ ap (risen_times (layout.meta_lines setup.shape)) unused.1;
  };
}
