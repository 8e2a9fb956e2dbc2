-- A read, as the fields of a session have it.
use Rattle.std.proofs.Common.{ℕ, ◌≡◌, ◌<◌, false, Option, Some, None, Ok, Err, refl, subst, sym}
use Rattle.tree_session.proofs.Common.{Result, option_map, Line, Exhibit, BoardMemory, tree_lines, TreeFault, HasReadTreeLine, read_plan, Halt, SessionState, tree_setup_in, TreeParts, state_of, IsTreeWorld, tree_decided, IsTreeAnswered, IsTreeHalt}
use Rattle.asit_shadow.specs.declared.fault.TreeFault.TheVariants as Fail
use Rattle.trace_text.specs.declared.talk.Halt.TheVariants as Stop
use Rattle.tree_session.specs.declared.commands.TreeCommand.TheVariants as Do
use Rattle.tree_session.specs.declared.answers.TreeAnswer.TheVariants as Say
use Rattle.tree_session.proofs.EngineCalls.{undecided_line}
use Rattle.tree_session.proofs.Worlds.{powered_from, EndsBy, left, left_resting, from, ended_to, still_up, trusted_from, held_still, cut_still}
use Rattle.tree_session.proofs.ReadLaws.{WasRead, read_done, cut_done, node_done, tag_done, shown_held, shown_done, shown_minors}
use Rattle.tree_session.proofs.AnswerClauses.{WorldCall, call, setup_under, as_known, seen, held, halts, some_of}

pub record ReadTreeCall : Type 0 where
  pub world : WorldCall
  pub at : ℕ
  pub within : at < tree_lines world.geometry
  pub answer : Result Line TreeFault
  pub was_read :
      HasReadTreeLine (setup_under world.formulas_of world.engine.shape world.parts.keys) at (from (call world)) (ended_to (call world)) answer
  pub plan : EndsBy (call world) (read_plan (setup_under world.formulas_of world.engine.shape world.parts.keys) at) answer

module _ (r : ReadTreeCall) where
  abbrev kept : Option Rattle.asit_shadow.specs.State.TreeState → TreeParts
  kept found = left (call r.world) found r.world.parts.hurt

  abbrev pub under : TreeParts → TreeParts
  under q = record q { keys = r.world.keys }

  abbrev pub setup_then : Rattle.suite.specs.Setup.Setup
  setup_then = setup_under r.world.formulas_of r.world.geometry r.world.keys

  -- the state doesn't decide the answer
  pub undecided_now : tree_decided r.world.now.shape r.world.now.plain (Do.Read r.at) ≡ None
  undecided_now =
      subst (λ (w : SessionState). tree_decided w.shape w.plain (Do.Read r.at) ≡ None) r.world.is
      (undecided_line r.world.parts.board.powered r.at (tree_lines r.world.geometry) Say.Off Say.Range (powered_from (call r.world)) r.within)

  was : (known : Result Line TreeFault) → r.answer ≡ known → WasRead (call r.world) r.at known
  was known is =
      record {
        read = as_known r.world (λ s answer. HasReadTreeLine s r.at (from (call r.world)) (ended_to (call r.world)) answer) r.answer known is r.was_read;
        follows = as_known r.world (λ s answer. EndsBy (call r.world) (read_plan s r.at) answer) r.answer known is r.plan;
      }

  pub got_held : (line : Line) → r.answer ≡ Ok line → IsTreeWorld setup_then (under (kept (Some r.world.after)))
  got_held line is = held r.world (kept (Some r.world.after)) (held_still (call r.world) ((was (Ok line) is).read.done (trusted_from (call r.world)).not_down).effect
      (still_up (call r.world) (Ok line) refl (was (Ok line) is).read.down))

  pub got_seen : (line : Line) → r.answer ≡ Ok line
      → IsTreeAnswered (tree_setup_in r.world.formulas_of r.world.now) r.world.now (Do.Read r.at) (Say.Got line r.world.said) (state_of setup_then (under (kept (Some r.world.after))))
  got_seen line is =
      seen r.world (kept (Some r.world.after)) (Do.Read r.at) (Say.Got line) refl (read_done (call r.world) r.at r.within line (was (Ok line) is))

  pub node_kept : (x : ℕ) → r.answer ≡ Err (Fail.Node x) → IsTreeWorld setup_then (under (kept (Some r.world.after)))
  node_kept x is = held r.world (kept (Some r.world.after)) (held_still (call r.world) ((was (Err (Fail.Node x)) is).read.done (trusted_from (call r.world)).not_down).effect
      (still_up (call r.world) (Err (Fail.Node x)) refl (was (Err (Fail.Node x)) is).read.down))

  pub node_seen : (x : ℕ) → r.answer ≡ Err (Fail.Node x)
      → IsTreeAnswered (tree_setup_in r.world.formulas_of r.world.now) r.world.now (Do.Read r.at) (Say.RefusedNode x r.world.said) (state_of setup_then (under (kept (Some r.world.after))))
  node_seen x is =
      seen r.world (kept (Some r.world.after)) (Do.Read r.at) (Say.RefusedNode x) refl (node_done (call r.world) r.at r.within x (was (Err (Fail.Node x)) is))

  pub tag_kept : (t : ℕ) → r.answer ≡ Err (Fail.Tag t) → IsTreeWorld setup_then (under (kept (Some r.world.after)))
  tag_kept t is = held r.world (kept (Some r.world.after)) (held_still (call r.world) ((was (Err (Fail.Tag t)) is).read.done (trusted_from (call r.world)).not_down).effect
      (still_up (call r.world) (Err (Fail.Tag t)) refl (was (Err (Fail.Tag t)) is).read.down))

  pub tag_seen : (t : ℕ) → r.answer ≡ Err (Fail.Tag t)
      → IsTreeAnswered (tree_setup_in r.world.formulas_of r.world.now) r.world.now (Do.Read r.at) (Say.RefusedData t r.world.said) (state_of setup_then (under (kept (Some r.world.after))))
  tag_seen t is =
      seen r.world (kept (Some r.world.after)) (Do.Read r.at) (Say.RefusedData t) refl (tag_done (call r.world) r.at r.within t (was (Err (Fail.Tag t)) is))

  pub cut_kept : r.answer ≡ Err Fail.Cut → IsTreeWorld setup_then (under (kept None))
  cut_kept is =
      let cut = (was (Err Fail.Cut) is).read.done (trusted_from (call r.world)).not_down in
      held r.world (kept None) (cut_still (call r.world) cut.effect cut.regs)

  pub cut_seen : r.answer ≡ Err Fail.Cut
      → IsTreeAnswered (tree_setup_in r.world.formulas_of r.world.now) r.world.now (Do.Read r.at) (Say.Cut r.world.said) (state_of setup_then (under (kept None)))
  cut_seen is = seen r.world (kept None) (Do.Read r.at) Say.Cut refl (cut_done (call r.world) r.at r.within (was (Err Fail.Cut) is))

  -- where the watch stopped the engine, it has an exhibit
  pub exhibit_of : r.answer ≡ Err Fail.Shown → (exhibit : Exhibit) × (r.world.watch.exhibit ≡ Some exhibit)
  exhibit_of is =
      some_of r.world.watch.exhibit (((was (Err Fail.Shown) is).read.done (trusted_from (call r.world)).not_down).watch.stopped refl)

  -- the board rests then
  module _ (is : r.answer ≡ Err Fail.Shown) (rested : BoardMemory) (rests : rested ≡ record r.world.board { powered = false }) where
    pub shown_kept : IsTreeWorld setup_then (record (under (left_resting (call r.world))) { board = rested })
    shown_kept =
        let found = exhibit_of is in
        subst (λ (b : BoardMemory). IsTreeWorld setup_then (record (under (left_resting (call r.world))) { board = b })) (sym rests)
        (held r.world (left_resting (call r.world)) (shown_held (call r.world) r.at r.within found.0 found.1 (was (Err Fail.Shown) is)))

    pub shown_seen : (halt : Halt) → Some halt ≡ option_map Stop.Shown r.world.watch.exhibit
        → IsTreeHalt (tree_setup_in r.world.formulas_of r.world.now) r.world.now (Do.Read r.at) halt (state_of setup_then (record (under (left_resting (call r.world))) { board = rested }))
    shown_seen halt told =
        let found = exhibit_of is in
        subst (λ (b : BoardMemory). IsTreeHalt (tree_setup_in r.world.formulas_of r.world.now) r.world.now (Do.Read r.at) halt (state_of setup_then (record (under (left_resting (call r.world))) { board = b }))) (sym rests)
        (halts r.world.formulas_of r.world.geometry r.world.parts (left_resting (call r.world)) r.world.now r.world.keys (Do.Read r.at) halt found.0
        r.world.watch.exhibit r.world.is r.world.same_keys refl told found.1 (shown_minors (call r.world) r.at r.within found.0 found.1 (was (Err Fail.Shown) is))
        (shown_done (call r.world) r.at r.within found.0 found.1 (was (Err Fail.Shown) is)))
