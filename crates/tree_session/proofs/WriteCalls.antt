-- A write, as the fields of a session have it.
use Rattle.std.proofs.Common.{ℕ, ◌≡◌, ◌<◌, ◌≤◌, false, Option, Some, None, Ok, Err, refl, subst, sym}
use Rattle.tree_session.proofs.Common.{Result, option_map, slice_set, Line, Exhibit, IsLine, Setup, BoardMemory, tree_lines, TreeFault, TreeState, HasWrittenTreeLine, write_plan, Halt, SessionState, tree_setup_in, TreeParts, state_of, IsTreeWorld, tree_decided, IsTreeAnswered, IsTreeHalt}
use Rattle.asit_shadow.specs.declared.fault.TreeFault.TheVariants as Fail
use Rattle.trace_text.specs.declared.talk.Halt.TheVariants as Stop
use Rattle.tree_session.specs.declared.commands.TreeCommand.TheVariants as Do
use Rattle.tree_session.specs.declared.answers.TreeAnswer.TheVariants as Say
use Rattle.tree_session.proofs.EngineCalls.{undecided_line}
use Rattle.tree_session.proofs.Worlds.{powered_from, EndsBy, left, left_resting, from, ended_to, still_up, trusted_from, held_still, cut_still}
use Rattle.tree_session.proofs.WriteLaws.{WasWritten, written_held, written_done, is_lost, lost_done, kept_held, kept_done, unwritten_done, spent_done, unwritten_shown_held, unwritten_shown_done, unwritten_shown_minors}
use Rattle.tree_session.proofs.AnswerClauses.{WorldCall, call, setup_under, as_known, seen, held, halts, some_of}

pub record WriteTreeCall : Type 0 where
  pub world : WorldCall
  pub at : ℕ
  pub within : at < tree_lines world.geometry
  pub line : Line
  pub whole : IsLine line
  pub answer : Result ℕ TreeFault
  pub was_written :
      HasWrittenTreeLine (setup_under world.formulas_of world.engine.shape world.parts.keys) at line (from (call world)) (ended_to (call world)) answer
  pub plan : EndsBy (call world) (write_plan (setup_under world.formulas_of world.engine.shape world.parts.keys) world.parts.board.regs at line) answer

module _ (r : WriteTreeCall) where
  abbrev kept : Option TreeState → TreeParts
  kept found = left (call r.world) found r.world.parts.hurt

  abbrev made : Option TreeState → TreeParts
  made found = left (call r.world) found (slice_set r.world.parts.hurt r.at false)

  abbrev pub under : TreeParts → TreeParts
  under q = record q { keys = r.world.keys }

  abbrev pub setup_then : Setup
  setup_then = setup_under r.world.formulas_of r.world.geometry r.world.keys

  -- the state doesn't decide the answer
  pub undecided_now : tree_decided r.world.now.shape r.world.now.plain (Do.Write r.at r.line) ≡ None
  undecided_now =
      subst (λ (w : SessionState). tree_decided w.shape w.plain (Do.Write r.at r.line) ≡ None) r.world.is
      (undecided_line r.world.parts.board.powered r.at (tree_lines r.world.geometry) Say.Off Say.Range (powered_from (call r.world)) r.within)

  was : (known : Result ℕ TreeFault) → r.answer ≡ known → WasWritten (call r.world) r.at r.line known
  was known is =
      record {
        written = as_known r.world (λ s answer. HasWrittenTreeLine s r.at r.line (from (call r.world)) (ended_to (call r.world)) answer) r.answer known is r.was_written;
        follows = as_known r.world (λ s answer. EndsBy (call r.world) (write_plan s r.world.parts.board.regs r.at r.line) answer) r.answer known is r.plan;
      }

  pub made_held : (counter : ℕ) → r.answer ≡ Ok counter → IsTreeWorld setup_then (under (made (Some r.world.after)))
  made_held counter is = held r.world (made (Some r.world.after)) (written_held (call r.world) r.at r.within r.line r.whole counter (was (Ok counter) is))

  pub made_seen : (counter : ℕ) → r.answer ≡ Ok counter
      → IsTreeAnswered (tree_setup_in r.world.formulas_of r.world.now) r.world.now (Do.Write r.at r.line) (Say.Written r.world.said) (state_of setup_then (under (made (Some r.world.after))))
  made_seen counter is =
      seen r.world (made (Some r.world.after)) (Do.Write r.at r.line) Say.Written refl (written_done (call r.world) r.at r.within r.line r.whole counter (was (Ok counter) is))

  pub node_kept : (x : ℕ) → r.answer ≡ Err (Fail.Node x) → IsTreeWorld setup_then (under (kept (Some r.world.after)))
  node_kept x is = held r.world (kept (Some r.world.after)) (held_still (call r.world) ((was (Err (Fail.Node x)) is).written.done (trusted_from (call r.world)).not_down).effect
      (still_up (call r.world) (Err (Fail.Node x)) refl (was (Err (Fail.Node x)) is).written.down))

  pub node_seen : (x : ℕ) → r.answer ≡ Err (Fail.Node x)
      → IsTreeAnswered (tree_setup_in r.world.formulas_of r.world.now) r.world.now (Do.Write r.at r.line) (Say.RefusedNode x r.world.said) (state_of setup_then (under (kept (Some r.world.after))))
  node_seen x is =
      seen r.world (kept (Some r.world.after)) (Do.Write r.at r.line) (Say.RefusedNode x) refl
      (unwritten_done (call r.world) r.at r.within r.line r.whole x (was (Err (Fail.Node x)) is))

  pub spent_kept : r.answer ≡ Err Fail.Spent → IsTreeWorld setup_then (under (kept (Some r.world.after)))
  spent_kept is = held r.world (kept (Some r.world.after)) (held_still (call r.world) ((was (Err Fail.Spent) is).written.done (trusted_from (call r.world)).not_down).effect
      (still_up (call r.world) (Err Fail.Spent) refl (was (Err Fail.Spent) is).written.down))

  pub spent_seen : r.answer ≡ Err Fail.Spent
      → IsTreeAnswered (tree_setup_in r.world.formulas_of r.world.now) r.world.now (Do.Write r.at r.line) (Say.Spent r.world.said) (state_of setup_then (under (kept (Some r.world.after))))
  spent_seen is =
      seen r.world (kept (Some r.world.after)) (Do.Write r.at r.line) Say.Spent refl (spent_done (call r.world) r.at r.within r.line r.whole (was (Err Fail.Spent) is))

  pub lost_kept : r.answer ≡ Err Fail.Cut → r.world.taken.latches ≤ 0 → IsTreeWorld setup_then (under (kept None))
  lost_kept is none =
      let cut = was (Err Fail.Cut) is in
      held r.world (kept None)
      (cut_still (call r.world) (cut.written.done (trusted_from (call r.world)).not_down).effect (is_lost (call r.world) r.at r.within r.line r.whole cut none).regs)

  pub lost_seen : r.answer ≡ Err Fail.Cut → r.world.taken.latches ≤ 0
      → IsTreeAnswered (tree_setup_in r.world.formulas_of r.world.now) r.world.now (Do.Write r.at r.line) (Say.CutLost r.world.said) (state_of setup_then (under (kept None)))
  lost_seen is none =
      seen r.world (kept None) (Do.Write r.at r.line) Say.CutLost refl (lost_done (call r.world) r.at r.within r.line r.whole (was (Err Fail.Cut) is) none)

  pub cut_kept : r.answer ≡ Err Fail.Cut → 0 < r.world.taken.latches → IsTreeWorld setup_then (under (made None))
  cut_kept is some = held r.world (made None) (kept_held (call r.world) r.at r.within r.line r.whole (was (Err Fail.Cut) is) some)

  pub cut_seen : r.answer ≡ Err Fail.Cut → 0 < r.world.taken.latches
      → IsTreeAnswered (tree_setup_in r.world.formulas_of r.world.now) r.world.now (Do.Write r.at r.line) (Say.CutKept r.world.said) (state_of setup_then (under (made None)))
  cut_seen is some =
      seen r.world (made None) (Do.Write r.at r.line) Say.CutKept refl (kept_done (call r.world) r.at r.within r.line r.whole (was (Err Fail.Cut) is) some)

  -- where the watch stopped the engine, it has an exhibit
  exhibit_of : r.answer ≡ Err Fail.Shown → (exhibit : Exhibit) × (r.world.watch.exhibit ≡ Some exhibit)
  exhibit_of is =
      some_of r.world.watch.exhibit ((((was (Err Fail.Shown) is).written.done (trusted_from (call r.world)).not_down).watch tt).stopped refl)

  -- the board rests then
  module _ (is : r.answer ≡ Err Fail.Shown) (rested : BoardMemory) (rests : rested ≡ record r.world.board { powered = false }) where
    pub shown_kept : IsTreeWorld setup_then (record (under (left_resting (call r.world))) { board = rested })
    shown_kept =
        let found = exhibit_of is in
        subst (λ (b : BoardMemory). IsTreeWorld setup_then (record (under (left_resting (call r.world))) { board = b })) (sym rests)
        (held r.world (left_resting (call r.world)) (unwritten_shown_held (call r.world) r.at r.within r.line r.whole found.0 found.1 (was (Err Fail.Shown) is)))

    pub shown_seen : (halt : Halt) → Some halt ≡ option_map Stop.Shown r.world.watch.exhibit
        → IsTreeHalt (tree_setup_in r.world.formulas_of r.world.now) r.world.now (Do.Write r.at r.line) halt (state_of setup_then (record (under (left_resting (call r.world))) { board = rested }))
    shown_seen halt told =
        let found = exhibit_of is in
        subst (λ (b : BoardMemory). IsTreeHalt (tree_setup_in r.world.formulas_of r.world.now) r.world.now (Do.Write r.at r.line) halt (state_of setup_then (record (under (left_resting (call r.world))) { board = b }))) (sym rests)
        (halts r.world.formulas_of r.world.geometry r.world.parts (left_resting (call r.world)) r.world.now r.world.keys (Do.Write r.at r.line) halt found.0
        r.world.watch.exhibit r.world.is r.world.same_keys refl told found.1 (unwritten_shown_minors (call r.world) r.at r.within r.line r.whole found.0 found.1 (was (Err Fail.Shown) is))
        (unwritten_shown_done (call r.world) r.at r.within r.line r.whole found.0 found.1 (was (Err Fail.Shown) is)))
