-- How far a redo came, from any sound lines on: how many of its engine writes are done.
use Rattle.std.proofs.Common.{ℕ, ◌≡◌, ◌<◌, ◌≤◌, ◌+◌, List, [], length, Result, Ok, sym, ap, subst, ◌∙◌, arith, rules}
use Rattle.txn_session.proofs.Common.{append-nil, Line, line_at, Mark, Posted, IsShape, Setup, Memory, plain_memory, Fault, Parts, HasReadLine, AreTargets, IsHeader, AreEdited, redoing_edits, HasTargetsRedone, logged_lines, one_header, logged_size, redoing_fit, read_steps, memory_now, AreDone, memory_done, read_line, read_done, redo_writes, targets_in_force, all_posted, cost, EndsAt, edits_go, most_of_redo, HoldsLogged}
use Rattle.pmem_base.specs.Layout as layout
use Rattle.txn_session.proofs.Worlds.{few_lines}
use Rattle.txn_session.proofs.WriteLists.{posted_redo}
use Rattle.txn_session.proofs.RedoLists.{cost_redo}

module _ (setup : Setup) (shape : IsShape setup.shape) (marks : List Mark) (holds : HoldsLogged setup marks) where
  abbrev n : ℕ
  n = logged_lines setup.shape

  abbrev places : Memory
  places = plain_memory setup marks

  abbrev targets : List ℕ
  targets = targets_in_force setup places

  abbrev its_targets : AreTargets n targets
  its_targets = holds.header.its_targets

  pub long : n + 1 + length targets ≤ length places
  long = search rules

  pub header_inside : n < layout.data_lines setup.shape
  header_inside = let its = logged_size setup.shape in omega (arith, its)

module _ (setup : Setup) (shape : IsShape setup.shape) (first middle : Parts) (bound : ℕ) (holds : HoldsLogged setup first.ledger.marks)
    (begun : AreDone setup first [] [] bound middle) where
  abbrev its_lines : ℕ
  its_lines = logged_lines setup.shape

  abbrev its_places : Memory
  its_places = plain_memory setup first.ledger.marks

  abbrev pub in_force : List ℕ
  in_force = targets_in_force setup its_places

  abbrev pub queue : List Posted
  queue = redo_writes its_lines in_force its_places

  abbrev fits : AreTargets its_lines in_force
  fits = holds.header.its_targets

  -- the header that is read is that of the targets in force
  pub header_read : (new : Parts) (line : Line) → HasReadLine setup its_lines middle new (Ok line) → IsHeader its_lines line in_force
  header_read new line read =
      subst (λ l. IsHeader its_lines l in_force)
      (sym (read_line setup first middle [] [] bound begun its_lines new line (header_inside setup shape first.ledger.marks holds) read
      ∙ ap (λ m. line_at m its_lines) (memory_done setup first middle [] [] bound begun))) holds.header

  pub found_targets : (new : Parts) (line : Line) (found : List ℕ) → HasReadLine setup its_lines middle new (Ok line) → IsHeader its_lines line found
      → found ≡ in_force
  found_targets new line found read header =
      one_header its_lines line found in_force (let few = few_lines setup.shape shape in omega (arith, few)) header (header_read new line read)

  -- the redo of it
  pub redo_ends : (found : List ℕ) (new : Parts) (answer : Result (Unit {0}) Fault) → HasTargetsRedone setup found middle new answer
      → EndsAt setup first queue 0 (length (redoing_edits its_lines in_force)) (bound + read_steps setup.shape + most_of_redo setup.shape (length in_force))
      answer new
  redo_ends found new answer redo =
      let same = found_targets redo.between redo.line found redo.was_read redo.header in
      let read = read_done setup first middle [] [] bound begun its_lines redo.between redo.line redo.was_read in
      let most = bound + read_steps setup.shape in
      let memory : memory_now setup redo.between ≡ its_places = memory_done setup first redo.between [] [] most read in
      subst (λ m. EndsAt setup first queue 0 (length (redoing_edits its_lines in_force)) (most + m) answer new) (cost_redo setup.shape its_lines in_force)
      (subst (λ k. EndsAt setup first queue 0 k (most + cost setup.shape (redoing_edits its_lines in_force)) answer new) (omega arith)
      (edits_go setup first queue (redoing_edits its_lines in_force) 0 most [] redo.between new [] answer
      (redoing_fit its_lines (layout.data_lines setup.shape) (logged_size setup.shape) in_force fits.few fits.below) read
      (sym (posted_redo its_lines in_force its_places fits.below.each (long setup shape first.ledger.marks holds))
      ∙ ap (λ m. all_posted m (redoing_edits its_lines in_force)) (sym memory)
      ∙ sym (append-nil (all_posted (memory_now setup redo.between) (redoing_edits its_lines in_force))))
      (subst (λ ts. AreEdited setup (redoing_edits its_lines ts) redo.between new answer) same redo.was_redone)))
