use Rattle.std.proofs.Common.{[], ℕ, ◌+◌, List, get_or, drop, refl, ap, sym, ◌∙◌, Option, arith}
use Rattle.std.proofs.lemmas.List.{at_drop_more}
use Rattle.pmem_base.specs.declared.lines.Line.{Line}
use Rattle.board.proofs.CountLemmas.{RisesBy-then, RisesBy-once}
use Rattle.call_plan.specs.Plans.{the_cut}
use Rattle.call_plan.proofs.Steps.{is_done, write_then, write_cut, answered_err}
use Rattle.call_plan.proofs.Loops.{reached_start, item_ok, item_err, items_end}
use Rattle.commit_regs.specs.Groups.{redone_told}
use Rattle.commit_regs.specs.Plans.{line_plan, lines_plan}
use Rattle.commit_regs.proofs.GroupLemmas.{redone-cons, redone-with_line, Writes-get_or}
use Rattle.commit_regs.proofs.write_all.Goals as goal

abbrev no_entry : ℕ × Line
no_entry = (0, record { 0 = [] })

-- each write takes the next entry of the group
pub loop-at-preserved : goal.loop-at-preserved
loop-at-preserved g c =
    let group : List (ℕ × Line) = c.args.group.now in
    let i = c.loop-at.at-index in
    let entry : ℕ × Line = get_or group i no_entry in
    let told : Option (List Line) = (g.B.Board.device c.loop-at.board).lines in
    let next = at_drop_more (λ (left : List (ℕ × Line)). redone_told left told) group i no_entry c.loop-at-test.true in
    let written = c.in_ok-write_line.ensures.ok.lines in
    record {
      rest = ap (redone_told (drop (i + 1) group)) written
          ∙ sym (redone-cons entry (drop (i + 1) group) told) ∙ sym next ∙ c.loop-at.invariant.rest;
      again = ap (redone_told group) written
          ∙ redone-with_line group told entry.0 entry.1 (Writes-get_or group i no_entry c.loop-at-test.true)
          ∙ c.loop-at.invariant.again;
      writes = RisesBy-then _ _ _ _ _ c.loop-at.invariant.writes (RisesBy-once c.in_ok-write_line.ensures.ok.writes);
      cuts = c.in_ok-write_line.ensures.ok.cuts ∙ c.loop-at.invariant.cuts;
      size = c.in_ok-write_line.ensures.ok.size ∙ c.loop-at.invariant.size;
      regs = c.in_ok-write_line.ensures.ok.regs ∙ c.loop-at.invariant.regs;
      reads = c.in_ok-write_line.ensures.ok.reads ∙ c.loop-at.invariant.reads;
      latches = c.in_ok-write_line.ensures.ok.latches ∙ c.loop-at.invariant.latches;
      steady = λ s. c.in_ok-write_line.ensures.ok.steady ∙ c.loop-at.invariant.steady s;
      live = λ l. c.in_ok-write_line.ensures.ok.live ∙ c.loop-at.invariant.live l;
      reached =
          item_ok line_plan group i tt c.loop-at.invariant.reached no_entry c.loop-at-test.true
          (write_then the_cut c.in_ok-write_line.ensures.ok (is_done tt (g.B.Board.device c.write_line.new.self)));
    }

pub loop-at-init : goal.loop-at-init
loop-at-init g c =
    record {
      rest = refl;
      again = refl;
      writes = record { never_falls = omega arith; exact = λ below. omega arith };
      size = refl;
      regs = refl;
      reads = refl;
      latches = refl;
      cuts = refl;
      steady = λ s. s;
      live = λ l. l;
      reached = reached_start (lines_plan c.args.group.now) (g.B.Board.device c.args.board.now);
    }

pub returns-in_err-write_line-clause-plan : goal.returns-in_err-write_line-clause-plan
returns-in_err-write_line-clause-plan g c =
    answered_err c.from_residual.result c.from_residual.ensures.1
    (item_err line_plan c.args.group.now c.loop-at.at-index tt c.loop-at.invariant.reached no_entry c.loop-at-test.true
    (write_cut the_cut _ _ _ c.in_err-write_line.ensures.cut))

pub returns-clause-plan : goal.returns-clause-plan
returns-clause-plan g c =
    items_end line_plan c.args.group.now c.loop-at.at-index tt c.loop-at.invariant.reached c.loop-at-test.false
