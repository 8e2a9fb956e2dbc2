-- The line is read after its path.
use Rattle.std.proofs.Common.{ℕ, ◌≡◌, ◌%◌, List, refl, sym, ap, subst, subst₂, ◌∙◌, rules}
use Rattle.asit_shadow.proofs.Common.{Result, Ok, Err, IsSome, slice_index, Line, shape_of, Shape, Follows, ReadParts, read_parts, line_plan, leaving, FetchFault, IsLineFetched, WatchState, last_seal_of, TreeFault, TreeChip, tree_chip_of, read_parts_of, fault_of_line, tree_chip_at, tree_parts_at, tree_setup_at}
use Rattle.counter_tree.specs.declared.accepted.FetchFault.TheVariants as Missed
use Rattle.asit_shadow.specs.declared.fault.TreeFault.TheVariants as Fail
use Rattle.asit_shadow.specs.Plans.{read_line_plan}
use Rattle.asit_shadow.proofs.CalledPlans.{unfetched_read, fetched_read, refused_read}
use Rattle.asit_shadow.proofs.ReadEnds.{IsPathHad, line_counter-is, read-ok, read-cut, read-refused, read-shown}
use Rattle.asit_shadow.proofs.engine.TreeEngine.read_line.Given.{Over}
use Rattle.asit_shadow.proofs.engine.TreeEngine.read_line.Goals.{After-fetch_line}
use Rattle.asit_shadow.proofs.engine.TreeEngine.read_line.Goals as goal

module _ (g : Over) (c : After-fetch_line g) where
  had : IsPathHad (tree_setup_at g.S.Suite c.args.self.now c.args.suite.now) c.args.at (slice_index c.in-Ok.node.0 (c.args.at % 4))
      (tree_parts_at g.B.Board g.W.Watch c.args.self.now c.args.board.now c.args.watch.now) (tree_parts_at g.B.Board g.W.Watch c.fetch.new.self c.fetch.new.board c.fetch.new.watch)
      (tree_parts_at g.B.Board g.W.Watch c.fetch.new.self c.fetch_line.new.board c.fetch_line.new.watch)
  had =
      record {
        shape = c.is_whole.ensures.shape;
        its_line = c.requires.line;
        path = c.in-Ok.ensures.fetched.path;
        counted =
            λ trusted.
            line_counter-is c.args.self.now.shape c.args.at (g.W.Watch.watched c.args.watch.now).nodes c.in-Ok.node (c.in-Ok.ensures.fetched.last trusted);
        engine = refl;
      }

  -- what was read is read under the formulas as the call begins
  read : (answer : Result Line FetchFault)
      → IsLineFetched (record { shape = shape_of c.geo.result; formulas = g.S.Suite.formulas_of (g.S.Suite.keys c.fetch.new.suite) }) c.args.at (slice_index c.in-Ok.node.0 (c.args.at % 4))
      (g.B.Board.device c.fetch.new.board) (g.B.Board.device c.fetch_line.new.board) (g.W.Watch.watched c.fetch.new.watch) (g.W.Watch.watched c.fetch_line.new.watch) answer
      → IsLineFetched (tree_setup_at g.S.Suite c.args.self.now c.args.suite.now) c.args.at (slice_index c.in-Ok.node.0 (c.args.at % 4))
      (g.B.Board.device c.fetch.new.board) (g.B.Board.device c.fetch_line.new.board) (g.W.Watch.watched c.fetch.new.watch) (g.W.Watch.watched c.fetch_line.new.watch) answer
  read answer it =
      subst₂ (λ (shape : Shape) (keys : List ℕ). IsLineFetched (record { shape = shape; formulas = g.S.Suite.formulas_of keys }) c.args.at (slice_index c.in-Ok.node.0 (c.args.at % 4))
      (g.B.Board.device c.fetch.new.board) (g.B.Board.device c.fetch_line.new.board) (g.W.Watch.watched c.fetch.new.watch) (g.W.Watch.watched c.fetch_line.new.watch) answer)
      (c.geo.ensures ∙ c.in-Ok.ensures.fetched.path.effect.shape) c.in-Ok.ensures.keys it

pub returns-in-Ok-fetch_line-clause-read : goal.returns-in-Ok-fetch_line-clause-read
returns-in-Ok-fetch_line-clause-read g c =
    let before = (goal.at.returns-in-Ok-fetch_line-clause-read g c).After-fetch_line in
    read-ok (tree_setup_at g.S.Suite c.args.self.now c.args.suite.now) c.args.at (slice_index c.in-Ok.node.0 (c.args.at % 4)) (tree_parts_at g.B.Board g.W.Watch c.args.self.now c.args.board.now c.args.watch.now)
    (tree_parts_at g.B.Board g.W.Watch c.fetch.new.self c.fetch.new.board c.fetch.new.watch) (tree_parts_at g.B.Board g.W.Watch c.fetch.new.self c.fetch_line.new.board c.fetch_line.new.watch) c.in-Ok-fetch_line.plain
    (had g before) (read g before (Ok c.in-Ok-fetch_line.plain) c.in-Ok-fetch_line.ensures.fetched)

pub returns-in-Err-Cut-clause-read : goal.returns-in-Err-Cut-clause-read
returns-in-Err-Cut-clause-read g c =
    let before = (goal.at.returns-in-Err-Cut-clause-read g c).After-fetch_line in
    let it = read g before (Err Missed.Cut)
    (subst (λ fault. IsLineFetched (record { shape = shape_of c.geo.result; formulas = g.S.Suite.formulas_of (g.S.Suite.keys c.fetch.new.suite) }) c.args.at (slice_index c.in-Ok.node.0 (c.args.at % 4))
    (g.B.Board.device c.fetch.new.board) (g.B.Board.device c.fetch_line.new.board) (g.W.Watch.watched c.fetch.new.watch) (g.W.Watch.watched c.fetch_line.new.watch) (Err fault)) c.in-Err-Cut.field-0-is c.in-Err-Cut.ensures.fetched) in
    read-cut (tree_setup_at g.S.Suite c.args.self.now c.args.suite.now) c.args.at (slice_index c.in-Ok.node.0 (c.args.at % 4)) (tree_parts_at g.B.Board g.W.Watch c.args.self.now c.args.board.now c.args.watch.now)
    (tree_parts_at g.B.Board g.W.Watch c.fetch.new.self c.fetch.new.board c.fetch.new.watch) (tree_parts_at g.B.Board g.W.Watch c.fetch.new.self c.fetch_line.new.board c.fetch_line.new.watch)
    (had g before) it.0 it.1 it.2

pub returns-in-Err-Refused-clause-read : goal.returns-in-Err-Refused-clause-read
returns-in-Err-Refused-clause-read g c =
    let before = (goal.at.returns-in-Err-Refused-clause-read g c).After-fetch_line in
    let it = read g before (Err Missed.Refused)
    (subst (λ fault. IsLineFetched (record { shape = shape_of c.geo.result; formulas = g.S.Suite.formulas_of (g.S.Suite.keys c.fetch.new.suite) }) c.args.at (slice_index c.in-Ok.node.0 (c.args.at % 4))
    (g.B.Board.device c.fetch.new.board) (g.B.Board.device c.fetch_line.new.board) (g.W.Watch.watched c.fetch.new.watch) (g.W.Watch.watched c.fetch_line.new.watch) (Err fault)) c.in-Err-Refused.field-0-is c.in-Err-Refused.ensures.fetched) in
    read-refused (tree_setup_at g.S.Suite c.args.self.now c.args.suite.now) c.args.at (slice_index c.in-Ok.node.0 (c.args.at % 4)) (tree_parts_at g.B.Board g.W.Watch c.args.self.now c.args.board.now c.args.watch.now)
    (tree_parts_at g.B.Board g.W.Watch c.fetch.new.self c.fetch.new.board c.fetch.new.watch) (tree_parts_at g.B.Board g.W.Watch c.fetch.new.self c.fetch_line.new.board c.fetch_line.new.watch)
    (had g before) it

pub returns-in-Err-Shown-clause-read : goal.returns-in-Err-Shown-clause-read
returns-in-Err-Shown-clause-read g c =
    let before = (goal.at.returns-in-Err-Shown-clause-read g c).After-fetch_line in
    let it = read g before (Err Missed.Shown)
    (subst (λ fault. IsLineFetched (record { shape = shape_of c.geo.result; formulas = g.S.Suite.formulas_of (g.S.Suite.keys c.fetch.new.suite) }) c.args.at (slice_index c.in-Ok.node.0 (c.args.at % 4))
    (g.B.Board.device c.fetch.new.board) (g.B.Board.device c.fetch_line.new.board) (g.W.Watch.watched c.fetch.new.watch) (g.W.Watch.watched c.fetch_line.new.watch) (Err fault)) c.in-Err-Shown.field-0-is c.in-Err-Shown.ensures.fetched) in
    let sealed = subst (λ (w : WatchState). IsSome (last_seal_of w c.args.at)) (sym c.in-Ok.ensures.fetched.path.watch) (c.requires.usable.watch.each_sealed c.args.at c.requires.line) in
    read-shown (tree_setup_at g.S.Suite c.args.self.now c.args.suite.now) c.args.at (slice_index c.in-Ok.node.0 (c.args.at % 4)) (tree_parts_at g.B.Board g.W.Watch c.args.self.now c.args.board.now c.args.watch.now)
    (tree_parts_at g.B.Board g.W.Watch c.fetch.new.self c.fetch.new.board c.fetch.new.watch) (tree_parts_at g.B.Board g.W.Watch c.fetch.new.self c.fetch_line.new.board c.fetch_line.new.watch)
    (had g before) sealed it

-- ---- the plan

module _ (g : Over) (c : After-fetch_line g) where
  abbrev fetched : TreeChip
  fetched = tree_chip_at g.S.Suite g.W.Watch c.fetch.new.self c.fetch.new.suite c.fetch.new.watch

  abbrev after : ReadParts
  after = read_parts (g.W.Watch.watched c.fetch_line.new.watch) (g.S.Suite.pads c.fetch_line.new.suite) (g.S.Suite.tags c.fetch_line.new.suite)

  reading : {end : Result (ReadParts × Line) (ReadParts × FetchFault)}
      → Follows (line_plan (record { shape = shape_of c.geo.result; formulas = g.S.Suite.formulas_of (g.S.Suite.keys c.fetch.new.suite) }) c.args.at
      (slice_index c.in-Ok.node.0 (c.args.at % 4)) (read_parts_of fetched)) (g.B.Board.device c.fetch.new.board) (g.B.Board.device c.fetch_line.new.board) end
      → Follows (line_plan (tree_setup_at g.S.Suite c.args.self.now c.args.suite.now) c.args.at (slice_index c.in-Ok.node.0 (c.args.at % 4)) (read_parts_of fetched))
      (g.B.Board.device c.fetch.new.board) (g.B.Board.device c.fetch_line.new.board) end
  reading {end = end} it = search rules

  -- a line that wasn't accepted
  refused : (fault : FetchFault) (its : TreeFault) → fault_of_line c.args.at fault ≡ its → g.S.Suite.digests c.fetch_line.new.suite ≡ g.S.Suite.digests c.fetch.new.suite
      → Follows (line_plan (record { shape = shape_of c.geo.result; formulas = g.S.Suite.formulas_of (g.S.Suite.keys c.fetch.new.suite) }) c.args.at
      (slice_index c.in-Ok.node.0 (c.args.at % 4)) (read_parts_of fetched)) (g.B.Board.device c.fetch.new.board) (g.B.Board.device c.fetch_line.new.board) (Err (after, fault))
      → Follows (read_line_plan (tree_setup_at g.S.Suite c.args.self.now c.args.suite.now) c.args.at (tree_chip_at g.S.Suite g.W.Watch c.args.self.now c.args.suite.now c.args.watch.now))
      (g.B.Board.device c.args.board.now) (g.B.Board.device c.fetch_line.new.board) (Err (tree_chip_at g.S.Suite g.W.Watch c.fetch.new.self c.fetch_line.new.suite c.fetch_line.new.watch, its))
  refused fault its is digests it =
      let answer : Result Line TreeFault = Err its in
      leaving answer (tree_chip_at g.S.Suite g.W.Watch c.fetch.new.self c.fetch_line.new.suite c.fetch_line.new.watch)
      (λ i. tree_chip_of c.fetch.new.self after.watch after.pads after.tags (digests i))
      (refused_read (tree_setup_at g.S.Suite c.args.self.now c.args.suite.now) c.args.at (tree_chip_at g.S.Suite g.W.Watch c.args.self.now c.args.suite.now c.args.watch.now) fetched c.in-Ok.node
      c.in-Ok.ensures.plan after its is (reading it))

pub returns-in-Err-clause-plan : goal.returns-in-Err-clause-plan
returns-in-Err-clause-plan g c = search (rules, unfetched_read)

pub returns-in-Ok-fetch_line-clause-plan : goal.returns-in-Ok-fetch_line-clause-plan
returns-in-Ok-fetch_line-clause-plan g c =
    let here = (goal.at.returns-in-Ok-fetch_line-clause-plan g c).After-fetch_line in
    let answer : Result Line TreeFault = Ok c.in-Ok-fetch_line.plain in
    leaving answer _
    (λ i. tree_chip_of c.fetch.new.self (after g here).watch (after g here).pads (after g here).tags (c.in-Ok-fetch_line.ensures.digests i))
    (fetched_read _ c.args.at _ _ c.in-Ok.node c.in-Ok.ensures.plan _ c.in-Ok-fetch_line.plain (reading g here c.in-Ok-fetch_line.ensures.plan))

pub returns-in-Err-Cut-clause-plan : goal.returns-in-Err-Cut-clause-plan
returns-in-Err-Cut-clause-plan g c =
    refused g (goal.at.returns-in-Err-Cut-clause-plan g c).After-fetch_line _ Fail.Cut (ap (fault_of_line c.args.at) c.in-Err-Cut.field-0-is)
    c.in-Err-Cut.ensures.digests c.in-Err-Cut.ensures.plan

pub returns-in-Err-Refused-clause-plan : goal.returns-in-Err-Refused-clause-plan
returns-in-Err-Refused-clause-plan g c =
    refused g (goal.at.returns-in-Err-Refused-clause-plan g c).After-fetch_line _ (Fail.Tag c.args.at) (ap (fault_of_line c.args.at) c.in-Err-Refused.field-0-is)
    c.in-Err-Refused.ensures.digests c.in-Err-Refused.ensures.plan

pub returns-in-Err-Shown-clause-plan : goal.returns-in-Err-Shown-clause-plan
returns-in-Err-Shown-clause-plan g c =
    refused g (goal.at.returns-in-Err-Shown-clause-plan g c).After-fetch_line _ Fail.Shown (ap (fault_of_line c.args.at) c.in-Err-Shown.field-0-is)
    c.in-Err-Shown.ensures.digests c.in-Err-Shown.ensures.plan
