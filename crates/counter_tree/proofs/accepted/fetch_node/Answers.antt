-- A node's position is below 5461; and the node's plan at each end.
use Rattle.std.proofs.Common.{Result, Ok, Err, sym, arith, rules}
use Rattle.counter_tree.proofs.Common.{shape_of, meta_lines-most, HasRead, Setup, ended_err, Node, FetchFault, line_of_node, WatchState, forged_node, ReadParts, read_parts}
use Rattle.counter_tree.specs.declared.accepted.FetchFault.TheVariants as Fail
use Rattle.counter_tree.proofs.ReadPlans.{watch_shown, leaving, node_cut, node_refused, node_accepted, node_shown}
use Rattle.counter_tree.proofs.accepted.fetch_node.Given.{Over}
use Rattle.counter_tree.proofs.accepted.fetch_node.Goals.{After-read_node}
use Rattle.counter_tree.proofs.accepted.fetch_node.Goals as goal

pub read_node-requires : goal.read_node-requires
read_node-requires g c =
    omega (arith, meta_lines-most (shape_of c.args.geo.now) c.layout_is_one_to_one.ensures.ranges.at_most_six_levels, c.requires.position)

-- ---- the plan

module _ (g : Over) (c : After-read_node g) where
  abbrev setup : Setup
  setup = record { shape = shape_of c.args.geo.now; formulas = g.S.Suite.formulas_of (g.S.Suite.keys c.args.suite.now) }

  abbrev watch : WatchState
  watch = g.W.Watch.watched c.args.watch.now

  abbrev parts : ReadParts
  parts = read_parts watch (g.S.Suite.pads c.args.suite.now) (g.S.Suite.tags c.args.suite.now)

  abbrev after : WatchState → ReadParts
  after watch = read_parts watch (g.S.Suite.pads c.read_node.new.suite) (g.S.Suite.tags c.read_node.new.suite)

  was : HasRead (g.B.Board.device c.args.board.now) (line_of_node setup.shape c.args.x) c.in_ok-line.line (g.B.Board.device c.read_line.new.self)
  was = search rules

pub returns-in_err-line-clause-plan : goal.returns-in_err-line-clause-plan
returns-in_err-line-clause-plan g c = search (rules, ended_err, node_cut)

pub returns-in-None-clause-plan : goal.returns-in-None-clause-plan
returns-in-None-clause-plan g c =
    let here = (goal.at.returns-in-None-clause-plan g c).After-read_node in
    let refused : Result Node FetchFault = Err Fail.Refused in
    leaving refused (after g here (watch g here)) (λ i. read_parts (watch g here) (c.read_node.ensures.pads i) (c.read_node.ensures.tags i))
    (node_refused (setup g here) c.args.x c.args.version (parts g here) (was g here) c.is_whole.ensures (sym c.in-None.ensures.value))

pub returns-in-On-clause-plan : goal.returns-in-On-clause-plan
returns-in-On-clause-plan g c =
    let here = (goal.at.returns-in-On-clause-plan g c).After-read_node in
    let accepted : Result Node FetchFault = Ok c.in-Some.node in
    leaving accepted (after g here (g.W.Watch.watched c.see_node.new.self))
    (λ i. read_parts (c.in-On.ensures.1 i) (c.read_node.ensures.pads i) (c.read_node.ensures.tags i))
    (node_accepted (setup g here) c.args.x c.args.version (parts g here) (was g here) c.is_whole.ensures c.in-Some.node (sym c.in-Some.ensures.value)
    c.in-On.ensures.0)

pub returns-in-Stop-clause-plan : goal.returns-in-Stop-clause-plan
returns-in-Stop-clause-plan g c =
    let here = (goal.at.returns-in-Stop-clause-plan g c).After-read_node in
    let shown : Result Node FetchFault = Err Fail.Shown in
    let told = watch_shown (watch g here) (g.W.Watch.watched c.see_node.new.self) (forged_node (watch g here) c.args.x c.in_ok-line.line) c.in-Stop.ensures.1 in
    leaving shown (after g here (g.W.Watch.watched c.see_node.new.self))
    (λ i. read_parts (told i) (c.read_node.ensures.pads i) (c.read_node.ensures.tags i))
    (node_shown (setup g here) c.args.x c.args.version (parts g here) (was g here) c.is_whole.ensures c.in-Some.node (sym c.in-Some.ensures.value)
    c.in-Stop.ensures.0)
