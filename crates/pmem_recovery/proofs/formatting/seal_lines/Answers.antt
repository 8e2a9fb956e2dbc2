use Rattle.std.proofs.Common.{ℕ, ◌≡◌, ◌+◌, ◌*◌, List, Ok, refl, subst, ◌∙◌, arith}
use Rattle.pmem_base.specs.Geo.{shape_of}
use Rattle.pmem_base.specs.Layout.{data_lines, pages}
use Rattle.suite.specs.Formulas.{Formulas}
use Rattle.call_effects.specs.SuiteStates.{setup_of, setup_with}
use Rattle.call_effects.specs.Steady.{StaysSteady}
use Rattle.pmem_recovery.specs.Formatting.{HasSealedFrom, HasSealedGroup}
use Rattle.call_effects.proofs.SuiteLaws.{SuiteRise-as, SuiteRise-then, SuiteRise-none}
use Rattle.call_effects.proofs.SteadyLaws.{StaysSteady-then, StaysSteady-none}
use Rattle.pmem_recovery.proofs.FormatSteps.{told_long, HasSealedFrom-then, HasSealedAll-more, sealed_count}
use Rattle.call_plan.specs.Following.{Follows}
use Rattle.call_plan.proofs.Loops.{turns_start, turn_ok, turns_end}
use Rattle.pmem_recovery.specs.Formatting.{group_plan, group_turn}
use Rattle.pmem_recovery.proofs.FormatSteps.{HasSealedFrom-none}
use Rattle.pmem_recovery.proofs.formatting.seal_lines.Goals as goal

pub groups-init : goal.groups-init
groups-init g c =
    let setup = setup_with g.S.Suite c.args.geo.now c.args.suite.now in
    record {
      keys = refl;
      capacity = refl;
      counts = SuiteRise-none _;
      steady = StaysSteady-none _;
      ledger = HasSealedFrom-none setup 0 _;
      reached = turns_start (group_turn setup) (16 * pages (shape_of c.args.geo.now)) tt (g.B.Board.device c.args.board.now);
      lines = λ now told long a low. absurd (omega (arith, low));
    }

pub seal_group-requires-clause-room : goal.seal_group-requires-clause-room
seal_group-requires-clause-room g c =
    omega (arith, c.groups-test, c.requires.room, c.groups.invariant.capacity, sealed_count _ _ _ _ _ c.groups.invariant.ledger)

pub groups-preserved : goal.groups-preserved
groups-preserved g c =
    let formulas : List ℕ → Formulas = λ keys. g.S.Suite.formulas_of keys in
    let setup = setup_of c.args.geo.now (formulas (g.S.Suite.keys c.args.suite.now)) in
    let start = g.B.Board.device c.args.board.now in
    let mid = g.B.Board.device c.groups.board in
    let new = g.B.Board.device c.seal_group.new.board in
    let first = g.A.Audit.ledger c.args.audit.now in
    let before = g.A.Audit.ledger c.groups.audit in
    let after = g.A.Audit.ledger c.seal_group.new.audit in
    let n = c.groups.group in
    let sealed : HasSealedFrom setup (4 * n) 4 before after =
    subst (λ k. HasSealedFrom (setup_of c.args.geo.now (formulas k)) (4 * n) 4 before after) c.groups.invariant.keys c.seal_group.ensures.ledger in
    let lines : HasSealedGroup setup n mid new =
    subst (λ k. HasSealedGroup (setup_of c.args.geo.now (formulas k)) n mid new) c.groups.invariant.keys c.seal_group.ensures.lines in
    let next : 4 * n + 4 ≡ 4 * (n + 1) = omega arith in
    let five : 5 * n + 5 ≡ 5 * (n + 1) = omega arith in
    record {
      keys = c.seal_group.ensures.keys ∙ c.groups.invariant.keys;
      capacity = c.seal_group.ensures.capacity ∙ c.groups.invariant.capacity;
      counts = SuiteRise-as _ _ 0 _ _ 0 _ _ next next refl (SuiteRise-then (4 * n) (4 * n) 0 4 4 0 _ _ _ c.groups.invariant.counts c.seal_group.ensures.counts);
      steady = subst (λ k. StaysSteady k start new) five (StaysSteady-then (5 * n) 5 start mid new c.groups.invariant.steady c.seal_group.ensures.steady);
      ledger = subst (λ k. HasSealedFrom setup 0 k first after) next (HasSealedFrom-then setup 0 (4 * n) (4 * n) 4 first before after (omega arith) c.groups.invariant.ledger sealed);
      reached =
          turn_ok c.groups.invariant.reached (omega (arith, c.groups-test))
          (subst (λ k. Follows (group_plan (setup_of c.args.geo.now (formulas k)) n) mid new (Ok tt)) c.groups.invariant.keys c.seal_group.ensures.plan);
      lines =
          HasSealedAll-more setup n mid new (omega (arith, c.groups-test))
          (told_long mid _ (g.met.B.Board.whole c.groups.board) (c.groups.invariant.steady.size ∙ c.requires.size))
          c.seal_group.ensures.steady.told c.groups.invariant.lines lines;
    }

pub returns-clause-counts : goal.returns-clause-counts
returns-clause-counts g c =
    let all : 4 * c.groups.group ≡ data_lines (shape_of c.args.geo.now) = omega arith in
    SuiteRise-as _ _ 0 _ _ 0 _ _ all all refl c.groups.invariant.counts

pub returns-clause-steady : goal.returns-clause-steady
returns-clause-steady g c =
    let all : 5 * c.groups.group ≡ 80 * pages (shape_of c.args.geo.now) = omega arith in
    subst (λ n. StaysSteady n (g.B.Board.device c.args.board.now) (g.B.Board.device c.groups.board)) all c.groups.invariant.steady

pub returns-clause-plan : goal.returns-clause-plan
returns-clause-plan g c = turns_end c.groups.invariant.reached (omega (arith, c.groups-test))
