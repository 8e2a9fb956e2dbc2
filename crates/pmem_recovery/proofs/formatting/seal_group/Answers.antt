use Rattle.std.proofs.Common.{ℕ, ◌≡◌, ◌<◌, ◌+◌, ◌*◌, List, refl, sym, subst, ◌∙◌, arith}
use Rattle.pmem_base.specs.Geo.{shape_of}
use Rattle.pmem_base.proofs.LayoutLemmas.{pages-most}
use Rattle.pmem_base.specs.Lines.{tag_slot}
use Rattle.board.specs.Steps.{HasWritten}
use Rattle.suite.specs.Formulas.{Formulas}
use Rattle.call_effects.specs.SuiteStates.{setup_of, setup_with}
use Rattle.call_effects.specs.Steady.{StaysSteady}
use Rattle.pmem_recovery.specs.Formatting.{first_cipher, first_tag, HasSealedFrom}
use Rattle.call_effects.proofs.SuiteLaws.{SuiteRise-then, SuiteRise-as, SuiteRise-none}
use Rattle.call_effects.proofs.SteadyLaws.{StaysSteady-then, StaysSteady-written, StaysSteady-none}
use Rattle.pmem_recovery.proofs.FormatSteps.{IsGroupTo, HasSealedFrom-then, sealed_count, IsGroupTo-more, HasSealedGroup-written, slots-more}
use Rattle.pmem_base.specs.declared.lines.Line.{Line}
use Rattle.pmem_base.specs.Lines.{zero_line}
use Rattle.line_seal.specs.Seals.{with_tag}
use Rattle.call_plan.specs.Plans.{repeated}
use Rattle.call_plan.proofs.Loops.{AreTurnsLeft, turns_start, turn_ok, turns_end}
use Rattle.pmem_recovery.specs.Formatting.{seal_turn}
use Rattle.pmem_recovery.proofs.FormatSteps.{HasSealedFrom-none, IsGroupTo-none}
use Rattle.pmem_recovery.proofs.FormatPlans.{sealed_so, group_so}
use Rattle.pmem_recovery.proofs.formatting.seal_group.Goals as goal

pub lines-init : goal.lines-init
lines-init g c =
    let setup = setup_with g.S.Suite c.args.geo.now c.args.suite.now in
    record {
      keys = refl;
      capacity = refl;
      counts = SuiteRise-none _;
      steady = StaysSteady-none _;
      ledger = HasSealedFrom-none setup (4 * c.args.group) _;
      reached =
          subst (λ (l : Line). AreTurnsLeft (repeated (seal_turn setup c.args.group) 0 4 zero_line) (g.B.Board.device c.args.board.now) (seal_turn setup c.args.group) 0 4 l
          (g.B.Board.device c.args.board.now)) (sym c.default-tags.ensures)
          (turns_start (seal_turn setup c.args.group) 4 zero_line (g.B.Board.device c.args.board.now));
      slots = λ j low. absurd (omega (arith, low));
      lines = IsGroupTo-none setup c.args.group _;
    }

pub overflow_mul-group : goal.overflow_mul-group
overflow_mul-group g c = omega (arith, c.requires.group, pages-most (shape_of c.args.geo.now).levels c.args.geo.now.has_levels.1)

pub overflow_add-group : goal.overflow_add-group
overflow_add-group g c = omega (arith, c.requires.group, c.lines-test, pages-most (shape_of c.args.geo.now).levels c.args.geo.now.has_levels.1)

pub seal_one-requires-clause-room : goal.seal_one-requires-clause-room
seal_one-requires-clause-room g c =
    omega (arith, c.lines-test, c.requires.room, c.lines.invariant.capacity, sealed_count _ _ _ _ _ c.lines.invariant.ledger)

pub lines-preserved : goal.lines-preserved
lines-preserved g c =
    let formulas : List ℕ → Formulas = λ keys. g.S.Suite.formulas_of keys in
    let setup = setup_of c.args.geo.now (formulas (g.S.Suite.keys c.args.suite.now)) in
    let at : ℕ = 4 * c.args.group + c.lines.i in
    let start = g.B.Board.device c.args.board.now in
    let mid = g.B.Board.device c.lines.board in
    let new = g.B.Board.device c.seal_one.new.board in
    let written : HasWritten mid at (first_cipher setup at) new =
    subst (λ k. HasWritten mid at (first_cipher (setup_of c.args.geo.now (formulas k)) at) new) c.lines.invariant.keys c.seal_one.ensures.written in
    let sealed : HasSealedFrom setup at 1 (g.A.Audit.ledger c.lines.audit) (g.A.Audit.ledger c.seal_one.new.audit) =
    subst (λ k. HasSealedFrom (setup_of c.args.geo.now (formulas k)) at 1 (g.A.Audit.ledger c.lines.audit) (g.A.Audit.ledger c.seal_one.new.audit)) c.lines.invariant.keys c.seal_one.ensures.ledger in
    let here : tag_slot c.seal_one.new.tags at ≡ first_tag setup at =
    subst (λ k. tag_slot c.seal_one.new.tags at ≡ first_tag (setup_of c.args.geo.now (formulas k)) at) c.lines.invariant.keys c.seal_one.ensures.here in
    let slot : c.seal_one.new.tags ≡ with_tag c.lines.tags at (first_tag setup at) =
    subst (λ k. c.seal_one.new.tags ≡ with_tag c.lines.tags at (first_tag (setup_of c.args.geo.now (formulas k)) at)) c.lines.invariant.keys c.seal_one.ensures.tags in
    record {
      keys = c.seal_one.ensures.keys ∙ c.lines.invariant.keys;
      capacity = c.seal_one.ensures.capacity ∙ c.lines.invariant.capacity;
      counts = SuiteRise-then c.lines.i c.lines.i 0 1 1 0 _ _ _ c.lines.invariant.counts c.seal_one.ensures.counts;
      steady = StaysSteady-then c.lines.i 1 start mid new c.lines.invariant.steady (StaysSteady-written mid at (first_cipher setup at) new written);
      ledger = HasSealedFrom-then setup (4 * c.args.group) c.lines.i at 1 _ _ _ refl c.lines.invariant.ledger sealed;
      reached =
          turn_ok c.lines.invariant.reached (omega (arith, c.lines-test))
          (sealed_so setup c.args.group c.lines.i at c.lines.tags c.seal_one.new.tags mid new refl slot written);
      slots = slots-more setup c.args.group c.lines.i c.lines.tags c.seal_one.new.tags (omega (arith, c.lines-test)) c.lines.invariant.slots here c.seal_one.ensures.others;
      lines = IsGroupTo-more setup c.args.group c.lines.i at start mid new c.requires.group (omega (arith, c.lines-test)) refl c.lines.invariant.lines written;
    }

pub overflow_mul-group-2 : goal.overflow_mul-group-2
overflow_mul-group-2 g c = omega (arith, c.requires.group, pages-most (shape_of c.args.geo.now).levels c.args.geo.now.has_levels.1)

pub returns-clause-counts : goal.returns-clause-counts
returns-clause-counts g c =
    let four : c.lines.i ≡ 4 = omega (arith, c.lines-test, c.lines.auto.i-end) in
    SuiteRise-as _ _ 0 4 4 0 _ _ four four refl c.lines.invariant.counts

pub returns-clause-steady : goal.returns-clause-steady
returns-clause-steady g c =
    let four : c.lines.i ≡ 4 = omega (arith, c.lines-test, c.lines.auto.i-end) in
    let start = g.B.Board.device c.args.board.now in
    let mid = g.B.Board.device c.lines.board in
    let new = g.B.Board.device c.write_steady.new.board in
    StaysSteady-then 4 1 start mid new (subst (λ n. StaysSteady n start mid) four c.lines.invariant.steady) (StaysSteady-written mid _ _ new c.write_steady.ensures)

pub returns-clause-lines : goal.returns-clause-lines
returns-clause-lines g c =
    let formulas : List ℕ → Formulas = λ keys. g.S.Suite.formulas_of keys in
    let setup = setup_of c.args.geo.now (formulas (g.S.Suite.keys c.args.suite.now)) in
    let four : c.lines.i ≡ 4 = omega (arith, c.lines-test, c.lines.auto.i-end) in
    HasSealedGroup-written setup c.args.group c.tag_line.result c.lines.tags _ _ _ c.requires.group c.tag_line.ensures.value
    (subst (λ n. (j : ℕ) → j < n → tag_slot c.lines.tags (4 * c.args.group + j) ≡ first_tag setup (4 * c.args.group + j)) four c.lines.invariant.slots)
    (subst (λ n. IsGroupTo setup c.args.group n (g.B.Board.device c.args.board.now) (g.B.Board.device c.lines.board)) four c.lines.invariant.lines)
    c.write_steady.ensures

pub returns-clause-plan : goal.returns-clause-plan
returns-clause-plan g c =
    group_so (setup_with g.S.Suite c.args.geo.now c.args.suite.now) c.args.group c.tag_line.result c.lines.tags (g.B.Board.device c.args.board.now)
    (g.B.Board.device c.lines.board) (g.B.Board.device c.write_steady.new.board) c.tag_line.ensures.value
    (turns_end c.lines.invariant.reached (omega (arith, c.lines-test))) c.write_steady.ensures
