-- The levels so far and the next one, whether its entry is written or cut.
use Rattle.std.proofs.Common.{rules, ◌≡◌, ℕ, ◌<◌, ◌≤◌, List, Result, Ok, Err, subst, ◌∙◌, arith}
use Rattle.std.specs.Prelude.{slice_index_or}
use Rattle.pmem_base.specs.Shape.{named_levels}
use Rattle.pmem_base.specs.Geo.{shape_of}
use Rattle.pmem_base.proofs.LayoutLemmas.{named-shadow}
use Rattle.pmem_base.specs.Layout.{slots}
use Rattle.pmem_base.specs.declared.faults.Cut.{Cut}
use Rattle.pmem_base.specs.declared.lines.Line.{Line}
use Rattle.board.specs.Device.{Device}
use Rattle.call_plan.specs.Plans.{the_cut}
use Rattle.call_plan.specs.Following.{Follows}
use Rattle.call_plan.proofs.Steps.{ended_err}
use Rattle.call_plan.proofs.Loops.{turns_start, turn_ok, turn_err, turns_end}
use Rattle.shadow_tables.specs.Naming.{Names}
use Rattle.meta_path.specs.Blocks.{path_at, number_in}
use Rattle.meta_path.specs.Naming.{path_number, IsNamedTo}
use Rattle.meta_path.specs.Plans.{slot_plan}
use Rattle.meta_path.proofs.PathFacts.{position_is}
use Rattle.meta_path.proofs.NameLemmas.{IsNamedTo-more, IsNamingCut-at, on_err, path_number_low, length-naming_writes}
use Rattle.meta_path.proofs.naming.make_dirty.Given.{Over}
use Rattle.meta_path.proofs.naming.make_dirty.Goals.{After-from}
use Rattle.meta_path.proofs.naming.make_dirty.Goals as goal

-- at a level, whose position was read
module _ (g : Over) (c : After-from g) where
  le : c.levels.bank ≤ (shape_of c.args.geo.now).levels
  le = omega (arith, c.levels-test.true, c.named_levels-bank-end.ensures.value, c.named_levels-bank-end.ensures.bound)

  at : slice_index_or c.as_slice.result.now c.from.result 0 ≡ path_at (shape_of c.args.geo.now) c.args.page c.levels.bank
  at =
      position_is _ c.as_slice.result.now c.from.result c.levels.bank (c.as_slice.ensures.value ∙ c.path-path.ensures.value)
      c.from.ensures

  low : (j : ℕ) → j ≤ c.levels.bank → path_number (shape_of c.args.geo.now) c.args.cache.now.banks c.args.page j < slots (shape_of c.args.geo.now)
  low j h =
      path_number_low (shape_of c.args.geo.now) c.args.cache.now c.args.page c.args.geo.now.has_sets.0 c.requires.shape
      c.are_banks.ensures.cache c.requires.cached j (omega (arith, h, le))

  -- the slot's plan, at the position of the path
  abbrev FollowsLevel : Device → Result (List Line × Unit {0}) (List Line × Cut) → ℕ → Type 0
  FollowsLevel new end x =
      Follows (slot_plan (shape_of c.args.geo.now) c.levels.bank (number_in (shape_of c.args.geo.now) c.args.cache.now.banks c.levels.bank x) x c.levels.mirror)
      (g.B.Board.device c.levels.board) new end

  levels_end : c.levels.bank < named_levels (shape_of c.args.geo.now)
  levels_end = omega (arith, c.levels-test.true, c.named_levels-bank-end.ensures.value)

pub levels-init : goal.levels-init
levels-init g c =
    record {
      named = search rules;
      reached = search (rules, turns_start);
      long = c.requires.mirror;
    }

pub returns-in_err-name_level-clause-plan : goal.returns-in_err-name_level-clause-plan
returns-in_err-name_level-clause-plan g c =
    let place = (goal.at.returns-in_err-name_level-clause-plan g c).After-from in
    ended_err c.from_residual.result c.from_residual.ensures.1
    (turn_err c.levels.invariant.reached (levels_end g place)
    (subst (FollowsLevel g place (g.B.Board.device c.name_level.new.board) (Err (c.name_level.new.mirror, the_cut))) (at g place)
    c.in_err-name_level.ensures.plan))

pub returns-clause-plan : goal.returns-clause-plan
returns-clause-plan g c = turns_end c.levels.invariant.reached (omega (arith, c.levels-test.false, c.named_levels-bank-end.ensures.value))

pub returns-in_err-name_level-clause-cut : goal.returns-in_err-name_level-clause-cut
returns-in_err-name_level-clause-cut g c =
    let shape = shape_of c.args.geo.now in
    let place = (goal.at.returns-in_err-name_level-clause-cut g c).After-from in
    on_err c.from_residual.result _
    (IsNamingCut-at (low g place) c.levels.invariant.named
    (subst (λ x. Names shape c.levels.mirror c.name_level.new.mirror c.levels.bank (number_in shape c.args.cache.now.banks c.levels.bank x) x)
    (at g place) c.name_level.ensures.names) (levels_end g place)
    (subst (FollowsLevel g place (g.B.Board.device c.name_level.new.board) (Err (c.name_level.new.mirror, the_cut))) (at g place)
    c.in_err-name_level.ensures.plan))

pub returns-in_err-name_level-clause-one_a_level :
    goal.returns-in_err-name_level-clause-one_a_level
returns-in_err-name_level-clause-one_a_level g c = search (rules, length-naming_writes)

pub name_level-requires-clause-tables : goal.name_level-requires-clause-tables
name_level-requires-clause-tables g c =
    let place = (goal.at.name_level-requires-clause-tables g c).After-from in
    named-shadow (shape_of c.args.geo.now) c.levels.bank (levels_end g place)

pub levels-preserved : goal.levels-preserved
levels-preserved g c =
    let shape = shape_of c.args.geo.now in
    let place = (goal.at.levels-preserved g c).After-from in
    let level = subst (FollowsLevel g place (g.B.Board.device c.name_level.new.board) (Ok (c.name_level.new.mirror, tt))) (at g place)
    c.in_ok-name_level.ensures.plan in
    record {
      named =
          IsNamedTo-more (low g place) c.levels.invariant.named
          (subst (λ x. Names shape c.levels.mirror c.name_level.new.mirror c.levels.bank (number_in shape c.args.cache.now.banks c.levels.bank x) x)
          (at g place) c.name_level.ensures.names)
          level;
      reached = turn_ok c.levels.invariant.reached (levels_end g place) level;
      long = c.name_level.ensures.long;
    }

pub returns-clause-ok : goal.returns-clause-ok
returns-clause-ok g c =
    subst (λ n. IsNamedTo (shape_of c.args.geo.now) c.args.cache.now.banks c.args.page n c.args.mirror.now c.levels.mirror
    (g.B.Board.device c.args.board.now) (g.B.Board.device c.levels.board))
    (omega (arith, c.named_levels-bank-end.ensures.value, c.levels.auto.bank-end, c.levels-test.false)) c.levels.invariant.named

pub returns-clause-others : goal.returns-clause-others
returns-clause-others g c bank n h apart =
    c.levels.invariant.named.entries.others bank n h
    (λ e. apart (omega (arith, e.0, c.levels.auto.bank-end, c.named_levels-bank-end.ensures.value), e.1))

pub returns-clause-one_a_level : goal.returns-clause-one_a_level
returns-clause-one_a_level g c = search (rules, length-naming_writes)
