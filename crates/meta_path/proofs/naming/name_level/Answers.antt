-- The entry is written, cut, or was there already.
use Rattle.std.proofs.Common.{◌≡◌, Ok, Err, refl, sym, subst}
use Rattle.pmem_base.specs.Geo.{shape_of}
use Rattle.call_plan.specs.Plans.{the_cut}
use Rattle.call_plan.specs.Following.{Follows}
use Rattle.call_plan.proofs.Steps.{ended_err}
use Rattle.shadow_tables.specs.Naming.{Names}
use Rattle.meta_path.specs.Blocks.{number_in}
use Rattle.meta_path.proofs.NameLemmas.{unnamed, number_is}
use Rattle.meta_path.specs.Plans.{slot_plan}
use Rattle.meta_path.proofs.NamePlans.{slot_already, slot_written, slot_cut}
use Rattle.meta_path.proofs.naming.name_level.Given.{Over}
use Rattle.meta_path.proofs.naming.name_level.Goals.{After-name_slot}
use Rattle.meta_path.proofs.naming.name_level.Goals as goal

module _ (g : Over) (c : After-name_slot g) where
  -- the slot's number
  number : c.slot_of-slot.result ≡ number_in (shape_of c.args.geo.now) c.args.cache.now.banks c.args.bank c.args.x
  number =
      sym (number_is _ c.args.cache.now c.args.bank c.args.x c.slot_of-slot.result c.requires.shape c.slot_of-slot.ensures.value)

pub returns-in_err-write_line-clause-names : goal.returns-in_err-write_line-clause-names
returns-in_err-write_line-clause-names g c =
    let shape = shape_of c.args.geo.now in
    subst (λ n. Names shape c.args.mirror.now c.name_slot.new.self c.args.bank n c.args.x) (number g (goal.at.returns-in_err-write_line-clause-names g c).After-name_slot) c.name_slot.ensures.names

pub returns-in_ok-write_line-clause-names : goal.returns-in_ok-write_line-clause-names
returns-in_ok-write_line-clause-names g c =
    let shape = shape_of c.args.geo.now in
    subst (λ n. Names shape c.args.mirror.now c.name_slot.new.self c.args.bank n c.args.x) (number g (goal.at.returns-in_ok-write_line-clause-names g c).After-name_slot) c.name_slot.ensures.names

pub returns-in_err-write_line-clause-plan : goal.returns-in_err-write_line-clause-plan
returns-in_err-write_line-clause-plan g c =
    let shape = shape_of c.args.geo.now in
    ended_err c.from_residual.result c.from_residual.ensures.1
    (subst (λ n. Follows (slot_plan shape c.args.bank n c.args.x c.args.mirror.now) (g.B.Board.device c.args.board.now)
    (g.B.Board.device c.write_line.new.self) (Err (c.name_slot.new.self, the_cut)))
    (number g (goal.at.returns-in_err-write_line-clause-plan g c).After-name_slot)
    (slot_cut shape c.args.bank c.slot_of-slot.result c.args.x c.args.mirror.now c.name_slot.new.self (g.B.Board.device c.args.board.now)
    (g.B.Board.device c.write_line.new.self)
    (unnamed shape c.args.mirror.now c.args.bank c.slot_of-slot.result c.args.x c.name_slot.result _ c.in-Some.is c.name_slot.ensures.already)
    c.in-Some.ensures.written c.in_err-write_line.ensures.cut))

pub returns-in_ok-write_line-clause-plan : goal.returns-in_ok-write_line-clause-plan
returns-in_ok-write_line-clause-plan g c =
    let shape = shape_of c.args.geo.now in
    subst (λ n. Follows (slot_plan shape c.args.bank n c.args.x c.args.mirror.now) (g.B.Board.device c.args.board.now)
    (g.B.Board.device c.write_line.new.self) (Ok (c.name_slot.new.self, tt)))
    (number g (goal.at.returns-in_ok-write_line-clause-plan g c).After-name_slot)
    (slot_written shape c.args.bank c.slot_of-slot.result c.args.x c.args.mirror.now c.name_slot.new.self (g.B.Board.device c.args.board.now)
    (g.B.Board.device c.write_line.new.self) c.in-Some.at c.in-Some.line
    (unnamed shape c.args.mirror.now c.args.bank c.slot_of-slot.result c.args.x c.name_slot.result _ c.in-Some.is c.name_slot.ensures.already)
    c.in-Some.ensures.written c.in-Some.ensures.place c.in-Some.ensures.bytes c.in_ok-write_line.ensures.ok)

pub returns-in_default-clause-plan : goal.returns-in_default-clause-plan
returns-in_default-clause-plan g c =
    let shape = shape_of c.args.geo.now in
    subst (λ n. Follows (slot_plan shape c.args.bank n c.args.x c.args.mirror.now) (g.B.Board.device c.args.board.now)
    (g.B.Board.device c.args.board.now) (Ok (c.name_slot.new.self, tt)))
    (number g (goal.at.returns-in_default-clause-plan g c).After-name_slot)
    (slot_already shape c.args.bank c.slot_of-slot.result c.args.x c.args.mirror.now c.name_slot.new.self (g.B.Board.device c.args.board.now)
    (g.B.Board.device c.args.board.now) (c.in_default.ensures.already.0 refl) c.in_default.ensures.same refl)
