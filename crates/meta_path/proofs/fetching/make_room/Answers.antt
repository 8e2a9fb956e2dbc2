-- The dirty block to give way is written back.
use Rattle.std.proofs.Common.{◌≡◌, Some, None, sym, subst, ◌∙◌}
use Rattle.pmem_base.specs.Shape.{Shape}
use Rattle.pmem_base.specs.Geo.{shape_of}
use Rattle.meta_cache.specs.Banks.{set_index}
use Rattle.meta_cache.specs.Sets.{victim_of, IsSetOf}
use Rattle.meta_path.specs.Blocks.{slots_at}
use Rattle.meta_path.specs.Levels.{dirty_position}
use Rattle.meta_path.proofs.LevelLemmas.{IsDirtyOf, dirty_victim_is, victim_is_cached, room_made, room_free}
use Rattle.call_plan.proofs.Steps.{ended_err}
use Rattle.meta_path.proofs.WritePlans.{room_none, room_ok, room_err}
use Rattle.meta_path.proofs.fetching.make_room.Goals as goal

pub write_back-requires-clause-cached : goal.write_back-requires-clause-cached
write_back-requires-clause-cached g c =
    let cache = c.args.cache.now in
    let shape = shape_of c.args.geo.now in
    let of : IsDirtyOf shape (slots_at shape cache.banks c.args.bank c.args.x) c.in-Some.position =
    dirty_victim_is shape (slots_at shape cache.banks c.args.bank c.args.x) c.in-Some.position
    (subst (λ (k : Shape). dirty_position (victim_of k.ways (slots_at k cache.banks c.args.bank c.args.x)) ≡ Some c.in-Some.position)
    c.requires.shape (sym c.dirty_victim.ensures ∙ c.in-Some.is)) in
    victim_is_cached shape cache.banks c.args.bank c.args.x c.in-Some.position
    (subst (λ (k : Shape). IsSetOf k (set_index shape c.args.x) (slots_at shape cache.banks c.args.bank c.args.x)) c.requires.shape
    (c.are_banks.ensures.cache.each_set c.args.bank (set_index shape c.args.x))) of

pub returns-in_ok-write_back-clause-ok : goal.returns-in_ok-write_back-clause-ok
returns-in_ok-write_back-clause-ok g c =
    let cache = c.args.cache.now in
    let shape = shape_of c.args.geo.now in
    let of : IsDirtyOf shape (slots_at shape cache.banks c.args.bank c.args.x) c.in-Some.position =
    dirty_victim_is shape (slots_at shape cache.banks c.args.bank c.args.x) c.in-Some.position
    (subst (λ (k : Shape). dirty_position (victim_of k.ways (slots_at k cache.banks c.args.bank c.args.x)) ≡ Some c.in-Some.position)
    c.requires.shape (sym c.dirty_victim.ensures ∙ c.in-Some.is)) in
    room_made shape c.args.bank c.args.x c.in-Some.position cache c.write_back.new.cache
    (g.B.Board.device c.args.board.now) (g.B.Board.device c.write_back.new.board)
    (subst (λ (k : Shape). IsSetOf k (set_index shape c.args.x) (slots_at shape cache.banks c.args.bank c.args.x)) c.requires.shape
    (c.are_banks.ensures.cache.each_set c.args.bank (set_index shape c.args.x))) of c.in_ok-write_back.ensures.ok

pub returns-in_err-write_back-clause-plan : goal.returns-in_err-write_back-clause-plan
returns-in_err-write_back-clause-plan g c =
    ended_err c.from_residual.result c.from_residual.ensures.1 (room_err _ c.write_back.new.cache _ _ c.in-Some.position (g.B.Board.device _)
    (g.B.Board.device c.write_back.new.board) (sym c.dirty_victim.ensures ∙ c.in-Some.is) c.in_err-write_back.ensures.plan)

pub returns-in_ok-write_back-clause-plan : goal.returns-in_ok-write_back-clause-plan
returns-in_ok-write_back-clause-plan g c =
    room_ok c.args.cache.now c.write_back.new.cache c.args.bank c.args.x c.in-Some.position (g.B.Board.device c.args.board.now)
    (g.B.Board.device c.write_back.new.board) (sym c.dirty_victim.ensures ∙ c.in-Some.is) c.in_ok-write_back.ensures.plan

pub returns-in_default-clause-plan : goal.returns-in_default-clause-plan
returns-in_default-clause-plan g c =
    room_none c.args.cache.now c.args.bank c.args.x (g.B.Board.device c.args.board.now) (sym c.in_default.ensures)

pub returns-in_default-clause-ok : goal.returns-in_default-clause-ok
returns-in_default-clause-ok g c =
    room_free (shape_of c.args.geo.now) c.args.bank c.args.x c.args.cache.now (g.B.Board.device c.args.board.now)
    (subst (λ (k : Shape). dirty_position (victim_of k.ways (slots_at k c.args.cache.now.banks c.args.bank c.args.x)) ≡ None)
    c.requires.shape (sym c.in_default.ensures))
