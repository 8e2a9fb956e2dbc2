-- An absent position is read, room is made, and it is placed.
use Rattle.std.proofs.Common.{Ok, Err, sym, subst, ◌∙◌, ap}
use Rattle.pmem_base.specs.Shape.{Shape}
use Rattle.pmem_base.specs.Geo.{shape_of}
use Rattle.meta_cache.specs.Banks.{set_index, is_cached}
use Rattle.meta_cache.specs.Sets.{IsSetOf}
use Rattle.meta_path.specs.Blocks.{slots_at}
use Rattle.meta_path.proofs.LevelLemmas.{room_absent, room_clean}
use Rattle.suite.specs.Formulas.{Formulas}
use Rattle.board.specs.Device.{Device}
use Rattle.call_plan.specs.Plans.{the_cut}
use Rattle.call_plan.specs.Following.{Follows}
use Rattle.call_plan.proofs.Steps.{ended_err}
use Rattle.call_plan.proofs.Keeping.{follows_size}
use Rattle.meta_cache.specs.State.{CacheState}
use Rattle.meta_path.specs.FetchPlans.{FetchParts, fetch_parts, level_plan}
use Rattle.meta_path.proofs.FetchPlans.{level_cached, level_unread, level_placed}
use Rattle.meta_path.proofs.fetching.fetch_level.Given.{Over}
use Rattle.meta_path.proofs.fetching.fetch_level.Goals as goal

pub place-requires-clause-absent : goal.place-requires-clause-absent
place-requires-clause-absent g c =
    let cache = c.args.cache.now in
    let shape = shape_of c.args.geo.now in
    room_absent shape c.args.bank c.args.x cache c.make_room.new.cache (g.B.Board.device c.read_checked.new.board)
    (g.B.Board.device c.make_room.new.board) c.requires.shape c.in_ok-make_room.ensures.ok
    (ap (λ (k : Shape). is_cached k cache.banks c.args.bank c.args.x) (sym c.requires.shape)
    ∙ sym c.look.ensures.cached ∙ sym c.is_some.ensures ∙ c.if-is_some.false)

pub place-requires-clause-clean : goal.place-requires-clause-clean
place-requires-clause-clean g c =
    let cache = c.args.cache.now in
    let shape = shape_of c.args.geo.now in
    room_clean shape c.args.bank c.args.x cache c.make_room.new.cache (g.B.Board.device c.read_checked.new.board)
    (g.B.Board.device c.make_room.new.board) c.requires.shape
    (subst (λ (k : Shape). IsSetOf k (set_index shape c.args.x) (slots_at shape cache.banks c.args.bank c.args.x)) c.requires.shape
    (c.are_banks.ensures.cache.each_set c.args.bank _)) c.in_ok-make_room.ensures.ok

pub make_room-requires-clause-size : goal.make_room-requires-clause-size
make_room-requires-clause-size g c = follows_size c.in_ok-line.ensures.plan ∙ c.requires.size

-- ---- its plan

-- what the fetch works on at a moment
abbrev parts : (g : Over) → CacheState → g.row.A.Denot → g.row.S.Denot → FetchParts
parts g cache audit suite = fetch_parts cache (g.A.Audit.ledger audit) (g.S.Suite.digests suite)

abbrev formulas : (g : Over) → g.row.S.Denot → Formulas
formulas g suite = g.S.Suite.formulas_of (g.S.Suite.keys suite)

pub returns-then-is_some-clause-plan : goal.returns-then-is_some-clause-plan
returns-then-is_some-clause-plan g c =
    let at : FetchParts = parts g _ _ _ in
    let before : Device = g.B.Board.device _ in
    subst (λ (now : CacheState). Follows (level_plan (formulas g c.args.suite.now) before.regs.root c.args.bank c.args.x at)
    before before (Ok (fetch_parts now at.ledger at.digests, tt))) (sym c.touch.ensures.exact)
    (level_cached (formulas g _) before.regs.root _ _ at before (sym c.look.ensures.cached ∙ sym c.is_some.ensures ∙ c.if-is_some.true))

pub returns-in_err-line-clause-plan : goal.returns-in_err-line-clause-plan
returns-in_err-line-clause-plan g c =
    let before : Device = g.B.Board.device _ in
    ended_err c.from_residual.result c.from_residual.ensures.1 (level_unread (formulas g _) before.regs.root _ _
    (parts g _ _ _) before (g.B.Board.device c.read_checked.new.board)
    (sym c.look.ensures.cached ∙ sym c.is_some.ensures ∙ c.if-is_some.false) _ _ c.in_err-line.ensures.plan)

pub returns-in_err-make_room-clause-plan : goal.returns-in_err-make_room-clause-plan
returns-in_err-make_room-clause-plan g c =
    let before : Device = g.B.Board.device _ in
    ended_err c.from_residual-in_err-make_room.result c.from_residual-in_err-make_room.ensures.1 (level_placed (formulas g _) before.regs.root _ _
    (parts g _ _ _) before (g.B.Board.device c.make_room.new.board)
    (sym c.look.ensures.cached ∙ sym c.is_some.ensures ∙ c.if-is_some.false) (g.B.Board.device c.read_checked.new.board)
    (parts g _ c.read_checked.new.audit c.read_checked.new.suite) c.in_ok-line.line
    (Err (c.make_room.new.cache, the_cut)) c.in_ok-line.ensures.plan c.in_err-make_room.ensures.plan)

pub returns-clause-plan : goal.returns-clause-plan
returns-clause-plan g c =
    let at : FetchParts = parts g c.args.cache.now c.args.audit.now c.args.suite.now in
    let mid : FetchParts = parts g c.args.cache.now c.read_checked.new.audit c.read_checked.new.suite in
    let before : Device = g.B.Board.device c.args.board.now in
    let after : Device = g.B.Board.device c.make_room.new.board in
    subst (λ (now : CacheState). Follows (level_plan (formulas g c.args.suite.now) before.regs.root c.args.bank c.args.x at)
    before after (Ok (fetch_parts now mid.ledger mid.digests, tt))) (sym c.place.ensures.exact)
    (level_placed (formulas g c.args.suite.now) before.regs.root c.args.bank c.args.x at before after
    (sym c.look.ensures.cached ∙ sym c.is_some.ensures ∙ c.if-is_some.false) (g.B.Board.device c.read_checked.new.board) mid
    c.in_ok-line.line (Ok (c.make_room.new.cache, tt)) c.in_ok-line.ensures.plan c.in_ok-make_room.ensures.plan)
