-- The ends of a recovery before an engine is made.
use Rattle.std.proofs.Common.{ℕ, suc, false, Result, Ok, Err, ◌≡◌, ◌≢◌, ◌<◌, ◌≤◌, ◌^◌, length, List, refl, sym, ap, subst, ◌∙◌, arith, rules}
use Rattle.asit_shadow.proofs.Common.{true≢false, Line, Regs, risen_times, shape_of, level_start, Option, Setup, Follows, Work, with_exhibit, watch_shown, clash-is, chip-tree-is, CachedNode, TreeRec, TreeState, RecoverParts, recover_parts, recovery_work, recover_parts_at, IsShadowTree, shadow_digests, shadow_height, shadow_height-room, rest_of, AreSlotsRead, IsReadFinished}
use Rattle.commit_regs.proofs.GroupPlans.{redo_cut, redo_done}
use Rattle.asit_shadow.specs.declared.recovery.TreeRec.TheVariants as Fail
use Rattle.asit_shadow.specs.RecoverPlans.{root_plan, fill_plan}
use Rattle.asit_shadow.proofs.RecoverPlans.{fill_cut, fill_unread, fill_read, root_refused, slots_accepted, slots_shown}
use Rattle.counter_tree.specs.Shadow.{shadow_root}
use Rattle.asit_shadow.proofs.RecoverEnds.{read_finished, slots-read, root-is, interrupted_end, unread_end, refused_end, shown_end, shown_usable}
use Rattle.asit_shadow.proofs.recovery.fill_room.Given.{Over}
use Rattle.asit_shadow.proofs.recovery.fill_room.Goals.{After-regs}
use Rattle.asit_shadow.proofs.recovery.fill_room.Goals as goal

pub fill-found-requires : goal.fill-found-requires
fill-found-requires g c =
    let room = shadow_height-room _ c.layout_is_one_to_one.ensures.ranges in
    subst (λ h. length c.read_slots.new.slots ≤ 4 ^ h) (sym c.requires.height) (omega (arith, room, c.requires.slots, c.read_slots.auto.slots))

pub returns-in-Err-clause-filled : goal.returns-in-Err-clause-filled
returns-in-Err-clause-filled g c =
    interrupted_end (record { shape = shape_of c.args.geo.now; formulas = g.S.Suite.formulas_of (g.S.Suite.keys c.args.suite.now) })
    (rest_of (g.B.Board.device c.args.board.now) (g.W.Watch.watched c.args.watch.now)) (rest_of (g.B.Board.device c.finish.new.board) (g.W.Watch.watched c.args.watch.now))
    (g.S.Suite.digests c.args.suite.now) (g.S.Suite.digests c.args.suite.now) c.requires.usable.board.its_size (g.met.B.Board.whole c.finish.new.board)
    (λ none. absurd (cc ((c.in-Err.ensures.empty none).0))) c.in-Err.ensures.cut refl refl

pub returns-in-Err-read_slots-clause-filled : goal.returns-in-Err-read_slots-clause-filled
returns-in-Err-read_slots-clause-filled g c =
    unread_end (record { shape = shape_of c.args.geo.now; formulas = g.S.Suite.formulas_of _ }) _ _
    _ _ _ c.in-Ok.ensures.ok c.in-Err-read_slots.ensures.cut c.in-Err-read_slots.ensures.only_off refl refl

module _ (g : Over) (c : After-regs g) where
  setup : Setup
  setup = record { shape = shape_of c.args.geo.now; formulas = g.S.Suite.formulas_of (g.S.Suite.keys c.args.suite.now) }

  finished : IsReadFinished (shape_of c.args.geo.now) (g.B.Board.device c.args.board.now) (g.B.Board.device c.read_slots.new.board)
  finished = read_finished _ _ _ _ c.in-Ok.ensures.ok c.in-Ok-read_slots.ensures.ok

  read : AreSlotsRead (shape_of c.args.geo.now) c.read_slots.new.slots (g.B.Board.device c.read_slots.new.board)
  read =
      slots-read _ _ _ _
      (c.read_slots.auto.slots ∙ c.requires.slots) c.in-Ok-read_slots.ensures.whole c.in-Ok-read_slots.ensures.told c.in-Ok-read_slots.ensures.ok

  root : c.fill-found.result ≡ shadow_root (shape_of c.args.geo.now) (g.S.Suite.formulas_of (g.S.Suite.keys c.args.suite.now)) c.read_slots.new.slots
  root = search (rules, root-is)

  kept : c.regs.result.now.root ≡ (g.B.Board.device c.read_slots.new.board).regs.root
  kept = ap (λ (r : Regs). r.root) c.regs.ensures

  counted : g.S.Suite.digests c.fill-found.new.suite ≡ risen_times (shadow_digests (shape_of c.args.geo.now)) (g.S.Suite.digests c.args.suite.now)
  counted = search rules

pub returns-then-not-is_kept-clause-filled : goal.returns-then-not-is_kept-clause-filled
unfolding setup
returns-then-not-is_kept-clause-filled g c =
    let before = (goal.at.returns-then-not-is_kept-clause-filled g c).After-regs in
    refused_end (setup g before) c.regs.result.now.root c.fill-found.result c.read_slots.new.slots
    (rest_of (g.B.Board.device c.args.board.now) (g.W.Watch.watched c.args.watch.now)) (rest_of (g.B.Board.device c.read_slots.new.board) (g.W.Watch.watched c.args.watch.now))
    (g.S.Suite.digests c.args.suite.now) (g.S.Suite.digests c.fill-found.new.suite) (finished g before) (read g before) (kept g before) (root g before)
    (λ same. true≢false (sym (c.is_kept.ensures.1 same) ∙ c.if-not-is_kept.true)) refl (counted g before)

pub returns-in-Stop-clause-filled : goal.returns-in-Stop-clause-filled
unfolding setup
returns-in-Stop-clause-filled g c =
    let before = (goal.at.returns-in-Stop-clause-filled g c).After-regs in
    let same : c.regs.result.now.root ≡ c.fill-found.result = c.is_kept.ensures.0 c.if-not-is_kept.false in
    shown_end (setup g before) c.read_slots.new.slots c.in-Stop.ensures.1.0
    (rest_of (g.B.Board.device c.args.board.now) (g.W.Watch.watched c.args.watch.now)) (rest_of (g.B.Board.device c.read_slots.new.board) (g.W.Watch.watched c.see_slots.new.self))
    (g.S.Suite.digests c.args.suite.now) (g.S.Suite.digests c.fill-found.new.suite) c.layout_is_one_to_one.ensures.ranges (g.met.S.Suite.in_range c.args.suite.now)
    (finished g before) (read g before) (sym (root g before) ∙ (sym same ∙ kept g before)) c.in-Stop.ensures.0 c.in-Stop.ensures.1.1 c.in-Stop.ensures.1.2 (counted g before)

pub returns-in-Stop-clause-usable : goal.returns-in-Stop-clause-usable
returns-in-Stop-clause-usable g c =
    let before = (goal.at.returns-in-Stop-clause-usable g c).After-regs in
    shown_usable (shape_of c.args.geo.now) (rest_of (g.B.Board.device c.args.board.now) (g.W.Watch.watched c.args.watch.now))
    (rest_of (g.B.Board.device c.read_slots.new.board) (g.W.Watch.watched c.see_slots.new.self)) c.in-Stop.ensures.1.0 (finished g before) c.in-Stop.ensures.1.2 c.requires.usable

pub returns-clause-filled : goal.returns-clause-filled
returns-clause-filled g c =
    let before = (goal.at.returns-clause-filled g c).After-regs in
    let same : c.regs.result.now.root ≡ c.fill-found.result = c.is_kept.ensures.0 c.if-not-is_kept.false in
    let root_old : (g.B.Board.device c.read_slots.new.board).regs.root ≡ (g.B.Board.device c.args.board.now).regs.root = ap (λ (r : Regs). r.root) (finished g before).regs in
    record {
      finished = finished g before;
      accepted =
          record {
            slots = c.read_slots.new.slots;
            read = read g before;
            root = sym (root g before) ∙ (sym same ∙ (kept g before ∙ root_old));
            true_slots = c.in-On.ensures.0;
            same = c.in-On.ensures.1;
          };
      counted = counted g before;
      count = c.put_named.auto.cache ∙ c.requires.cache;
      each_held = c.put_named.ensures.held;
      named =
          subst (λ (slots : List Line). (i : ℕ) → i < Rattle.counter_tree.specs.Layout.tree_slots (shape_of c.args.geo.now) → Rattle.asit_shadow.specs.Recovering.IsNameable (shape_of c.args.geo.now) (Rattle.counter_tree.specs.Slots.slot_read (Rattle.pmem_base.specs.Lines.line_at slots i))
          → Rattle.asit_shadow.specs.State.cache_at c.put_named.new.cache i ≡ Rattle.asit_shadow.specs.Steps.held_of (Rattle.counter_tree.specs.Slots.slot_read (Rattle.pmem_base.specs.Lines.line_at slots i))) c.in-On.ensures.0 c.put_named.ensures.named;
      tree_whole = c.is_whole.ensures;
      tree_height = c.fill-found.ensures.height ∙ c.requires.height;
      over = search rules;
    }

-- ---- the plan

pub returns-in-Err-clause-plan : goal.returns-in-Err-clause-plan
returns-in-Err-clause-plan g c = search (rules, fill_cut, redo_cut)

pub returns-in-Err-read_slots-clause-plan : goal.returns-in-Err-read_slots-clause-plan
returns-in-Err-read_slots-clause-plan g c =
    fill_unread (record { shape = shape_of c.args.geo.now; formulas = g.S.Suite.formulas_of (g.S.Suite.keys c.args.suite.now) }) (g.B.Board.device c.args.board.now).regs c.args.slots.now (recover_parts_at g.S.Suite g.W.Watch c.args.suite.now c.args.watch.now)
    (redo_done (g.B.Board.device c.args.board.now).regs (g.B.Board.device c.args.board.now).regs.group.items
    (λ none. ap (λ board. g.B.Board.device board) (c.in-Ok.ensures.empty none).1) c.in-Ok.ensures.plan)
    (c.in-Err-read_slots.ensures.plan (recover_parts_at g.S.Suite g.W.Watch c.args.suite.now c.args.watch.now))

module _ (g : Over) (c : After-regs g) where
  abbrev its_setup : Setup
  its_setup = record { shape = shape_of c.args.geo.now; formulas = g.S.Suite.formulas_of (g.S.Suite.keys c.args.suite.now) }

  abbrev start : RecoverParts
  start = recover_parts_at g.S.Suite g.W.Watch c.args.suite.now c.args.watch.now

  filled : {end : Result (RecoverParts × (TreeState × Work)) (RecoverParts × TreeRec)}
      → Follows (root_plan its_setup (g.B.Board.device c.args.board.now).regs.root start c.read_slots.new.slots) (g.B.Board.device c.read_slots.new.board) (g.B.Board.device c.read_slots.new.board) end
      → Follows (fill_plan its_setup (g.B.Board.device c.args.board.now).regs c.args.slots.now start) (g.B.Board.device c.args.board.now) (g.B.Board.device c.read_slots.new.board) end
  filled it =
      fill_read its_setup (g.B.Board.device c.args.board.now).regs c.args.slots.now start
      (redo_done (g.B.Board.device c.args.board.now).regs (g.B.Board.device c.args.board.now).regs.group.items
      (λ none. ap (λ board. g.B.Board.device board) (c.in-Ok.ensures.empty none).1) c.in-Ok.ensures.plan)
      c.read_slots.new.slots (c.in-Ok-read_slots.ensures.plan start) it

  its_root : c.regs.result.now.root ≡ (g.B.Board.device c.args.board.now).regs.root
  its_root = kept g c ∙ ap (λ (r : Regs). r.root) (finished g c).regs

pub returns-then-not-is_kept-clause-plan : goal.returns-then-not-is_kept-clause-plan
returns-then-not-is_kept-clause-plan g c =
    let here = (goal.at.returns-then-not-is_kept-clause-plan g c).After-regs in
    let its = its_root g here in
    let found = root g here in
    let differ : (g.B.Board.device c.args.board.now).regs.root ≢ shadow_root (its_setup g here).shape (its_setup g here).formulas c.read_slots.new.slots =
    λ same. true≢false (sym (c.is_kept.ensures.1 (its ∙ (same ∙ sym found))) ∙ c.if-not-is_kept.true) in
    let end : RecoverParts → List ℕ → List ℕ → RecoverParts × TreeRec = λ at a b. (at, Fail.Shadow a b) in
    subst (λ (left : RecoverParts × TreeRec). Follows {E = RecoverParts × TreeRec} {T = RecoverParts × (TreeState × Work)}
    (fill_plan (its_setup g here) (g.B.Board.device c.args.board.now).regs c.args.slots.now (start g here))
    (g.B.Board.device c.args.board.now) (g.B.Board.device c.read_slots.new.board) (Err left))
    (sym (λ i. end (recover_parts (g.W.Watch.watched c.args.watch.now) (counted g here i)) (its i) (found i)))
    (filled g here (root_refused (its_setup g here) (g.B.Board.device c.args.board.now).regs.root (start g here) c.read_slots.new.slots (g.B.Board.device c.read_slots.new.board) differ))

pub returns-in-Stop-clause-plan : goal.returns-in-Stop-clause-plan
returns-in-Stop-clause-plan g c =
    let here = (goal.at.returns-in-Stop-clause-plan g c).After-regs in
    let is : (g.B.Board.device c.args.board.now).regs.root ≡ shadow_root (its_setup g here).shape (its_setup g here).formulas c.read_slots.new.slots = search (rules, its_root, root) in
    let watch = g.W.Watch.watched c.args.watch.now in
    let told = watch_shown watch (g.W.Watch.watched c.see_slots.new.self) c.in-Stop.ensures.1.0 c.in-Stop.ensures.1.2
    ∙ ap (with_exhibit watch) (clash-is watch c.read_slots.new.slots c.in-Stop.ensures.1.0
    (c.read_slots.auto.slots ∙ (c.requires.slots ∙ sym c.requires.usable.watch.slot_count)) c.in-Stop.ensures.1.1) in
    let shown : Result (RecoverParts × (TreeState × Work)) (RecoverParts × TreeRec) → Type 0 =
    Follows (fill_plan (its_setup g here) (g.B.Board.device c.args.board.now).regs c.args.slots.now (start g here))
    (g.B.Board.device c.args.board.now) (g.B.Board.device c.read_slots.new.board) in
    subst (λ (at : RecoverParts). shown (Err (at, Fail.Shown))) (sym (λ i. recover_parts (told i) (counted g here i)))
    (filled g here (slots_shown (its_setup g here) (g.B.Board.device c.args.board.now).regs.root (start g here) c.read_slots.new.slots (g.B.Board.device c.read_slots.new.board) is c.in-Stop.ensures.0))

pub returns-clause-plan : goal.returns-clause-plan
returns-clause-plan g c =
    let here = (goal.at.returns-clause-plan g c).After-regs in
    let is : (g.B.Board.device c.args.board.now).regs.root ≡ shadow_root (its_setup g here).shape (its_setup g here).formulas c.read_slots.new.slots = search (rules, its_root, root) in
    let height = c.fill-found.ensures.height ∙ c.requires.height in
    let lines = chip-tree-is (its_setup g here).formulas (shadow_height (its_setup g here).shape) c.read_slots.new.slots c.fill-found.new.self.lines
    (subst (λ h. h ≤ 5) height c.is_whole.ensures.most) (subst (λ h. length c.fill-found.new.self.lines ≡ level_start (suc h)) height c.is_whole.ensures.count)
    (subst (λ h. IsShadowTree (its_setup g here).formulas h c.read_slots.new.slots c.fill-found.new.self.lines) c.requires.height c.fill-found.ensures.tree) in
    let end : RecoverParts → List (Option CachedNode) → ℕ → List Line → RecoverParts × (TreeState × Work) =
    λ at cache h ls. (at, (record { shape = shape_of c.args.geo.now; cache = cache; tree = record { height = h; lines = ls }; down = false }, recovery_work (shape_of c.args.geo.now))) in
    let filling : RecoverParts × (TreeState × Work) → Type 0 =
    λ done. Follows {E = RecoverParts × TreeRec} (fill_plan (its_setup g here) (g.B.Board.device c.args.board.now).regs c.args.slots.now (start g here))
    (g.B.Board.device c.args.board.now) (g.B.Board.device c.read_slots.new.board) (Ok done) in
    subst filling (sym (λ i. end (recover_parts (c.in-On.ensures.1 i) (counted g here i)) (c.put_named.ensures.value i) (height i) (lines i)))
    (filled g here (slots_accepted (its_setup g here) (g.B.Board.device c.args.board.now).regs.root (start g here) c.read_slots.new.slots (g.B.Board.device c.read_slots.new.board) is c.in-On.ensures.0))
