-- What a call of the engine answers: the parts that are one for reads and writes.
use Rattle.std.proofs.Common.{ℕ, ◌≡◌, ◌<◌, true, false, Bool, List, Option, Some, None, refl, sym, ap, subst, ◌∙◌, rules}
use Rattle.tree_session.proofs.Common.{slice_index_or, lt-ltb, same_Some, nat_lt, not, if◌then◌else◌, Line, Exhibit, Forged, line_at, meta_lines, BoardMemory, AreSmallMinors, redone, Outcome, tree_lines, line_of_node, HoldsNode, KeepsWatch, with_board, on_path-inside, TreeParts, plain_of_parts, IsRooted, IsNodeRefusal, IsNodeExhibit, IsPlainKept}
use Rattle.asit_shadow.specs.Calls as told
use Rattle.tree_session.proofs.PlainStates.{plain-kept}
use Rattle.tree_session.proofs.Worlds.{TreeEngineCall, on, from, to, trusted_from, rooted_open}
use Rattle.tree_session.proofs.Refusals.{rooted_with, node-refused, node-shown}

-- with power on, a line that there is leaves a command on it to the engine
pub undecided_line : {X : Type 0} (power : Bool) (a n : ℕ) (off range : X) → power ≡ true → a < n
    → (if not power then Some off else if nat_lt a n then None else Some range) ≡ None
undecided_line power a n off range on low =
    ap (λ (b : Bool). if not b then Some off else if nat_lt a n then None else Some range) on
    ∙ ap (λ (b : Bool). if b then None else Some range) (lt-ltb a n low)

-- what was left where the watch knows what it knew
pub kept_plain : (c : TreeEngineCall) (outcome : Outcome) (q : TreeParts) → KeepsWatch outcome c.parts.watch c.watch → q.watch ≡ c.watch → q.tampered ≡ c.parts.tampered → q.hurt ≡ c.parts.hurt
    → IsPlainKept (plain_of_parts c.setup c.parts) (plain_of_parts c.setup q)
kept_plain c outcome q keeps its tampered hurt = search (rules, plain-kept)

-- after an exhibit the root is the one before
pub rooted_shown : (c : TreeEngineCall) (q : TreeParts) → IsPlainKept (plain_of_parts c.setup c.parts) (plain_of_parts c.setup q) → q.board.regs.root ≡ c.parts.board.regs.root
    → q.board.powered ≡ false → IsRooted c.setup (plain_of_parts c.setup q)
rooted_shown c q kept root off =
    subst (IsRooted c.setup) (sym kept)
    (rooted_with c.setup (plain_of_parts c.setup c.parts) q.board (rooted_open c.setup c.parts c.world c.none) root off)

module _ (c : TreeEngineCall) (a : ℕ) (within : a < tree_lines c.setup.shape) (b : BoardMemory) (lines : b.lines ≡ c.board.lines) where
  -- an unchanged node is held
  held : (x : ℕ) → x < meta_lines c.setup.shape → slice_index_or c.parts.tampered (line_of_node c.setup.shape x) false ≡ false
      → HoldsNode c.setup (from c) x
  held x inside unchanged = (on c).nodes x (inside, unchanged)

  pub refused_node : (x : ℕ) → told.IsNodeRefused c.setup a x (from c) (to c) → IsNodeRefusal c.setup (with_board (plain_of_parts c.setup c.parts) b) a x
  refused_node x it =
      let inside = on_path-inside c.setup.shape a x within it.its.on_path in
      node-refused c.setup c.parts c.parts.board.regs b c.world.whole_shape c.world.whole_formulas (trusted_from c).anchored a x it.line within it.its.on_path
      it.its.below_top (it.its.read ∙ ap (λ ls. line_at ls (line_of_node c.setup.shape x)) (sym lines)) it.refused
      (λ unchanged. it.unheld (redone c.parts.board.regs.group.items c.parts.board.lines) refl (held x inside unchanged))

  pub shown_node : (exhibit : Exhibit) → c.watch.exhibit ≡ Some exhibit → told.IsNodeShown c.setup a (from c) (to c)
      → IsNodeExhibit c.setup (with_board (plain_of_parts c.setup c.parts) b) a exhibit
  shown_node exhibit is it =
      let inside = on_path-inside c.setup.shape a it.x within it.its.on_path in
      node-shown c.setup c.parts c.parts.board.regs b c.world.whole_shape c.world.whole_formulas (trusted_from c).anchored a it.x it.line it.node exhibit within
      it.its.on_path it.its.below_top (it.its.read ∙ ap (λ ls. line_at ls (line_of_node c.setup.shape it.x)) (sym lines)) it.accepted it.other
      (same_Some exhibit _ (sym is ∙ it.exhibit)) (λ unchanged. it.unheld (redone c.parts.board.regs.group.items c.parts.board.lines) refl (held it.x inside unchanged))

-- a forged node or line has no minor
pub forged-minors : (found : Option Exhibit) (exhibit : Exhibit) (at : ℕ) (ctr : Rattle.pmem_base.specs.declared.lines.Ctr.Ctr) (cipher : Line) (tag : List ℕ) → found ≡ Some exhibit
    → found ≡ Some (Forged at ctr cipher tag) → AreSmallMinors exhibit
forged-minors found exhibit at ctr cipher tag is its =
    subst AreSmallMinors (same_Some (Forged at ctr cipher tag) exhibit (sym its ∙ is)) (let none : AreSmallMinors (Forged at ctr cipher tag) = tt in none)
