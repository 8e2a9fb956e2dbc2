-- A watch in memory: its counts, and the clash that it shows.
use Rattle.std.proofs.Common.{ℕ, ◌≡◌, ◌≢◌, ◌<◌, ◌≤◌, ◌+◌, ◌^◌, List, replicate, refl, sym, subst, arith, rules}
use Rattle.counter_tree.proofs.Common.{All, Option, None, Some, length-replicate, All-replicate, Line, Exhibit, Clash, meta_lines, level_start, IsLine, line_at, Shape, IsShape, Formulas, Node, LineSeal, tree_lines, tree_slots, IsShadowTree, FirstDiffers, IsTopDifference, WatchState, IsSlotClash, IsNode, zero_node, All-zero_lines}
use Rattle.pmem_base.specs.Lines.{zero_line}
use Rattle.counter_tree.specs.Book.{IsBookOf}
use Rattle.counter_tree.specs.Shadow.{shadow_height}
use Rattle.counter_tree.proofs.HeightLemmas.{shadow_height-room}
use Rattle.counter_tree.proofs.NodeLaws.{IsNode-zero_node}
use Rattle.counter_tree.proofs.DifferenceLemmas.{shadow_top}

-- the counts of a new one
pub new-counts : (g : Shape) (s n t : ℕ) (seals : List (Option LineSeal)) (nodes : List Node) (slots : List Line) (none : Option LineSeal) (node : Node) (line : Line)
    → seals ≡ replicate s none → s ≡ tree_lines g → nodes ≡ replicate n node → n ≡ meta_lines g → slots ≡ replicate t line → t ≡ tree_slots g
    → IsBookOf g seals nodes slots
new-counts g s n t seals nodes slots none node line seals-are many nodes-are few slots-are some = search (rules, length-replicate)

-- what two trees on the chip show is the clash of their slot lines
pub clash-is : (watch : WatchState) (lines a b : List Line) (h i x : ℕ) (shown : Exhibit)
    → h ≡ shadow_height watch.setup.shape
    → IsShadowTree watch.setup.formulas h lines a → IsShadowTree watch.setup.formulas h watch.slots b
    → i < 4 ^ h → FirstDiffers lines watch.slots i → IsTopDifference h a b (level_start h + i) x
    → shown ≡ Clash x (line_at a x) (line_at b x)
    → IsSlotClash watch lines shown
clash-is watch lines a b h i x shown height one two inside slot top its =
    let found = shadow_top watch.setup.formulas h lines watch.slots a b i x one two inside slot top in
    search rules

-- the height of the trees has room for the slots
pub slots-fit : (g : Shape) (h n : ℕ) → IsShape g → h ≡ shadow_height g → n ≡ tree_slots g → n ≤ 4 ^ h
slots-fit g h n shape height many = search (rules, shadow_height-room)

pub slot-fits : (g : Shape) (h n i : ℕ) → IsShape g → h ≡ shadow_height g → n ≡ tree_slots g → i < n → i < 4 ^ h
slot-fits g h n i shape height many inside = omega (arith, slots-fit g h n shape height many, inside)

-- where two lists differ their trees' leaves do
pub slots-differ : (f now : Formulas) (h p q : ℕ) (first read second a b : List Line) (i : ℕ)
    → IsShadowTree f p first a → IsShadowTree now q read b → read ≡ second → h ≡ p → h ≡ q → i < 4 ^ h → FirstDiffers first second i
    → line_at a (level_start h + i) ≢ line_at b (level_start h + i)
slots-differ f now h p q first read second a b i one two is to_one to_two inside slot e = search rules

-- zero nodes are nodes
pub zero-nodes : (n : ℕ) (nodes : List Node) → nodes ≡ replicate n zero_node → All IsNode nodes
zero-nodes n nodes are = subst (All IsNode) (sym are) (All-replicate IsNode n zero_node IsNode-zero_node)

-- zero lines are lines
pub zero-lines : (n : ℕ) (lines : List Line) → lines ≡ replicate n zero_line → All IsLine lines
zero-lines n lines are = subst (All IsLine) (sym are) (All-zero_lines n)

-- what is a copy of None is None
pub none-copied : (P : Option LineSeal → Type 0) → ((seal : LineSeal) → P (Some seal) → ⊥) → (y : Option LineSeal) → P y → y ≡ None
none-copied P never None copy = refl
none-copied P never (Some seal) copy = absurd (never seal copy)
