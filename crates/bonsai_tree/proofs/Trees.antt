-- A tree with a path's new lines is a tree again.
use Rattle.std.proofs.Common.{rules}
use Rattle.std.proofs.Common.{ℕ, zero, suc, ◌≡◌, ◌≢◌, ◌<◌, ◌≤◌, List, [], ◌∷◌, ◌++◌, length, refl, sym, ap, subst, inl, inr, ◌∙◌, arith, true, false, map, get_or}
use Rattle.std.specs.List.{All}
use Rattle.std.proofs.lemmas.List.{length-set, map-append}
use Rattle.std.specs.List.{list_any}
use Rattle.std.specs.Prelude.{◌==◌, slice_set}
use Rattle.std.proofs.lemmas.List.Folds.{list_any-append}
use Rattle.std.proofs.lemmas.List.Elements.{All-set, All-nil, All-cons, All-push, All-weaker}
use Rattle.std.proofs.lemmas.Bool.{cases_lt, cases_eq, or_parts, or_left, eqb-false}
use Rattle.pmem_base.specs.declared.lines.Line.{Line}
use Rattle.pmem_base.specs.Lines.{IsLine, line_at, put_lines}
use Rattle.pmem_base.proofs.LineLemmas.{IsLine-line_at}
use Rattle.pmem_base.proofs.LineSets.{put_lines-append, length-put_lines, line_at-set_same, line_at-set_other, put_bytes-IsLine}
use Rattle.pmem_base.specs.Shape.{Shape}
use Rattle.pmem_base.specs.Layout.{pages, meta_lines, level_start}
use Rattle.suite.specs.Formulas.{Formulas, AreInRange}
use Rattle.bonsai_tree.specs.Positions.{parent, child_slot, child_position, path_down_to, path_of, counter_position, is_on_path}
use Rattle.bonsai_tree.specs.Nodes.{node_over, child_digest, IsHashTree}
use Rattle.bonsai_tree.specs.Paths.{with_child_digest, node_above, new_path, new_root, path_with, root_with, lines_with, IsTreeWith}
use Rattle.bonsai_tree.proofs.Levels.{IsAtLevel, child-of_parent, level_start-suc, parent-IsAtLevel, counter_position-IsAtLevel, meta_lines-level}
use Rattle.bonsai_tree.proofs.NodeLaws.{AreSixteen, node_over-same, child_replaced, child_digest-node_over}
use Rattle.bonsai_tree.proofs.PathPositions.{path_down_to-last}

sixteen : (f : Formulas) → AreInRange f → (lines : List Line) → All IsLine lines → (x : ℕ) → AreSixteen f x (line_at lines)
sixteen f in_range lines whole x i small = (in_range.digests (child_position x i) (line_at lines (child_position x i)) (IsLine-line_at lines (child_position x i) whole)).long

-- a true parent has the digest of its true child
pub IsHashTree-child : (g : Shape) (f : Formulas) (lines : List Line) (x : ℕ) → AreInRange f → IsHashTree g f lines → All IsLine lines → 1 ≤ x → x < meta_lines g → child_digest (line_at lines (parent x)) (child_slot x) ≡ f.digest_of x (line_at lines x)
IsHashTree-child g f lines x in_range tree whole below inside =
    let inner : parent x < level_start g.levels = omega (arith, below, inside, meta_lines-level g, level_start-suc g.levels) in
    ap (λ node. child_digest node (child_slot x)) (tree.inner (parent x) inner)
    ∙ child_digest-node_over f (parent x) (child_slot x) (line_at lines) (sixteen f in_range lines whole (parent x)) (omega arith)
    ∙ ap (λ y. f.digest_of y (line_at lines y)) (child-of_parent x below)

pub node_above-IsLine : (f : Formulas) → AreInRange f → (lines : List Line) → All IsLine lines → (x : ℕ) (line : Line) → IsLine line → IsLine (node_above f (line_at lines) x line)
node_above-IsLine f in_range lines whole x line is_line = search (rules, put_bytes-IsLine, IsLine-line_at)

-- all lines with the path down to x made anew
abbrev pub grown : Formulas → List Line → ℕ → ℕ → Line → List Line
grown f lines j x line = put_lines (new_path f (line_at lines) j x line) lines

grown-suc : (f : Formulas) (lines : List Line) (j x : ℕ) (line : Line) → grown f lines (suc j) x line ≡ slice_set (grown f lines j (parent x) (node_above f (line_at lines) x line)) x line
grown-suc f lines j x line = put_lines-append (new_path f (line_at lines) j (parent x) (node_above f (line_at lines) x line)) ((x, line) ∷ []) lines

-- the lines above level j are nodes over their children
abbrev AreNodesAbove : Formulas → ℕ → List Line → Type 0
AreNodesAbove f j lines = (y : ℕ) → y < level_start j → line_at lines y ≡ node_over f y (line_at lines)

-- what a new path does: its line stands at x, all others from its level on stay, and the nodes above fit
pub record IsGrown (f : Formulas) (j x : ℕ) (line : Line) (old new : List Line) : Type 0 where
  pub count : length new ≡ length old
  pub whole : All IsLine new
  pub here : line_at new x ≡ line
  pub others : (y : ℕ) → level_start j ≤ y → y ≢ x → line_at new y ≡ line_at old y
  pub inner : (y : ℕ) → y < level_start j → line_at new y ≡ node_over f y (line_at new)

-- one level down
grown_down : (f : Formulas) → AreInRange f → (j x : ℕ) (line : Line) (old new : List Line) → IsAtLevel (suc j) x → level_start (suc (suc j)) ≤ length old → All IsLine old → IsLine line → AreNodesAbove f (suc j) old → IsGrown f j (parent x) (node_above f (line_at old) x line) old new → IsGrown f (suc j) x line old (slice_set new x line)
grown_down f in_range j x line old new at room whole is_line nodes above =
    let deeper = level_start-suc j in
    let up = parent-IsAtLevel j x at in
    let inside : x < length new = omega (arith, at.below, room, above.count) in
    let last = slice_set new x line in
    let whole_last : All IsLine last = All-set IsLine new x line is_line above.whole in
    let keeps : (y : ℕ) → y ≢ x → line_at last y ≡ line_at new y = λ y apart. line_at-set_other new x y line apart in
    let its_line : line_at last x ≡ line = line_at-set_same new x line inside in
    let others : (y : ℕ) → level_start (suc j) ≤ y → y ≢ x → line_at last y ≡ line_at old y =
    λ y low apart. keeps y apart ∙ above.others y (omega (arith, deeper)) (omega (arith, deeper, up.below)) in
    let high : (y : ℕ) → y < level_start j → line_at last y ≡ node_over f y (line_at last) =
    λ y low.
    keeps y (omega (arith, at.from, deeper)) ∙ above.inner y low
    ∙ node_over-same f y (line_at new) (line_at last) (λ i small. sym (keeps (child_position y i) (omega (arith, at.from, deeper)))) in
    let beside : (y : ℕ) → level_start j ≤ y → y < level_start (suc j) → y ≢ parent x → line_at last y ≡ node_over f y (line_at last) =
    λ y low below apart.
    keeps y (omega (arith, at.from)) ∙ above.others y low apart ∙ nodes y below
    ∙ node_over-same f y (line_at old) (line_at last)
    (λ i small. sym (others (child_position y i) (omega (arith, deeper)) (omega (arith, at.from, deeper)))) in
    let its_slot : child_position (parent x) (child_slot x) ≡ x = omega (arith, at.from, deeper) in
    let its_digest : f.digest_of (child_position (parent x) (child_slot x)) (line_at last (child_position (parent x) (child_slot x))) ≡ f.digest_of x line =
    ap (λ z. f.digest_of z (line_at last z)) its_slot ∙ ap (f.digest_of x) its_line in
    let parent_node : line_at last (parent x) ≡ node_over f (parent x) (line_at last) =
    keeps (parent x) (omega (arith, at.from, deeper)) ∙ above.here
    ∙ ap (λ n. with_child_digest n (child_slot x) (f.digest_of x line)) (nodes (parent x) up.below)
    ∙ ap (λ d. with_child_digest (node_over f (parent x) (line_at old)) (child_slot x) d) (sym its_digest)
    ∙ child_replaced f (parent x) (child_slot x) (line_at old) (line_at last) (omega arith)
    (sixteen f in_range old whole (parent x)) (sixteen f in_range last whole_last (parent x))
    (λ i small apart. sym (others (child_position (parent x) i) (omega (arith, deeper, up.from)) (omega (arith, at.from, deeper)))) in
    record {
      count = length-set new x line ∙ above.count;
      whole = whole_last;
      here = its_line;
      others = others;
      inner =
          λ y below.
          elim (cases_lt y (level_start j)) [
            | inl low ↦ high y low
            | inr low ↦
                elim (cases_eq y (parent x)) [
                  | inl same ↦ subst (λ z. line_at last z ≡ node_over f z (line_at last)) (sym same) parent_node
                  | inr apart ↦ beside y low below apart
                ]
          ];
    }

-- a new path from level j up
pub grown-IsGrown : (f : Formulas) → AreInRange f → (lines : List Line) (j x : ℕ) (line : Line) → IsAtLevel j x → level_start (suc j) ≤ length lines → All IsLine lines → IsLine line → AreNodesAbove f j lines → IsGrown f j x line lines (grown f lines j x line)
grown-IsGrown f in_range lines zero x line at room whole is_line nodes = search (rules, length-set, All-set, line_at-set_same, line_at-set_other)
grown-IsGrown f in_range lines (suc j) x line at room whole is_line nodes =
    let deeper = level_start-suc j in
    let deepest = level_start-suc (suc j) in
    let above = grown-IsGrown f in_range lines j (parent x) (node_above f (line_at lines) x line) (parent-IsAtLevel j x at) (omega (arith, room, deeper, deepest)) whole (node_above-IsLine f in_range lines whole x line is_line) (λ y low. nodes y (omega (arith, low, deeper))) in
    subst (IsGrown f (suc j) x line lines) (sym (grown-suc f lines j x line))
    (grown_down f in_range j x line lines (grown f lines j (parent x) (node_above f (line_at lines) x line)) at room whole is_line nodes above)

-- the root digest is that of the new top
pub new_root-is : (f : Formulas) (lines : List Line) (j x : ℕ) (line : Line) → IsAtLevel j x → level_start (suc j) ≤ length lines → new_root f (line_at lines) j x line ≡ f.digest_of 0 (line_at (grown f lines j x line) 0)
new_root-is f lines zero x line at room = search (rules, line_at-set_same)
new_root-is f lines (suc j) x line at room =
    let deeper = level_start-suc j in
    let deepest = level_start-suc (suc j) in
    let node = node_above f (line_at lines) x line in
    let kept : line_at (slice_set (grown f lines j (parent x) node) x line) 0 ≡ line_at (grown f lines j (parent x) node) 0 = line_at-set_other (grown f lines j (parent x) node) x 0 line (omega (arith, at.from, deeper)) in
    new_root-is f lines j (parent x) node (parent-IsAtLevel j x at) (omega (arith, room, deeper, deepest))
    ∙ ap (f.digest_of 0) (sym kept) ∙ ap (λ ls. f.digest_of 0 (line_at ls 0)) (sym (grown-suc f lines j x line))

-- off the path every line stays
pub grown-off_path : (f : Formulas) (lines : List Line) (j x : ℕ) (line : Line) (y : ℕ) → list_any (λ z. z == y) (path_down_to j x) ≡ false → line_at (grown f lines j x line) y ≡ line_at lines y
grown-off_path f lines zero x line y off = line_at-set_other lines x y line (λ same. eqb-false x y (or_parts (x == y) false off).0 (sym same))
grown-off_path f lines (suc j) x line y off =
    let node = node_above f (line_at lines) x line in
    let parts = or_parts (list_any (λ z. z == y) (path_down_to j (parent x))) (list_any (λ z. z == y) (x ∷ [])) (sym (list_any-append (λ z. z == y) (path_down_to j (parent x)) (x ∷ [])) ∙ off) in
    let apart : y ≢ x = λ same. eqb-false x y (or_parts (x == y) false parts.1).0 (sym same) in
    ap (λ ls. line_at ls y) (grown-suc f lines j x line) ∙ line_at-set_other (grown f lines j (parent x) node) x y line apart
    ∙ grown-off_path f lines j (parent x) node y parts.0

-- the new path's positions are the path
pub new_path-positions : (f : Formulas) (old : ℕ → Line) (j x : ℕ) (line : Line) → map (λ entry. entry.0) (new_path f old j x line) ≡ path_down_to j x
new_path-positions f old zero x line = refl
new_path-positions f old (suc j) x line =
    let node = node_above f old x line in
    map-append (λ entry. entry.0) (new_path f old j (parent x) node) ((x, line) ∷ [])
    ∙ ap (λ xs. xs ++ x ∷ []) (new_path-positions f old j (parent x) node)

-- only the old lines on the path count
new_path-same : (f : Formulas) (a b : ℕ → Line) (j x : ℕ) (line : Line) → ((y : ℕ) → list_any (λ z. z == y) (path_down_to j x) ≡ true → a y ≡ b y) → (new_path f a j x line ≡ new_path f b j x line) × (new_root f a j x line ≡ new_root f b j x line)
new_path-same f a b zero x line same = (refl, refl)
new_path-same f a b (suc j) x line same =
    let path = path_down_to j (parent x) in
    let more : (y : ℕ) → list_any (λ z. z == y) path ≡ true → a y ≡ b y =
    λ y on. same y (list_any-append (λ z. z == y) path (x ∷ []) ∙ or_left (list_any (λ z. z == y) path) (list_any (λ z. z == y) (x ∷ [])) on) in
    let nodes : node_above f a x line ≡ node_above f b x line = ap (λ l. with_child_digest l (child_slot x) (f.digest_of x line)) (more (parent x) (path_down_to-last j (parent x))) in
    let above = new_path-same f a b j (parent x) (node_above f a x line) more in (
      ap (λ es. es ++ (x, line) ∷ []) (above.0 ∙ ap (new_path f b j (parent x)) nodes),
      above.1 ∙ ap (new_root f b j (parent x)) nodes,
    )

-- the entries of a new path stand before the next level, and are the new lines of their positions
new_path-before : (f : Formulas) (old : ℕ → Line) (j x : ℕ) (line : Line) → IsAtLevel j x → All (λ entry. entry.0 < level_start (suc j)) (new_path f old j x line)
new_path-before f old zero x line at = All-cons (λ entry. entry.0 < level_start 1) (x, line) [] at.below (All-nil (λ entry. entry.0 < level_start 1))
new_path-before f old (suc j) x line at =
    let deeper = level_start-suc (suc j) in
    All-push (λ entry. entry.0 < level_start (suc (suc j))) (new_path f old j (parent x) (node_above f old x line)) (x, line)
    (All-weaker (λ entry. entry.0 < level_start (suc j)) (λ entry. entry.0 < level_start (suc (suc j))) (λ entry below. omega (arith, below, deeper))
    (new_path f old j (parent x) (node_above f old x line))
    (new_path-before f old j (parent x) (node_above f old x line) (parent-IsAtLevel j x at)))
    at.below

grown-entries : (f : Formulas) (lines : List Line) (j x : ℕ) (line : Line) → IsAtLevel j x → level_start (suc j) ≤ length lines → All (λ entry. line_at (grown f lines j x line) entry.0 ≡ entry.1) (new_path f (line_at lines) j x line)
grown-entries f lines zero x line at room = search (rules, All-cons, line_at-set_same, All-nil)
grown-entries f lines (suc j) x line at room =
    let node = node_above f (line_at lines) x line in
    let deeper = level_start-suc j in
    let deepest = level_start-suc (suc j) in
    let up = parent-IsAtLevel j x at in
    let above = new_path f (line_at lines) j (parent x) node in
    let before = new_path-before f (line_at lines) j (parent x) node up in
    let inside : x < length (grown f lines j (parent x) node) = omega (arith, at.below, room, length-put_lines above lines) in
    let true_above = grown-entries f lines j (parent x) node up (omega (arith, room, deeper, deepest)) in
    subst (λ ls. All (λ entry. line_at ls entry.0 ≡ entry.1) (above ++ (x, line) ∷ [])) (sym (grown-suc f lines j x line))
    (All-push (λ entry. line_at (slice_set (grown f lines j (parent x) node) x line) entry.0 ≡ entry.1) above (x, line)
    (λ k d in_list.
    let low = before k d in_list in
    line_at-set_other (grown f lines j (parent x) node) x (get_or above k d).0 line (omega (arith, low, at.from))
    ∙ true_above k d in_list)
    (line_at-set_same (grown f lines j (parent x) node) x line inside))

-- the law of a new path: the lines with a page's new counter block and the nodes above it made anew
pub lines_with-IsTreeWith : (g : Shape) (f : Formulas) (lines : List Line) (page : ℕ) (block : Line) → AreInRange f → IsHashTree g f lines → All IsLine lines → page < pages g → IsLine block → IsTreeWith g f page block (root_with g f (line_at lines) page block) lines (lines_with g f lines page block)
unfolding lines_with root_with path_with
lines_with-IsTreeWith g f lines page block in_range tree whole inside is_line =
    let x = counter_position g page in
    let at = counter_position-IsAtLevel g page inside in
    let size = meta_lines-level g in
    let room : level_start (suc g.levels) ≤ length lines = omega (arith, tree.whole, size) in
    let it = grown-IsGrown f in_range lines g.levels x block at room whole is_line tree.inner in
    record {
      tree = record { whole = it.count ∙ tree.whole; inner = it.inner };
      whole = it.whole;
      its_block = it.here;
      other_blocks = λ other apart. it.others (counter_position g other) (omega arith) (omega (arith, apart));
      off_path = λ y off. grown-off_path f lines g.levels x block y off;
      top = new_root-is f lines g.levels x block at room;
    }

-- its positions are the page's path
pub path_with-positions : (g : Shape) (f : Formulas) (old : ℕ → Line) (page : ℕ) (block : Line) → map (λ entry. entry.0) (path_with g f old page block) ≡ path_of g page
unfolding path_with
path_with-positions g f old page block = new_path-positions f old g.levels (counter_position g page) block

-- only the old lines on it count
pub path_with-same : (g : Shape) (f : Formulas) (a b : ℕ → Line) (page : ℕ) (block : Line) → ((x : ℕ) → is_on_path g page x ≡ true → a x ≡ b x) → (path_with g f a page block ≡ path_with g f b page block) × (root_with g f a page block ≡ root_with g f b page block)
unfolding path_with root_with
path_with-same g f a b page block same = new_path-same f a b g.levels (counter_position g page) block same

-- its entries are the new lines of their positions
pub path_with-entries : (g : Shape) (f : Formulas) (lines : List Line) (page : ℕ) (block : Line) → length lines ≡ meta_lines g → page < pages g → All (λ entry. line_at (lines_with g f lines page block) entry.0 ≡ entry.1) (path_with g f (line_at lines) page block)
unfolding lines_with path_with
path_with-entries g f lines page block size inside = search (rules, grown-entries, counter_position-IsAtLevel, meta_lines-level)

-- ---- one new tree after another

-- a tree is the same with the block that it has
pub IsTreeWith-itself : (g : Shape) (f : Formulas) (page : ℕ) (lines : List Line) (root : List ℕ) → IsHashTree g f lines → All IsLine lines → root ≡ f.digest_of 0 (line_at lines 0) → IsTreeWith g f page (line_at lines (counter_position g page)) root lines lines
IsTreeWith-itself g f page lines root tree whole top = search rules
