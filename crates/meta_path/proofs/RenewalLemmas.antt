-- A path is made anew over the cached lines, from the counter block up.
use Rattle.std.proofs.Common.{rules, ◌≡◌, ℕ, suc, ◌+◌, ◌<◌, ◌≤◌, List, [], ◌∷◌, ◌++◌, length, reverse, true, sym, ap, ◌∙◌}
use Rattle.std.specs.Prelude.{All}
use Rattle.std.specs.List.{refill}
use Rattle.std.proofs.lemmas.List.{append_assoc, append-nil, reverse-append, length-reverse, take_at}
use Rattle.std.proofs.lemmas.List.Elements.{All-cons, All-nil}
use Rattle.pmem_base.specs.declared.lines.Line.{Line}
use Rattle.pmem_base.specs.Shape.{Shape}
use Rattle.pmem_base.specs.Layout.{pages}
use Rattle.pmem_base.specs.Lines.{IsLine, line_at}
use Rattle.suite.specs.Formulas.{Formulas}
use Rattle.bonsai_tree.specs.Positions.{parent, child_slot, level_of, is_on_path}
use Rattle.bonsai_tree.specs.Paths.{with_child_digest, node_above, new_path, new_root, path_with, root_with}
use Rattle.bonsai_tree.proofs.PathPositions.{path_of-block, on_path-position, path_of-at}
use Rattle.bonsai_tree.proofs.Trees.{path_with-positions, path_with-same}
use Rattle.meta_cache.specs.Banks.{Banks, is_cached}
use Rattle.meta_path.specs.Blocks.{path_at, line_in, cached_line, IsPathCached, AreCachedTrue}
use Rattle.meta_path.specs.Storing.{IsPathOf, IsRenewed}
use Rattle.meta_path.proofs.PathFacts.{path_at-level, path_at-parent}
use Rattle.meta_path.proofs.KeepLaws.{line_in-true}

-- a list read from its end, with one entry more
pub reverse_pushed : {A : Type 0} (lines more : List A) (entry : A) → more ≡ lines ++ entry ∷ [] → reverse more ≡ entry ∷ reverse lines
reverse_pushed {A} lines more entry put = ap (λ (xs : List A). reverse xs) put ∙ reverse-append lines (entry ∷ [])

-- the list that is turned in its place, with one entry more
pub turned_pushed : {A : Type 0} (lines more here turned : List A) (entry : A) → more ≡ lines ++ entry ∷ [] → here ≡ more
    → turned ≡ reverse here → refill (length more) more turned ≡ entry ∷ reverse lines
turned_pushed {A} lines more here turned entry put is after = search (rules, length-reverse, take_at, reverse_pushed)

-- i levels are made, and j are left: their lines stand behind those that the rest will make
pub record IsRenewedTo (g : Shape) (f : Formulas) (old : ℕ → Line) (page : ℕ) (block : Line) (i j x : ℕ) (line : Line)
    (lines : List (ℕ × Line)) : Type 0 where
  pub levels : i + j ≡ g.levels
  pub count : length lines ≡ i
  pub position : x ≡ path_at g page j
  pub whole : IsLine line
  pub rest : new_path f old j x line ++ lines ≡ path_with g f old page block
  pub top : new_root f old j x line ≡ root_with g f old page block
  pub each : All (λ entry. IsLine entry.1) lines

module _ {g : Shape} {f : Formulas} {old : ℕ → Line} {page : ℕ} {block : Line} where
  pub IsRenewedTo-none : {j x : ℕ} {lines : List (ℕ × Line)} → j ≡ g.levels → x ≡ path_at g page g.levels → IsLine block
      → lines ≡ [] → IsRenewedTo g f old page block 0 j x block lines
  unfolding path_with root_with
  IsRenewedTo-none {j} {x} {lines} all is whole none = search (rules, path_of-block, append-nil, All-nil)

  -- one level more
  pub IsRenewedTo-more : {i j x next_x : ℕ} {line next : Line} {lines more : List (ℕ × Line)}
      → IsRenewedTo g f old page block i (suc j) x line lines → next_x ≡ parent x → next ≡ node_above f old x line → IsLine next
      → more ≡ (x, line) ∷ lines → IsRenewedTo g f old page block (i + 1) j next_x next more
  IsRenewedTo-more {i} {j} {x} {next_x} {line} {next} {lines} {more} before above is whole put =
      search (rules, path_at-parent, append_assoc, All-cons)

-- the cached parent
pub parent_line : (g : Shape) (banks : Banks) (page j x : ℕ) → page < pages g → g.levels ≤ 6 → suc j ≤ g.levels
    → x ≡ path_at g page (suc j) → line_in g banks j (parent x) ≡ cached_line g banks (parent x)
parent_line g banks page j x inside few le is = search (rules, path_at-parent, path_at-level)

pub parent_cached : (g : Shape) (banks : Banks) (page j x : ℕ) → suc j ≤ g.levels → x ≡ path_at g page (suc j)
    → IsPathCached g banks page → is_cached g banks j (parent x) ≡ true
parent_cached g banks page j x le is cached = search (rules, path_at-parent)

-- its positions are the path
pub IsPathOf-path_with : (g : Shape) (f : Formulas) (old : ℕ → Line) (page : ℕ) (block : Line) (lines : List (ℕ × Line))
    → page < pages g → lines ≡ path_with g f old page block → IsPathOf g page lines
IsPathOf-path_with g f old page block lines inside is = search (rules, path_with-positions)

-- over cached lines that are true it is that over the true lines
pub IsRenewed-true : (g : Shape) (f : Formulas) (banks : Banks) (truth : List Line) (page : ℕ) (block : Line)
    (lines : List (ℕ × Line)) (root : List ℕ) → page < pages g → g.levels ≤ 6 → IsPathCached g banks page
    → AreCachedTrue banks truth → lines ≡ path_with g f (cached_line g banks) page block
    → root ≡ root_with g f (cached_line g banks) page block → IsRenewed g f truth page block lines root
IsRenewed-true g f banks truth page block lines root inside few cached is_true lines_are root_is =
    record { lines = lines_are ∙ same.0; root = root_is ∙ same.1 }
  where
    on : (x : ℕ) → is_on_path g page x ≡ true → cached_line g banks x ≡ line_at truth x
    on x here =
        let at = on_path-position g page x here in
        let is : x ≡ path_at g page at.0 = at.2 ∙ sym (path_of-at g page at.0 at.1) in
        ap (λ bank. line_in g banks bank x) (ap level_of is ∙ path_at-level g page at.0 inside few at.1)
        ∙ line_in-true g banks truth at.0 x is_true (ap (is_cached g banks at.0) is ∙ cached.each at.0 at.1)

    same : (path_with g f (cached_line g banks) page block ≡ path_with g f (line_at truth) page block)
        × (root_with g f (cached_line g banks) page block ≡ root_with g f (line_at truth) page block)
    same = path_with-same g f (cached_line g banks) (line_at truth) page block on

-- the node that the code makes
pub node_is : {g k : Shape} {f other : Formulas} (banks : Banks) {page left x bank : ℕ} (line : Line) {node : Line}
    → page < pages g → g.levels ≤ 6 → suc left ≤ g.levels → x ≡ path_at g page (suc left) → k ≡ g → bank ≡ left → other ≡ f
    → node ≡ with_child_digest (line_in k banks bank (parent x)) (child_slot x) (other.digest_of x line)
    → node ≡ node_above f (cached_line g banks) x line
node_is {g} {k} {f} {other} banks {page} {left} {x} {bank} line {node} inside few le position its bank_is formulas is = search (rules, parent_line)
