-- Refusals and exhibits as the plain state tells them: each comes of a place that was tampered with.
use Rattle.std.proofs.Common.{ℕ, ◌≡◌, ◌≢◌, ◌<◌, ◌≤◌, ◌^◌, true, false, List, [], ◌∷◌, Option, Some, None, refl, sym, ap, subst, ◌∙◌, arith, mod-eq_of_lt, rules}
use Rattle.tree_session.proofs.Common.{IfSome, map, slice_index_or, cases_Bool, false≢true, Line, Regs, Exhibit, Forged, line_at, tag_slot, Shape, IsShape, meta_lines, AreInRange, cipher_of, cipher_of-back, Setup, BoardMemory, Node, total, wrapped_version, node_place, version_counter, without_tag, node_read, tree_lines, line_of_tag, line_of_node, shadow_root, slot_line, node_at, line_counter, is_on_line_path, last_seal_of, forged_node, tree-version, IsTreeAnchored, tree_plain_of, PlainTree, true_version, true_count, true_cipher, slot_naming, with_board, on_path-inside, TreeParts, plain_of_parts, IsRooted, IsPathTampered, IsNodeRefusal, IsNodeExhibit, IsDataAccepted, IsDataRefusal, IsDataExhibit, device_tag}
use Rattle.asit_shadow.specs.Plain.{true_node}
use Rattle.tree_session.proofs.PlainStates.{plain_is, node-is}

-- the true nodes don't depend on the board
pub board-free : (g : Shape) (plain : PlainTree) (b : BoardMemory) (x : ℕ) → true_node g (with_board plain b) x ≡ true_node g plain x
unfolding true_node
board-free g plain b x = refl

-- the true slot lines don't depend on the board
slot-free : (g : Shape) (plain : PlainTree) (b : BoardMemory) (named : Option ℕ) → slot_naming g (with_board plain b) named ≡ slot_naming g plain named
slot-free g plain b None = refl
slot-free g plain b (Some x) = ap (slot_line x) (board-free g plain b x)

pub slots-free : (g : Shape) (plain : PlainTree) (b : BoardMemory) (named : List (Option ℕ)) → map (slot_naming g (with_board plain b)) named ≡ map (slot_naming g plain) named
slots-free g plain b [] = refl
slots-free g plain b (one ∷ named) = let here = slot-free g plain b one in let rest = slots-free g plain b named in cc

-- with power off and the same root a state with another board is rooted
pub rooted_with : (setup : Setup) (plain : PlainTree) (b : BoardMemory) → IsRooted setup plain → b.regs.root ≡ plain.board.regs.root → b.powered ≡ false → IsRooted setup (with_board plain b)
rooted_with setup plain b it root off =
    record {
      root = root ∙ (it.root ∙ ap (shadow_root setup.shape setup.formulas) (sym (slots-free setup.shape plain b plain.named)));
      no_group = λ on. absurd (false≢true (sym off ∙ on));
    }

module _ (setup : Setup) (p : TreeParts) (regs : Regs) (b : BoardMemory) (shape : IsShape setup.shape) (in_range : AreInRange setup.formulas) (anchored : IsTreeAnchored setup regs p.watch) where
  -- ---- nodes

  node-here : (x : ℕ) → x < meta_lines setup.shape → true_node setup.shape (with_board (plain_of_parts setup p) b) x ≡ node_at p.watch.nodes x
  node-here x inside =
      board-free setup.shape (plain_of_parts setup p) b x
      ∙ node-is setup p.watch regs shape anchored (plain_of_parts setup p) (plain_is setup p regs shape anchored) x inside

  version-here : (x : ℕ) → x < meta_lines setup.shape → true_version setup.shape (with_board (plain_of_parts setup p) b) x ≡ total (node_at p.watch.nodes x)
  version-here x inside = ap total (node-here x inside)

  path-tampered : (a x : ℕ) → is_on_line_path setup.shape a x ≡ true → 1 ≤ x → (slice_index_or p.tampered (line_of_node setup.shape x) false ≡ false → ⊥)
      → IsPathTampered setup.shape p.tampered a x
  path-tampered a x on low changed = search (rules, cases_Bool)

  pub node-refused : (a x : ℕ) (line : Line) → a < tree_lines setup.shape → is_on_line_path setup.shape a x ≡ true → 1 ≤ x
      → line ≡ line_at b.lines (line_of_node setup.shape x) → node_read setup.formulas x line (total (node_at p.watch.nodes x)) ≡ None
      → (slice_index_or p.tampered (line_of_node setup.shape x) false ≡ false → ⊥) → IsNodeRefusal setup (with_board (plain_of_parts setup p) b) a x
  node-refused a x line within on low read none changed = search (rules, on_path-inside, path-tampered, version-here)

  pub node-shown : (a x : ℕ) (line : Line) (node : Node) (exhibit : Exhibit) → a < tree_lines setup.shape → is_on_line_path setup.shape a x ≡ true → 1 ≤ x
      → line ≡ line_at b.lines (line_of_node setup.shape x) → node_read setup.formulas x line (total (node_at p.watch.nodes x)) ≡ Some node
      → node ≢ node_at p.watch.nodes x → exhibit ≡ forged_node p.watch x line
      → (slice_index_or p.tampered (line_of_node setup.shape x) false ≡ false → ⊥) → IsNodeExhibit setup (with_board (plain_of_parts setup p) b) a exhibit
  node-shown a x line node exhibit within on low read accepted other its changed =
      let inside = on_path-inside setup.shape a x within on in
      let small : total (node_at p.watch.nodes x) < 2 ^ 64 = tree-version setup.shape p.watch.nodes x anchored.tree inside in
      let version : wrapped_version (node_at p.watch.nodes x) ≡ true_version setup.shape (with_board (plain_of_parts setup p) b) x =
      mod-eq_of_lt small ∙ sym (version-here x inside) in
      record {
        x = x;
        node = node;
        place = path-tampered a x on low changed;
        accepted =
            ap (λ v. node_read setup.formulas x (line_at b.lines (line_of_node setup.shape x)) v) (version-here x inside)
            ∙ (ap (λ l. node_read setup.formulas x l (total (node_at p.watch.nodes x))) (sym read) ∙ accepted);
        other = λ e. other (e ∙ node-here x inside);
        its =
            its
            ∙ (ap (λ v. Forged (node_place x) (version_counter v) (without_tag line) (tag_slot line 3)) version
            ∙ ap (λ l. Forged (node_place x) (version_counter (true_version setup.shape (with_board (plain_of_parts setup p) b) x)) (without_tag l) (tag_slot l 3)) read);
      }

  -- ---- data lines

  count-here : (a : ℕ) → a < tree_lines setup.shape → true_count (with_board (plain_of_parts setup p) b) a ≡ line_counter setup.shape p.watch.nodes a
  count-here a within = (plain_is setup p regs shape anchored).counts a within

  hurt-here : (a : ℕ) → (slice_index_or p.hurt a false ≡ false → ⊥) → slice_index_or p.hurt a false ≡ true
  hurt-here a unhurt = search (rules, cases_Bool)

  pub data-refused : (a : ℕ) (cipher tags : Line) → a < tree_lines setup.shape → cipher ≡ line_at b.lines a → tags ≡ line_at b.lines (line_of_tag setup.shape a)
      → setup.formulas.tag_of a (version_counter (line_counter setup.shape p.watch.nodes a)) cipher ≢ tag_slot tags 0
      → (slice_index_or p.hurt a false ≡ false → ⊥) → IsDataRefusal setup (with_board (plain_of_parts setup p) b) a
  data-refused a cipher tags within read read_tags fails unhurt =
      record {
        hurt = hurt-here a unhurt;
        fails =
            λ fits.
            fails
            (ap (setup.formulas.tag_of a (version_counter (line_counter setup.shape p.watch.nodes a))) read
            ∙ (ap (λ n. setup.formulas.tag_of a (version_counter n) (line_at b.lines a)) (sym (count-here a within))
            ∙ (fits ∙ ap (λ l. tag_slot l 0) (sym read_tags))));
      }

  -- memory's cipher under the true counter is that of the last seal
  pub cipher-here : (a : ℕ) (within : a < tree_lines setup.shape) → true_cipher setup.formulas (with_board (plain_of_parts setup p) b) a ≡ (anchored.seals a within).seal.cipher
  cipher-here a within =
      let it = anchored.seals a within in
      ap (λ n. cipher_of setup.formulas a (version_counter n) (line_at (plain_of_parts setup p).memory a)) (count-here a within ∙ sym it.counter)
      ∙ (ap (cipher_of setup.formulas a (version_counter it.seal.counter))
      ((plain_is setup p regs shape anchored).memory a within ∙ ap (tree_plain_of setup.formulas a) it.last)
      ∙ cipher_of-back setup.formulas a (version_counter it.seal.counter) it.seal.cipher in_range (record { major = it.in_range.counter; minor = omega arith })
      it.in_range.cipher)

  -- a tag that fits the cipher read fits that of the device, under the true counter
  device-fits : (a : ℕ) (cipher tags : Line) → a < tree_lines setup.shape → cipher ≡ line_at b.lines a → tags ≡ line_at b.lines (line_of_tag setup.shape a)
      → setup.formulas.tag_of a (version_counter (line_counter setup.shape p.watch.nodes a)) cipher ≡ tag_slot tags 0
      → setup.formulas.tag_of a (version_counter (true_count (with_board (plain_of_parts setup p) b) a)) (line_at b.lines a) ≡ device_tag setup.shape (with_board (plain_of_parts setup p) b) a
  device-fits a cipher tags within read read_tags fits = search (rules, count-here)

  pub data-accepted : (a : ℕ) (cipher tags : Line) → a < tree_lines setup.shape → cipher ≡ line_at b.lines a → tags ≡ line_at b.lines (line_of_tag setup.shape a)
      → setup.formulas.tag_of a (version_counter (line_counter setup.shape p.watch.nodes a)) cipher ≡ tag_slot tags 0
      → IfSome (last_seal_of p.watch a) (λ seal. cipher ≡ seal.cipher) → IsDataAccepted setup (with_board (plain_of_parts setup p) b) a
  data-accepted a cipher tags within read read_tags fits last =
      let sealed = anchored.seals a within in
      let same : cipher ≡ sealed.seal.cipher = subst (λ s. IfSome s (λ seal. cipher ≡ seal.cipher)) sealed.last last in
      record { cipher = sym read ∙ (same ∙ sym (cipher-here a within)); fits = device-fits a cipher tags within read read_tags fits }

  pub data-shown : (a : ℕ) (cipher tags : Line) (exhibit : Exhibit) → a < tree_lines setup.shape → cipher ≡ line_at b.lines a
      → tags ≡ line_at b.lines (line_of_tag setup.shape a)
      → setup.formulas.tag_of a (version_counter (line_counter setup.shape p.watch.nodes a)) cipher ≡ tag_slot tags 0
      → IfSome (last_seal_of p.watch a) (λ seal. cipher ≢ seal.cipher)
      → exhibit ≡ Forged a (version_counter (line_counter setup.shape p.watch.nodes a)) cipher (tag_slot tags 0)
      → (slice_index_or p.hurt a false ≡ false → ⊥) → IsDataExhibit setup (with_board (plain_of_parts setup p) b) a exhibit
  data-shown a cipher tags exhibit within read read_tags fits other its unhurt =
      let sealed = anchored.seals a within in
      let differs : cipher ≢ sealed.seal.cipher = subst (λ s. IfSome s (λ seal. cipher ≢ seal.cipher)) sealed.last other in
      record {
        hurt = hurt-here a unhurt;
        fits = device-fits a cipher tags within read read_tags fits;
        other = λ e. differs (read ∙ (e ∙ cipher-here a within));
        its =
            its
            ∙ (ap (λ n. Forged a (version_counter n) cipher (tag_slot tags 0)) (sym (count-here a within))
            ∙ (ap (λ l. Forged a (version_counter (true_count (with_board (plain_of_parts setup p) b) a)) l (tag_slot tags 0)) read
            ∙ ap (λ l. Forged a (version_counter (true_count (with_board (plain_of_parts setup p) b) a)) (line_at b.lines a) (tag_slot l 0)) read_tags));
      }
