-- A data line is read under its counter: its plain line is memory's, or what was read is forged; and no
-- line is sealed twice under one counter.
use Rattle.std.proofs.Common.{ℕ, ◌≡◌, ◌≢◌, ◌<◌, ◌≤◌, List, [], ◌∷◌, ◌++◌, get_or, Some, sym, ap, subst, inl, inr, ◌∙◌, arith, rules}
use Rattle.std.proofs.lemmas.List.Quantifiers.{all_pairs_push}
use Rattle.asit_shadow.proofs.Common.{slice_set, All, IfSome, AllPairs, cases_eq, get_or-set_same, get_or-set_other, All-push, same_Some, Line, Regs, Forged, IsLine, line_at, tag_slot, xor_lines, IsShape, AreInRange, cipher_of, Setup, cipher_of-back, IsExhibit, redone, version_counter, tree_lines, line_of_tag, line_counter, IsRaised, WatchState, last_seal_of, LineSeal, raised_nodes-IsRaised, TreeState, IsTreeAnchored, IsTreeMendable, IsTreeSound, IsTreeArmed, tree_plain_of, tree_plain_line, MadeSeal, IsHistory}

-- ---- any board

-- a cipher that goes on gives memory's line
pub read-plain : (setup : Setup) (regs : Regs) (watch : WatchState) (a : ℕ) (cipher : Line) → IsTreeAnchored setup regs watch → a < tree_lines setup.shape → IfSome (last_seal_of watch a) (λ seal. cipher ≡ seal.cipher) → xor_lines cipher (setup.formulas.pad_of a (version_counter (line_counter setup.shape watch.nodes a))) ≡ tree_plain_line setup.formulas watch a
read-plain setup regs watch a cipher anchored inside same =
    let it = anchored.seals a inside in
    let its : cipher ≡ it.seal.cipher = subst (λ s. IfSome s (λ seal. cipher ≡ seal.cipher)) it.last same in
    ap (λ c. xor_lines c (setup.formulas.pad_of a (version_counter (line_counter setup.shape watch.nodes a)))) its
    ∙ (ap (λ n. xor_lines it.seal.cipher (setup.formulas.pad_of a (version_counter n))) (sym it.counter)
    ∙ ap (tree_plain_of setup.formulas a) (sym it.last))

-- a tag that fits under the line's counter is an exhibit under its last seal's counter
pub forged_line-holds : (setup : Setup) (regs : Regs) (watch : WatchState) (a : ℕ) (cipher : Line) (tag : List ℕ) (seal : LineSeal) → IsTreeAnchored setup regs watch → a < tree_lines setup.shape → last_seal_of watch a ≡ Some seal → setup.formulas.tag_of a (version_counter (line_counter setup.shape watch.nodes a)) cipher ≡ tag → IsExhibit setup.formulas (Forged a (version_counter seal.counter) cipher tag)
forged_line-holds setup regs watch a cipher tag seal anchored inside last fits =
    let it = anchored.seals a inside in
    let one : seal ≡ it.seal = same_Some seal it.seal (sym last ∙ it.last) in
    ap (λ n. setup.formulas.tag_of a (version_counter n) cipher) (ap (λ (s : LineSeal). s.counter) one ∙ it.counter) ∙ fits

-- ---- an untampered board: the tag fits, and the cipher is the last seal's

pub line-sound : (setup : Setup) (engine : TreeState) (lines : List Line) (regs : Regs) (watch : WatchState) (a : ℕ) → IsTreeSound setup engine lines regs watch → a < tree_lines setup.shape → (setup.formulas.tag_of a (version_counter (line_counter setup.shape watch.nodes a)) (line_at lines a) ≡ tag_slot (line_at lines (line_of_tag setup.shape a)) 0) × IfSome (last_seal_of watch a) (λ seal. line_at lines a ≡ seal.cipher)
line-sound setup engine lines regs watch a sound inside =
    let before : IsTreeMendable setup lines regs watch = subst (λ group. IsTreeMendable setup (redone group lines) regs watch) sound.trusted.no_group sound.durable.mendable in
    let it = before.anchored.seals a inside in
    let stored = before.seals_stored a inside in
    let one : stored.seal ≡ it.seal = same_Some stored.seal it.seal (sym stored.last ∙ it.last) in
    let cipher : line_at lines a ≡ it.seal.cipher = stored.cipher ∙ ap (λ (s : LineSeal). s.cipher) one in
    let tag : tag_slot (line_at lines (line_of_tag setup.shape a)) 0 ≡ it.seal.tag = stored.tag ∙ ap (λ (s : LineSeal). s.tag) one in
    let wanted : IfSome (Some it.seal) (λ seal. line_at lines a ≡ seal.cipher) = cipher in (
      ap (λ n. setup.formulas.tag_of a (version_counter n) (line_at lines a)) (sym it.counter)
          ∙ (ap (setup.formulas.tag_of a (version_counter it.seal.counter)) cipher ∙ (it.tagged ∙ sym tag)),
      subst (λ s. IfSome s (λ seal. line_at lines a ≡ seal.cipher)) (sym it.last) wanted,
    )

-- ---- memory after a write

pub armed-plain : (setup : Setup) (a : ℕ) (plain : Line) (seal : LineSeal) (old_regs new_regs : Regs) (old new : WatchState) → AreInRange setup.formulas → IsTreeAnchored setup old_regs old → IsTreeArmed setup a seal old_regs new_regs old new → IsLine plain → seal.cipher ≡ cipher_of setup.formulas a (version_counter seal.counter) plain
    → (tree_plain_line setup.formulas new a ≡ plain) × ((b : ℕ) → b ≢ a → tree_plain_line setup.formulas new b ≡ tree_plain_line setup.formulas old b)
armed-plain setup a plain seal old_regs new_regs old new in_range anchored armed good cipher = search (rules, get_or-set_same, cipher_of-back, get_or-set_other)

-- ---- no line is sealed twice under one counter

pub IsHistory-armed : (setup : Setup) (a : ℕ) (seal : LineSeal) (old_regs new_regs : Regs) (old new : WatchState) (made : List MadeSeal) → IsShape setup.shape → IsTreeAnchored setup old_regs old → IsTreeArmed setup a seal old_regs new_regs old new → IsHistory setup.shape old made → IsHistory setup.shape new (made ++ (record { at = a; counter = seal.counter }) ∷ [])
IsHistory-armed setup a seal old_regs new_regs old new made shape anchored armed history =
    let g = setup.shape in
    let raised : IsRaised setup.shape a old.nodes new.nodes = subst (IsRaised setup.shape a old.nodes) (sym armed.nodes) (raised_nodes-IsRaised setup.shape a old.nodes shape.at_least_one_level armed.its_line armed.can_rise anchored.tree) in
    let one : MadeSeal = record { at = a; counter = seal.counter } in
    let rises : (b : ℕ) → b < tree_lines setup.shape → line_counter setup.shape old.nodes b ≤ line_counter setup.shape new.nodes b =
    λ b in_b.
    elim (cases_eq b a) [
      | inl same ↦ subst (λ z. line_counter setup.shape old.nodes z ≤ line_counter setup.shape new.nodes z) (sym same) (omega (arith, raised.own))
      | inr other ↦ omega (arith, raised.others b in_b other)
    ] in
    record {
      fresh =
          all_pairs_push (λ (first : MadeSeal) (later : MadeSeal). first.at ≡ later.at → first.counter < later.counter) made one history.fresh
          (λ k d within same.
          let below = (history.bound k d within).1 in
          let here : line_counter setup.shape old.nodes (get_or made k d).at ≡ line_counter setup.shape old.nodes a = ap (line_counter setup.shape old.nodes) same in
          omega (arith, below, here, armed.counter));
      bound =
          All-push (λ (m : MadeSeal). (m.at < tree_lines setup.shape) × (m.counter ≤ line_counter setup.shape new.nodes m.at)) made one
          (λ k d within.
          let before = history.bound k d within in
          let more = rises (get_or made k d).at before.0 in
          (before.0, omega (arith, before.1, more)))
          (armed.its_line, omega (arith, armed.counter, raised.own));
    }
