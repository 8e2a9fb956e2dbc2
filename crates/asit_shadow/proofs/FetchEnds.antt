-- How a fetch ends: with its path, or with a cut, a refused node or an exhibit.
use Rattle.std.proofs.Common.{ℕ, ◌≡◌, ◌≢◌, Bool, true, false, List, Some, None, refl, sym, ap, subst, ◌∙◌, arith, rules}
use Rattle.asit_shadow.proofs.Common.{Option, All, IsNone, IsSome, IfSome, MatchOption, if◌then◌else◌, true≢false, same_Some, none-some, Line, Regs, Exhibit, Shape, Setup, HasRisen-once, Device, HasRead, Tells, IsExhibit, redone, redone_told, Outcome, going, cut_short, shown, HasPower, node_read, line_of_node, node_at, entry_for, WatchState, first_shown, forged_node, IsNodeForged, TreeState, IsCached, IsTreeAnchored, IsTreeTrusted, IsTreeDurable, IsTreeSound, IsNodeHeld, IsNodeHeldBy, TreeEngineParts, AreTreeTrusted, AreTreeSound, HoldsTreeSeal, HoldsSlot, HoldsNode, tree_lines_redone, TreeCallEffect, KeepsWatch, spilled_nodes, HasFetchedNodes, IsNodeCutOff}
use Rattle.asit_shadow.proofs.Chains.{told-of}
use Rattle.asit_shadow.proofs.FetchLaws.{forged_node-holds, node_read-sound}
use Rattle.asit_shadow.proofs.PlaceLaws.{powered_off-place, node_read-place}
use Rattle.asit_shadow.proofs.LevelSteps.{IsLevelReady}
use Rattle.asit_shadow.proofs.LevelWork.{levels-kept}
use Rattle.asit_shadow.proofs.PathSteps.{IsNextLevel, level-ready}

-- ---- parts of which nothing was written

pub record AreUnwritten (old new : Device) : Type 0 where
  pub lines : new.lines ≡ old.lines
  pub regs : new.regs ≡ old.regs
  pub size : new.size ≡ old.size
  pub writes : new.writes ≡ old.writes
  pub latches : new.latches ≡ old.latches

pub read-unwritten : (old new : Device) (at : ℕ) (line : Line) → HasRead old at line new → AreUnwritten old new
read-unwritten old new at line read = search rules

pub cut-unwritten : (g : Shape) (x : ℕ) (old new : TreeEngineParts) → IsNodeCutOff g x old new → AreUnwritten old.device new.device
cut-unwritten g x old new cut = search rules

pub same_redone : (old new : TreeEngineParts) → AreUnwritten old.device new.device → tree_lines_redone new ≡ tree_lines_redone old
same_redone old new same = search rules

pub some_map : (P Q : List Line → Type 0) (told : Option (List Line)) → ((lines : List Line) → P lines → Q lines) → IfSome told P → IfSome told Q
some_map P Q None give it = tt
some_map P Q (Some lines) give it = give lines it

pub same-seals : (setup : Setup) (old new : TreeEngineParts) (a : ℕ) → AreUnwritten old.device new.device → new.watch.seals ≡ old.watch.seals → HoldsTreeSeal setup.shape old a → HoldsTreeSeal setup.shape new a
same-seals setup old new a same watch it = search (rules, same_redone, some_map)

pub same-slots : (setup : Setup) (old new : TreeEngineParts) (i : ℕ) → AreUnwritten old.device new.device → new.watch.slots ≡ old.watch.slots → HoldsSlot setup.shape old i → HoldsSlot setup.shape new i
same-slots setup old new i same watch it = search (rules, same_redone, some_map)

same-nodes : (setup : Setup) (old new : TreeEngineParts) (x : ℕ) → AreUnwritten old.device new.device → new.engine ≡ old.engine → new.watch ≡ old.watch → HoldsNode setup old x → HoldsNode setup new x
same-nodes setup old new x same engine watch it = search (rules, same_redone)

-- ---- a refused node

same-trusted : (setup : Setup) (old new : TreeEngineParts) → AreUnwritten old.device new.device → new.engine ≡ old.engine → new.watch ≡ old.watch → AreTreeTrusted setup old → AreTreeTrusted setup new
same-trusted setup old new same engine watch trusted =
    subst (λ (e : TreeState). IsTreeTrusted setup e new.device.regs new.watch) (sym engine)
    (subst (λ (r : Regs). IsTreeTrusted setup old.engine r new.watch) (sym same.regs)
    (subst (λ (w : WatchState). IsTreeTrusted setup old.engine old.device.regs w) (sym watch) trusted))

same-sound : (setup : Setup) (old new : TreeEngineParts) → AreUnwritten old.device new.device → new.engine ≡ old.engine → new.watch ≡ old.watch → AreTreeSound setup old → AreTreeSound setup new
same-sound setup old new same engine watch sound = search rules

pub refused-effect : (setup : Setup) (old new : TreeEngineParts) → AreUnwritten old.device new.device → HasPower going old.device new.device → new.engine ≡ old.engine → new.watch ≡ old.watch → TreeCallEffect setup going old new
refused-effect setup old new same power engine watch = search (rules, same-trusted, same-sound, same-seals, same-slots, same-nodes)

-- ---- a cut

pub still-steady : (before between : Bool) → (before ≡ true → between ≡ true) → between ≡ false → before ≡ false
still-steady true between keeps is = absurd (true≢false (sym (keeps refl) ∙ is))
still-steady false between keeps is = refl

pub cut-effect : (setup : Setup) (old new : TreeEngineParts) → AreUnwritten old.device new.device → HasPower cut_short old.device new.device → new.engine.shape ≡ old.engine.shape → new.watch ≡ old.watch → TreeCallEffect setup cut_short old new
cut-effect setup old new same power shape watch =
    record {
      shape = shape;
      size = same.size;
      power = power;
      trusted =
          λ trusted.
          subst (λ (r : Regs). IsTreeAnchored setup r new.watch) (sym same.regs)
          (subst (λ (w : WatchState). IsTreeAnchored setup old.device.regs w) (sym watch) trusted.anchored);
      sound =
          λ sound.
          subst (λ (o : Option (List Line)). MatchOption o ⊥ (λ lines. IsTreeDurable setup lines new.device.regs new.watch)) (sym same.lines)
          (subst (λ (r : Regs). MatchOption old.device.lines ⊥ (λ lines. IsTreeDurable setup lines r new.watch)) (sym same.regs)
          (subst (λ (w : WatchState). MatchOption old.device.lines ⊥ (λ lines. IsTreeDurable setup lines old.device.regs w)) (sym watch)
          (durable_of old.device.lines sound)));
      places =
          λ trusted.
          record {
            seals = λ a inside it. same-seals setup old new a same (ap (λ (w : WatchState). w.seals) watch) it;
            slots = λ i inside it. same-slots setup old new i same (ap (λ (w : WatchState). w.slots) watch) it;
            nodes =
                λ x inside it.
                subst (λ (o : Option (List Line)). IfSome o (λ lines. IsNodeHeld setup lines new.watch x)) (sym (same_redone old new same))
                (subst (λ (w : WatchState). IfSome (tree_lines_redone old) (λ lines. IsNodeHeld setup lines w x)) (sym watch)
                (some_map (λ lines. IsNodeHeldBy setup old.engine lines old.watch x) (λ lines. IsNodeHeld setup lines old.watch x) (tree_lines_redone old)
                (λ lines held. powered_off-place setup old.engine lines old.device.regs old.watch x trusted held) it));
          };
    }
  where
    durable_of : (told : Option (List Line)) → MatchOption told ⊥ (λ lines. IsTreeSound setup old.engine lines old.device.regs old.watch) → MatchOption told ⊥ (λ lines. IsTreeDurable setup lines old.device.regs old.watch)
    durable_of None it = absurd it
    durable_of (Some lines) it = it.durable

pub cut-power : (g : Shape) (x : ℕ) (old new : TreeEngineParts) → IsNodeCutOff g x old new → HasPower cut_short old.device new.device
cut-power g x old new cut = search (rules, still-steady, HasRisen-once)

-- ---- an exhibit

pub first-none : (before : Option Exhibit) (it : Exhibit) → IsNone before → first_shown before it ≡ Some it
first-none None it none = refl
first-none (Some other) it none = absurd cc

pub shown-some : (before : Option Exhibit) (it : Exhibit) → IsSome (first_shown before it)
shown-some None it = refl
shown-some (Some other) it = refl

-- over a sound engine the node is read as the true one
pub sound-read : (setup : Setup) (x version : ℕ) (line : Line) (now : TreeEngineParts) → IsLevelReady setup x version now → (IsCached setup.shape now.engine.cache x → ⊥) → Tells now.device.lines (line_of_node setup.shape x) line → AreTreeSound setup now
    → node_read setup.formulas x line version ≡ Some (node_at now.watch.nodes x)
sound-read setup x version line now ready uncached tells sound =
    read_of now.device.lines sound tells
  where
    read_of : (told : Option (List Line)) → MatchOption told ⊥ (λ lines. IsTreeSound setup now.engine lines now.device.regs now.watch) → Tells told (line_of_node setup.shape x) line → node_read setup.formulas x line version ≡ Some (node_at now.watch.nodes x)
    read_of None it is = absurd it
    read_of (Some lines) it is =
        ap (node_read setup.formulas x line) (ready.version_true it.trusted)
        ∙ (ap (λ l. node_read setup.formulas x l (entry_for now.watch.nodes x)) is
        ∙ (node_read-sound setup now.engine lines now.device.regs now.watch x ready.shape ready.in_range it (omega (arith, ready.not_top)) ready.on_tree uncached).0)

pub shown-effect : (setup : Setup) (x version : ℕ) (now new : TreeEngineParts) → IsLevelReady setup x version now → (IsCached setup.shape now.engine.cache x → ⊥) → new.engine ≡ now.engine → IsNodeForged setup x version now.device new.device now.watch new.watch → TreeCallEffect setup shown now new
shown-effect setup x version now new ready uncached engine forged =
    let same = read-unwritten now.device new.device (line_of_node setup.shape x) forged.line forged.read in
    record {
      shape = ap (λ (e : TreeState). e.shape) engine;
      size = same.size;
      power = (λ was. forged.read.steady ∙ was, λ was. forged.read.live ∙ was, forged.read.cuts);
      trusted =
          λ trusted.
          subst (λ (o : Option Exhibit). IfSome o (IsExhibit setup.formulas))
          (sym (forged.exhibit.exhibit ∙ first-none now.watch.exhibit (forged_node now.watch x forged.line) trusted.anchored.no_exhibit))
          (forged_node-holds setup now.device.regs now.watch x forged.line forged.node trusted.anchored (omega (arith, ready.not_top)) ready.on_tree
          (subst (λ v. node_read setup.formulas x forged.line v ≡ Some forged.node) (ready.version_true trusted) forged.accepted));
      sound =
          λ sound.
          forged.other (same_Some forged.node (node_at now.watch.nodes x)
          (sym forged.accepted ∙ sound-read setup x version forged.line now ready uncached forged.read.tells sound));
      places =
          λ trusted.
          record {
            seals = λ a inside it. same-seals setup now new a same forged.exhibit.seals it;
            slots = λ i inside it. same-slots setup now new i same forged.exhibit.slots it;
            nodes = tt;
          };
    }

-- ---- the next node, where it was held as the call began

told_still : (group more : List (ℕ × Line)) (old new : Option (List Line)) (lines : List Line) → redone_told group old ≡ Some lines → new ≡ redone_told more old → new ≡ None → ⊥
told_still group more None new lines are is none = none-some lines are
told_still group more (Some ls) new lines are is none = none-some (redone more ls) (sym none ∙ is)

-- it is read as the true one
pub held-read : (setup : Setup) (a j x version : ℕ) (line : Line) (old now : TreeEngineParts) → IsNextLevel setup a j x version old now → (IsCached setup.shape now.engine.cache x → ⊥) → Tells now.device.lines (line_of_node setup.shape x) line → AreTreeTrusted setup old
    → (lines : List Line) → tree_lines_redone old ≡ Some lines → IsNodeHeldBy setup old.engine lines old.watch x → node_read setup.formulas x line version ≡ Some (node_at now.watch.nodes x)
held-read setup a j x version line old now next uncached tells trusted lines are held =
    let was : HoldsNode setup old x = subst (λ (o : Option (List Line)). IfSome o (λ ls. IsNodeHeldBy setup old.engine ls old.watch x)) (sym are) held in
    let still : HoldsNode setup now x = (next.before.effect.places trusted).nodes x (level-ready setup a j x version old now next).on_tree was in
    read_of now.device.lines refl (told-of (λ ls. IsNodeHeldBy setup now.engine ls now.watch x) now (next.before.effect.trusted trusted).no_group still) tells
  where
    read_of : (told : Option (List Line)) → now.device.lines ≡ told → IfSome told (λ ls. IsNodeHeldBy setup now.engine ls now.watch x) → Tells told (line_of_node setup.shape x) line → node_read setup.formulas x line version ≡ Some (node_at now.watch.nodes x)
    read_of None is it tells =
        absurd (told_still old.device.regs.group.items (spilled_nodes setup old.engine.cache a j) old.device.lines now.device.lines lines are next.before.done.lines is)
    read_of (Some ls) is it tells =
        let ready = level-ready setup a j x version old now next in
        let here = next.before.effect.trusted trusted in
        ap (node_read setup.formulas x line) (ready.version_true here)
        ∙ (ap (λ l. node_read setup.formulas x l (entry_for now.watch.nodes x)) tells
        ∙ (node_read-place setup now.engine ls now.device.regs now.watch x ready.shape ready.in_range here (omega (arith, ready.not_top)) ready.on_tree uncached it).0)

-- ---- a level that wasn't had ends the fetch

pub kept-watch : (outcome : Outcome) (old new : WatchState) → outcome ≢ shown → new ≡ old → KeepsWatch outcome old new
kept-watch outcome old new other same = search rules

pub unwritten-levels : (setup : Setup) (a n : ℕ) (old mid new : TreeEngineParts) → new.engine.cache ≡ mid.engine.cache → AreUnwritten mid.device new.device → HasFetchedNodes setup a n old mid → HasFetchedNodes setup a n old new
unwritten-levels setup a n old mid new cache same = levels-kept setup a n old mid new cache same.lines same.writes same.latches same.regs
