-- How a fetch stops at a node: with a cut, a refused node or an exhibit.
use Rattle.std.proofs.Common.{ℕ, ◌≡◌, true, false, List, Some, refl, sym, ap, subst, ◌∙◌, arith}
use Rattle.asit_shadow.proofs.Common.{Option, IsSome, same_Some, none-some, Line, Setup, RisesBy-then, RisesBy-once, HasRead, Tells, going, cut_short, shown, total, node_read, line_of_node, node_at, slot_of, WatchState, HasShown, forged_node, IsNodeUnaccepted, IsNodeForged, TreeFault, TreeState, IsCached, cache_at, TreeEngineParts, AreTreeTrusted, IsNodeLineRead, holds_dirty, is_node_cached, absent_nodes, HasStoppedAt, IsNodeShownAt, IsCutInNodeFetch, IsNodeCutOff, HasNoNode, IsFetchStopped}
use Rattle.asit_shadow.specs.declared.fault.TreeFault.TheVariants as Fail
use Rattle.call_effects.proofs.PowerLaws.{going_unshown, cut_unshown}
use Rattle.asit_shadow.proofs.Chains.{effect-then}
use Rattle.asit_shadow.proofs.LevelWork.{next-on_path, is_cached-false}
use Rattle.asit_shadow.proofs.PathSteps.{IsNextLevel, level-ready, next-work, cached-after}
use Rattle.asit_shadow.proofs.FetchEnds.{read-unwritten, cut-unwritten, cut-power, cut-effect, refused-effect, first-none, shown-some, sound-read, shown-effect, held-read, kept-watch, unwritten-levels}

-- the line of the next node was read
stopped-at : (setup : Setup) (a j x version : ℕ) (line : Line) (old now new : TreeEngineParts) → IsNextLevel setup a j x version old now → (IsCached setup.shape now.engine.cache x → ⊥) → new.engine ≡ now.engine → HasRead now.device (line_of_node setup.shape x) line new.device → HasStoppedAt setup a x old new
stopped-at setup a j x version line old now new next uncached engine read =
    let same = read-unwritten now.device new.device (line_of_node setup.shape x) line read in
    let work = next-work setup a j x version old now next in
    record {
      levels = j;
      below = next.level;
      next = next.place;
      absent = is_cached-false setup.shape old.engine.cache x (λ it. uncached (cached-after setup a j x version old now next it));
      fetched = unwritten-levels setup a j old now new (ap (λ (e : TreeState). e.cache) engine) same work.done;
      reads = RisesBy-then (absent_nodes setup.shape old.engine.cache a j) 1 old.device.reads now.device.reads new.device.reads work.reads (RisesBy-once read.reads);
    }

-- how far a fetch came that was cut
cut-work : (setup : Setup) (a j x version : ℕ) (old now new : TreeEngineParts) → IsNextLevel setup a j x version old now → IsNodeCutOff setup.shape x now new → IsCutInNodeFetch setup a old new
cut-work setup a j x version old now new next cut =
    let same = cut-unwritten setup.shape x now new cut in
    let work = next-work setup a j x version old now next in
    record {
      levels = j;
      fetched = unwritten-levels setup a j old now new (ap (λ (e : TreeState). e.cache) cut.engine) same work.done;
      due =
          λ was.
          let live = next.before.effect.power.1 was in
          record {
            below = next.level;
            absent =
                subst (λ y. is_node_cached setup.shape old.engine.cache y ≡ false) next.place
                (is_cached-false setup.shape old.engine.cache x (λ it. cut.uncached (cached-after setup a j x version old now next it)));
            victim =
                subst (λ y. holds_dirty (cache_at old.engine.cache (slot_of setup.shape y)) ≡ true) next.place
                (ap holds_dirty (sym work.slot) ∙ cut.victim live);
            reads =
                RisesBy-then (absent_nodes setup.shape old.engine.cache a j) 1 old.device.reads now.device.reads new.device.reads work.reads
                (cut.one_read live);
          };
    }

cut_stop : (setup : Setup) (a j x version : ℕ) (old now new : TreeEngineParts) → IsNextLevel setup a j x version old now → IsNodeCutOff setup.shape x now new → IsFetchStopped setup a old new Fail.Cut
cut_stop setup a j x version old now new next cut =
    let same = cut-unwritten setup.shape x now new cut in
    record {
      kind = tt;
      effect =
          effect-then setup cut_short old now new next.before.effect
          (cut-effect setup now new same (cut-power setup.shape x now new cut) (ap (λ (e : TreeState). e.shape) cut.engine) cut.watch);
      down = ap (λ (e : TreeState). e.down) cut.engine ∙ next.before.down;
      regs = same.regs ∙ next.before.done.regs;
      watch = kept-watch cut_short old.watch new.watch cut_unshown (cut.watch ∙ next.before.watch);
      same_watch = cut.watch ∙ next.before.watch;
      work = cut-work setup a j x version old now new next cut;
      answered = λ trusted. tt;
      unrefused = λ sound. tt;
    }

-- the line read at the node that the fetch stopped at
stopped-read : (setup : Setup) (a j x version : ℕ) (line : Line) (old now new : TreeEngineParts) → IsNextLevel setup a j x version old now → (IsCached setup.shape now.engine.cache x → ⊥) → HasRead now.device (line_of_node setup.shape x) line new.device → IsNodeLineRead setup a x line old new
stopped-read setup a j x version line old now new next uncached read =
    let ready = level-ready setup a j x version old now next in
    record {
      on_path = next-on_path setup.shape a j x next.level next.place;
      below_top = omega (arith, ready.not_top);
      uncached = λ it. uncached (cached-after setup a j x version old now next it);
      read = subst (λ (o : Option (List Line)). Tells o (line_of_node setup.shape x) line) (sym read.lines) read.tells;
    }

-- the version is the true node's
true_version : (setup : Setup) (a j x version : ℕ) (old now : TreeEngineParts) → IsNextLevel setup a j x version old now → AreTreeTrusted setup old → version ≡ total (node_at old.watch.nodes x)
true_version setup a j x version old now next trusted =
    let ready = level-ready setup a j x version old now next in
    let here = next.before.effect.trusted trusted in
    next.version_true here
    ∙ (sym (here.anchored.tree.versions x (omega (arith, ready.not_top)) ready.on_tree)
    ∙ ap (λ (w : WatchState). total (node_at w.nodes x)) next.before.watch)

refused_stop : (setup : Setup) (a j x version : ℕ) (old now new : TreeEngineParts) → IsNextLevel setup a j x version old now → (IsCached setup.shape now.engine.cache x → ⊥) → new.engine ≡ now.engine
    → IsNodeUnaccepted setup x version now.device new.device now.watch new.watch → IsFetchStopped setup a old new (Fail.Node x)
refused_stop setup a j x version old now new next uncached engine it =
    let ready = level-ready setup a j x version old now next in
    let same = read-unwritten now.device new.device (line_of_node setup.shape x) it.line it.read in
    record {
      kind = tt;
      effect =
          effect-then setup going old now new next.before.effect
          (refused-effect setup now new same (λ s. it.read.steady ∙ s, λ l. it.read.live ∙ l, it.read.cuts) engine it.watch_kept);
      down = ap (λ (e : TreeState). e.down) engine ∙ next.before.down;
      regs = same.regs ∙ next.before.done.regs;
      watch = kept-watch going old.watch new.watch going_unshown (it.watch_kept ∙ next.before.watch);
      same_watch = it.watch_kept ∙ next.before.watch;
      work = stopped-at setup a j x version it.line old now new next uncached engine it.read;
      answered =
          λ trusted.
          record {
            line = it.line;
            its = stopped-read setup a j x version it.line old now new next uncached it.read;
            refused = ap (node_read setup.formulas x it.line) (sym (true_version setup a j x version old now next trusted)) ∙ it.refused;
            unheld =
                λ lines are held.
                none-some (node_at now.watch.nodes x)
                (sym it.refused ∙ held-read setup a j x version it.line old now next uncached it.read.tells trusted lines are held);
          };
      unrefused =
          λ sound.
          none-some (node_at now.watch.nodes x)
          (sym it.refused ∙ sound-read setup x version it.line now ready uncached it.read.tells (next.before.effect.sound sound));
    }

shown-work : (setup : Setup) (a j x version : ℕ) (old now new : TreeEngineParts) → IsNextLevel setup a j x version old now → (IsCached setup.shape now.engine.cache x → ⊥) → new.engine ≡ now.engine
    → IsNodeForged setup x version now.device new.device now.watch new.watch → IsNodeShownAt setup a old new
shown-work setup a j x version old now new next uncached engine it =
    record {
      x = x;
      line = it.line;
      stopped = stopped-at setup a j x version it.line old now new next uncached engine it.read;
      shown = subst (λ (w : WatchState). HasShown w new.watch (forged_node w x it.line)) next.before.watch it.exhibit;
    }

shown_stop : (setup : Setup) (a j x version : ℕ) (old now new : TreeEngineParts) → IsNextLevel setup a j x version old now → (IsCached setup.shape now.engine.cache x → ⊥) → new.engine ≡ now.engine
    → IsNodeForged setup x version now.device new.device now.watch new.watch → IsFetchStopped setup a old new Fail.Shown
shown_stop setup a j x version old now new next uncached engine it =
    let ready = level-ready setup a j x version old now next in
    let same = read-unwritten now.device new.device (line_of_node setup.shape x) it.line it.read in
    let effect = shown-effect setup x version now new ready uncached engine it in
    record {
      kind = tt;
      effect = effect-then setup shown old now new next.before.effect effect;
      down = ap (λ (e : TreeState). e.down) engine ∙ next.before.down;
      regs = same.regs ∙ next.before.done.regs;
      watch =
          record {
            setup = it.exhibit.setup ∙ ap (λ (w : WatchState). w.setup) next.before.watch;
            seals = it.exhibit.seals ∙ ap (λ (w : WatchState). w.seals) next.before.watch;
            nodes = it.exhibit.nodes ∙ ap (λ (w : WatchState). w.nodes) next.before.watch;
            slots = it.exhibit.slots ∙ ap (λ (w : WatchState). w.slots) next.before.watch;
            exhibit = λ other. absurd (other refl);
            stopped = λ _. subst IsSome (sym it.exhibit.exhibit) (shown-some now.watch.exhibit (forged_node now.watch x it.line));
          };
      same_watch = tt;
      work = shown-work setup a j x version old now new next uncached engine it;
      answered =
          λ trusted.
          record {
            x = x;
            line = it.line;
            node = it.node;
            its = stopped-read setup a j x version it.line old now new next uncached it.read;
            accepted = ap (node_read setup.formulas x it.line) (sym (true_version setup a j x version old now next trusted)) ∙ it.accepted;
            other = λ same_node. it.other (same_node ∙ ap (λ (w : WatchState). node_at w.nodes x) (sym next.before.watch));
            exhibit =
                it.exhibit.exhibit
                ∙ (first-none now.watch.exhibit (forged_node now.watch x it.line) (next.before.effect.trusted trusted).anchored.no_exhibit
                ∙ ap (λ (w : WatchState). Some (forged_node w x it.line)) next.before.watch);
            unheld =
                λ lines are held.
                it.other (same_Some it.node (node_at now.watch.nodes x)
                (sym it.accepted ∙ held-read setup a j x version it.line old now next uncached it.read.tells trusted lines are held));
          };
      unrefused = λ sound. effect.sound (next.before.effect.sound sound);
    }

pub fetch-stopped : (setup : Setup) (a j x version : ℕ) (old now new : TreeEngineParts) (fault : TreeFault) → IsNextLevel setup a j x version old now → HasNoNode setup x version now new fault → IsFetchStopped setup a old new fault
fetch-stopped setup a j x version old now new Fail.Cut next missed = cut_stop setup a j x version old now new next missed
fetch-stopped setup a j x version old now new (Fail.Node y) next missed =
    subst (λ z. IsFetchStopped setup a old new (Fail.Node z)) (sym missed.0) (refused_stop setup a j x version old now new next missed.1 missed.2 missed.3)
fetch-stopped setup a j x version old now new Fail.Shown next missed = shown_stop setup a j x version old now new next missed.0 missed.1 missed.2
fetch-stopped setup a j x version old now new Fail.Down next missed = absurd missed
fetch-stopped setup a j x version old now new (Fail.Tag at) next missed = absurd missed
fetch-stopped setup a j x version old now new Fail.Spent next missed = absurd missed
