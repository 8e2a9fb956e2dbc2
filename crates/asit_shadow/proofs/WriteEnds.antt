-- How a write ends.
use Rattle.std.proofs.Common.{ℕ, ◌≡◌, ◌<◌, ◌+◌, ◌/◌, sym, ap, subst, inl, inr, ◌∙◌, arith, rules}
use Rattle.asit_shadow.proofs.Common.{Err, true≢false, Line, Regs, IsShape, on_path-level, Setup, HasRisen-once, RisesBy, WasCut, going, cut_short, shown, Node, tree_lines, TreeFault, TreeEngineParts, AreTreeTrusted, IsNodePathCached, IsUsedUp, KeepsWatch, absent_nodes, HasFetchedPath, IsFetchStopped, IsNodePathFetched, IsPathFetchedTo, HasWrittenUp}
use Rattle.asit_shadow.specs.declared.fault.TreeFault.TheVariants as Fail
use Rattle.asit_shadow.proofs.SlotPlaces.{page_of_line}
use Rattle.call_effects.proofs.PowerLaws.{cut_unshown}
use Rattle.asit_shadow.proofs.Chains.{effect-then}
use Rattle.asit_shadow.proofs.FetchEnds.{AreUnwritten, cut-effect, kept-watch, unwritten-levels}
use Rattle.asit_shadow.proofs.CallEnds.{ready-kept, board-kept}

-- ---- what comes before the arming latch

pub path-cached : (setup : Setup) (a : ℕ) (old mid : TreeEngineParts) → IsShape setup.shape → a < tree_lines setup.shape → AreTreeTrusted setup old → IsPathFetchedTo setup a setup.shape.levels old mid → IsNodePathCached setup.shape a mid.engine.cache
path-cached setup a old mid shape inside trusted path =
    record {
      each =
          λ x on.
          path.cached trusted x on (on_path-level setup.shape (a / 4) x shape.at_most_six_levels (page_of_line setup.shape a inside) on).0;
    }

-- a fetch that stopped
pub write-stopped : (setup : Setup) (a : ℕ) (plain : Line) (old new : TreeEngineParts) (fault : TreeFault) → (AreTreeTrusted setup old → IsUsedUp old → ⊥) → IsFetchStopped setup a old new fault → HasWrittenUp setup a plain old new (Err fault)
write-stopped setup a plain old new Fail.Cut unspent it = search (rules, ready-kept, board-kept, true≢false)
write-stopped setup a plain old new Fail.Down unspent it = absurd it.kind
write-stopped setup a plain old new (Fail.Node x) unspent it =
    record {
      kind = tt;
      up = λ e. e;
      down = it.down;
      effect = it.effect;
      work = it.work;
      answered = λ trusted. (unspent trusted, it.answered trusted);
      unrefused = it.unrefused;
      watch = λ e. it.watch;
      ready = ready-kept setup.shape going old.watch new.watch it.watch;
      board = board-kept setup.shape old.device new.device it.effect.size it.regs;
      no_group = λ e none. ap (λ (r : Regs). r.group.items) it.regs ∙ none;
    }
write-stopped setup a plain old new (Fail.Tag b) unspent it = absurd it.kind
write-stopped setup a plain old new Fail.Spent unspent it = absurd it.kind
write-stopped setup a plain old new Fail.Shown unspent it =
    record {
      kind = tt;
      up = λ e. e;
      down = it.down;
      effect = it.effect;
      work = it.work;
      answered = λ trusted. (unspent trusted, it.answered trusted);
      unrefused = it.unrefused;
      watch = λ e. it.watch;
      ready = ready-kept setup.shape shown old.watch new.watch it.watch;
      board = board-kept setup.shape old.device new.device it.effect.size it.regs;
      no_group = λ e. absurd (true≢false (sym e));
    }

-- the top's version can't rise: nothing is done
pub write-spent : (setup : Setup) (a : ℕ) (plain : Line) (old : TreeEngineParts) → (AreTreeTrusted setup old → IsUsedUp old) → HasWrittenUp setup a plain old old (Err Fail.Spent)
write-spent setup a plain old used = search (rules, kept-watch)

-- how far it came
pub lost-work : (setup : Setup) (a : ℕ) (old mid new : TreeEngineParts) → IsPathFetchedTo setup a setup.shape.levels old mid → new.engine.cache ≡ mid.engine.cache → WasCut mid.device new.device → HasFetchedPath setup a 0 old new
lost-work setup a old mid new path cache cut =
    record {
      fetched =
          unwritten-levels setup a setup.shape.levels old mid new cache
          (record { lines = cut.lines; regs = cut.regs; size = cut.size; writes = cut.writes; latches = cut.latches }) path.done;
      reads =
          subst (RisesBy (absent_nodes setup.shape old.engine.cache a setup.shape.levels + 0) old.device.reads) (sym cut.reads)
          (subst (λ n. RisesBy n old.device.reads mid.device.reads) (omega arith) path.reads);
    }

-- a cut at the arming latch: the write is lost
pub write-lost : (setup : Setup) (a : ℕ) (plain : Line) (old mid new : TreeEngineParts) (node : Node) → (AreTreeTrusted setup old → IsUsedUp old → ⊥) → IsNodePathFetched setup a old mid node → new.engine.shape ≡ mid.engine.shape → new.engine.cache ≡ mid.engine.cache → new.engine.down ≡ mid.engine.down → WasCut mid.device new.device → new.watch ≡ mid.watch → HasWrittenUp setup a plain old new (Err Fail.Cut)
write-lost setup a plain old mid new node unspent fetched shape cache down cut watch =
    let same : AreUnwritten mid.device new.device =
    record { lines = cut.lines; regs = cut.regs; size = cut.size; writes = cut.writes; latches = cut.latches } in
    let path = fetched.path in
    let kept : KeepsWatch cut_short old.watch new.watch = kept-watch cut_short old.watch new.watch cut_unshown (watch ∙ path.watch) in
    record {
      kind = tt;
      up = λ e. e;
      down = down ∙ path.down;
      effect = effect-then setup cut_short old mid new path.effect (cut-effect setup mid new same (cut.unsteady, cut.off, HasRisen-once cut.cuts) shape watch);
      work =
          inl (record {
            at = inr (lost-work setup a old mid new path cache cut);
            untold = watch ∙ path.watch;
          });
      answered = λ trusted. (unspent trusted, inl (record { watch = watch ∙ path.watch; regs = cut.regs ∙ path.done.regs; latches = cut.latches ∙ path.done.latches }));
      unrefused = λ sound. tt;
      watch = λ e. absurd e;
      ready = ready-kept setup.shape cut_short old.watch new.watch kept;
      board = board-kept setup.shape old.device new.device (cut.size ∙ path.effect.size) (cut.regs ∙ path.done.regs);
      no_group = λ e. absurd (true≢false (sym e));
    }
