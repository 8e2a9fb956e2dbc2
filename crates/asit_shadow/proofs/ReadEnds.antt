-- How a read ends.
use Rattle.std.proofs.Common.{ℕ, ◌≡◌, ◌≢◌, ◌<◌, ◌/◌, ◌%◌, List, false, Some, None, refl, sym, ap, subst, inl, inr, ◌∙◌, rules}
use Rattle.asit_shadow.proofs.Common.{Option, Ok, Err, IfSome, IsSome, MatchOption, true≢false, same_Some, Line, Regs, Exhibit, Forged, tag_slot, xor_lines, Shape, IsShape, HasRisen, Setup, RisesBy-then, RisesBy-once, HasRisen-once, Device, Tells, IsExhibit, counter_position, level_start-suc, meta_lines-level, on_path-level, going, cut_short, shown, HasPower, power_chained, Node, LineSeal, HasLineRead, IsCutReading, IsLineAccepted, IsLineUnaccepted, IsLineForged, counter, version_counter, tree_lines, line_of_tag, node_at, line_counter, WatchState, HasShown, last_seal_of, line_position-parent, TreeState, IsTreeSound, TreeEngineParts, AreTreeTrusted, AreTreeSound, IsPathAccepted, IsDataLineRead, IsLineRead, absent_nodes, HasFetchedPath, IsCutInNodeFetch, IsLineShownAt, KeepsPathLines, IsPathFetchedTo}
use Rattle.asit_shadow.specs.declared.fault.TreeFault.TheVariants as Fail
use Rattle.asit_shadow.proofs.SlotPlaces.{page_of_line}
use Rattle.call_effects.proofs.PowerLaws.{going_unshown, cut_unshown}
use Rattle.asit_shadow.proofs.Chains.{places-then, effect-then}
use Rattle.asit_shadow.proofs.ReadLaws.{read-plain, forged_line-holds, line-sound}
use Rattle.asit_shadow.proofs.LevelSteps.{kept_lines}
use Rattle.asit_shadow.proofs.PathSteps.{read-kept}
use Rattle.asit_shadow.proofs.FetchEnds.{AreUnwritten, kept-watch, refused-effect, cut-effect, still-steady, first-none, shown-some, same-seals, same-slots, unwritten-levels}

-- ---- the counter

-- the last node of the path has the line's counter
pub line_counter-is : (g : Shape) (a : ℕ) (nodes : List Node) (node : Node) → node ≡ node_at nodes (counter_position g (a / 4)) → counter node (a % 4) ≡ line_counter g nodes a
line_counter-is g a nodes node is = search (rules, meta_lines-level, level_start-suc, line_position-parent)

-- ---- a path accepted

pub path-accepted : (setup : Setup) (a : ℕ) (old mid new : TreeEngineParts) → IsShape setup.shape → a < tree_lines setup.shape → AreTreeTrusted setup old → IsPathFetchedTo setup a setup.shape.levels old mid → KeepsPathLines setup.shape a mid.device.lines new.device.lines → IsPathAccepted setup a old new
path-accepted setup a old mid new shape inside trusted path kept =
    record {
      each =
          λ x on.
          let level = on_path-level setup.shape (a / 4) x shape.at_most_six_levels (page_of_line setup.shape a inside) on in
          elim (path.read trusted x on level.0) [
            | inl cached ↦ inl cached
            | inr read ↦ inr (read-kept setup a x old mid new kept read)
          ];
    }

-- ---- a fetch that stopped

-- ---- both lines of a data line are read

-- what is known as they are read
pub record IsPathHad (setup : Setup) (a count : ℕ) (old mid new : TreeEngineParts) : Type 0 where
  pub shape : IsShape setup.shape
  pub its_line : a < tree_lines setup.shape
  pub path : IsPathFetchedTo setup a setup.shape.levels old mid
  pub counted : AreTreeTrusted setup old → count ≡ line_counter setup.shape old.watch.nodes a
  pub engine : new.engine ≡ mid.engine

both-unwritten : (setup : Setup) (a : ℕ) (cipher tags : Line) (old new : Device) → HasLineRead setup a cipher tags old new → AreUnwritten old new
both-unwritten setup a cipher tags old new it = search rules

both-power : (setup : Setup) (a : ℕ) (cipher tags : Line) (old new : Device) → HasLineRead setup a cipher tags old new → HasPower going old new
both-power setup a cipher tags old new it = search rules

-- the path was fetched, and both lines were read
path-through : (setup : Setup) (a : ℕ) (cipher tags : Line) (old mid new : TreeEngineParts) → IsPathFetchedTo setup a setup.shape.levels old mid → new.engine.cache ≡ mid.engine.cache → HasLineRead setup a cipher tags mid.device new.device → HasFetchedPath setup a 2 old new
path-through setup a cipher tags old mid new path cache read =
    record {
      fetched = unwritten-levels setup a setup.shape.levels old mid new cache (both-unwritten setup a cipher tags mid.device new.device read) path.done;
      reads =
          RisesBy-then (absent_nodes setup.shape old.engine.cache a setup.shape.levels) 2 old.device.reads mid.device.reads new.device.reads path.reads
          (RisesBy-then 1 1 mid.device.reads read.between.reads new.device.reads (RisesBy-once read.first.reads) (RisesBy-once read.second.reads));
    }

line-told : (setup : Setup) (a : ℕ) (cipher tags : Line) (mid new : TreeEngineParts) → HasLineRead setup a cipher tags mid.device new.device → IsDataLineRead setup a cipher tags new
line-told setup a cipher tags mid new read = search rules

-- the plain line is read
pub read-ok : (setup : Setup) (a count : ℕ) (old mid new : TreeEngineParts) (plain : Line) → IsPathHad setup a count old mid new → IsLineAccepted setup a count mid.device new.device mid.watch new.watch plain → IsLineRead setup a old new (Ok plain)
read-ok setup a count old mid new plain had it =
    let same = both-unwritten setup a it.cipher it.tags mid.device new.device it.read in
    let seen : IfSome (last_seal_of old.watch a) (λ seal. it.cipher ≡ seal.cipher) =
    subst (λ (w : WatchState). IfSome (last_seal_of w a) (λ seal. it.cipher ≡ seal.cipher)) had.path.watch it.seen in
    record {
      kind = tt;
      up = λ e. e;
      effect =
          effect-then setup going old mid new had.path.effect
          (refused-effect setup mid new same (both-power setup a it.cipher it.tags mid.device new.device it.read) had.engine it.watch_kept);
      watch = kept-watch going old.watch new.watch going_unshown (it.watch_kept ∙ had.path.watch);
      regs = same.regs ∙ had.path.done.regs;
      work = path-through setup a it.cipher it.tags old mid new had.path (ap (λ (e : TreeState). e.cache) had.engine) it.read;
      answered =
          λ trusted. (
            it.its_plain
                ∙ (ap (λ c. xor_lines it.cipher (setup.formulas.pad_of a (version_counter c))) (had.counted trusted)
                ∙ read-plain setup old.device.regs old.watch a it.cipher trusted.anchored had.its_line seen),
            path-accepted setup a old mid new had.shape had.its_line trusted had.path (kept_lines setup.shape a mid.device.lines new.device.lines same.lines),
            (record {
              cipher = it.cipher;
              tags = it.tags;
              its = line-told setup a it.cipher it.tags mid new it.read;
              fits = subst (λ c. setup.formulas.tag_of a (version_counter c) it.cipher ≡ tag_slot it.tags 0) (had.counted trusted) it.fits;
              last = seen;
            }),
          );
      unrefused = λ sound. tt;
    }

pub cut-reading : (setup : Setup) (mid new : TreeEngineParts) → IsCutReading mid.device new.device → AreUnwritten mid.device new.device
cut-reading setup mid new cut = search rules

-- how far a read came that was cut after its path was fetched
unfoldable pub line_cut-work : (setup : Setup) (a count : ℕ) (old mid new : TreeEngineParts) → IsPathHad setup a count old mid new → IsCutReading mid.device new.device → mid.device.live ≡ false → IsCutInNodeFetch setup a old new
line_cut-work setup a count old mid new had cut off =
    record {
      levels = setup.shape.levels;
      fetched = unwritten-levels setup a setup.shape.levels old mid new (ap (λ (e : TreeState). e.cache) had.engine) (cut-reading setup mid new cut) had.path.done;
      due = λ was. absurd (true≢false (sym (had.path.effect.power.1 was) ∙ off));
    }

-- a cut: of a board that was live it comes before any read
pub read-cut : (setup : Setup) (a count : ℕ) (old mid new : TreeEngineParts) → IsPathHad setup a count old mid new → IsCutReading mid.device new.device → mid.device.live ≡ false → new.watch ≡ mid.watch → IsLineRead setup a old new (Err Fail.Cut)
read-cut setup a count old mid new had cut off watch =
    let same = cut-reading setup mid new cut in
    let power : HasPower cut_short mid.device new.device = (
      still-steady mid.device.steady cut.between.steady cut.steady cut.cut.unsteady,
      cut.cut.off,
      subst (λ n. HasRisen n new.device.cuts) cut.cuts (HasRisen-once cut.cut.cuts),
    ) in
    record {
      kind = tt;
      up = λ e. e;
      effect =
          effect-then setup cut_short old mid new had.path.effect
          (cut-effect setup mid new same power (ap (λ (e : TreeState). e.shape) had.engine) watch);
      watch = kept-watch cut_short old.watch new.watch cut_unshown (watch ∙ had.path.watch);
      regs = same.regs ∙ had.path.done.regs;
      work = line_cut-work setup a count old mid new had cut off;
      answered = λ trusted. tt;
      unrefused = λ sound. tt;
    }

-- over a sound engine the tag fits, and the cipher is the last seal's
sound-line : (setup : Setup) (engine : TreeState) (told : Option (List Line)) (regs : Regs) (watch : WatchState) (a : ℕ) (cipher tags : Line) → a < tree_lines setup.shape → MatchOption told ⊥ (λ lines. IsTreeSound setup engine lines regs watch) → Tells told a cipher → Tells told (line_of_tag setup.shape a) tags
    → (setup.formulas.tag_of a (version_counter (line_counter setup.shape watch.nodes a)) cipher ≡ tag_slot tags 0) × IfSome (last_seal_of watch a) (λ seal. cipher ≡ seal.cipher)
sound-line setup engine None regs watch a cipher tags inside sound here there = absurd sound
sound-line setup engine (Some lines) regs watch a cipher tags inside sound here there =
    let it = line-sound setup engine lines regs watch a sound inside in (
      ap (setup.formulas.tag_of a (version_counter (line_counter setup.shape watch.nodes a))) here ∙ (it.0 ∙ ap (λ l. tag_slot l 0) (sym there)),
      subst (λ c. IfSome (last_seal_of watch a) (λ seal. c ≡ seal.cipher)) (sym here) it.1,
    )

sound-read : (setup : Setup) (a : ℕ) (cipher tags : Line) (mid : TreeEngineParts) (new : Device) → a < tree_lines setup.shape → AreTreeSound setup mid → HasLineRead setup a cipher tags mid.device new
    → (setup.formulas.tag_of a (version_counter (line_counter setup.shape mid.watch.nodes a)) cipher ≡ tag_slot tags 0) × IfSome (last_seal_of mid.watch a) (λ seal. cipher ≡ seal.cipher)
sound-read setup a cipher tags mid new inside sound read =
    sound-line setup mid.engine mid.device.lines mid.device.regs mid.watch a cipher tags inside sound read.first.tells
    (subst (λ told. Tells told (line_of_tag setup.shape a) tags) read.first.lines read.second.tells)

-- a sound engine is trusted
pub sound-trusted : (setup : Setup) (parts : TreeEngineParts) → AreTreeSound setup parts → AreTreeTrusted setup parts
sound-trusted setup parts sound = search rules

-- the tag doesn't fit
pub read-refused : (setup : Setup) (a count : ℕ) (old mid new : TreeEngineParts) → IsPathHad setup a count old mid new → IsLineUnaccepted setup a count mid.device new.device mid.watch new.watch → IsLineRead setup a old new (Err (Fail.Tag a))
read-refused setup a count old mid new had it =
    let same = both-unwritten setup a it.cipher it.tags mid.device new.device it.read in
    record {
      kind = refl;
      up = λ e. e;
      effect =
          effect-then setup going old mid new had.path.effect
          (refused-effect setup mid new same (both-power setup a it.cipher it.tags mid.device new.device it.read) had.engine it.watch_kept);
      watch = kept-watch going old.watch new.watch going_unshown (it.watch_kept ∙ had.path.watch);
      regs = same.regs ∙ had.path.done.regs;
      work = path-through setup a it.cipher it.tags old mid new had.path (ap (λ (e : TreeState). e.cache) had.engine) it.read;
      answered =
          λ trusted. (
            refl,
            path-accepted setup a old mid new had.shape had.its_line trusted had.path (kept_lines setup.shape a mid.device.lines new.device.lines same.lines),
            (record {
              cipher = it.cipher;
              tags = it.tags;
              its = line-told setup a it.cipher it.tags mid new it.read;
              fails = subst (λ c. setup.formulas.tag_of a (version_counter c) it.cipher ≢ tag_slot it.tags 0) (had.counted trusted) it.fails;
            }),
          );
      unrefused =
          λ sound.
          let now : count ≡ line_counter setup.shape mid.watch.nodes a =
          had.counted (sound-trusted setup old sound) ∙ ap (λ (w : WatchState). line_counter setup.shape w.nodes a) (sym had.path.watch) in
          it.fails (ap (λ c. setup.formulas.tag_of a (version_counter c) it.cipher) now
          ∙ (sound-read setup a it.cipher it.tags mid new.device had.its_line (had.path.effect.sound sound) it.read).0);
    }

-- ---- an exhibit is shown

-- what holds of a seal that there is
some-taken : {X : Type 0} (P : X → Type 0) (seal : Option X) → IsSome seal → IfSome seal P → (one : X) × (seal ≡ Some one) × P one
some-taken P None there was = absurd cc
some-taken P (Some one) there was = (one, refl, was)

pub line_shown-work : (setup : Setup) (a count : ℕ) (old mid new : TreeEngineParts) → IsPathHad setup a count old mid new → IsSome (last_seal_of mid.watch a) → IsLineForged setup a count mid.device new.device mid.watch new.watch → IsLineShownAt setup a old new
line_shown-work setup a count old mid new had sealed it =
    let taken = some-taken (λ (seal : LineSeal). (it.cipher ≢ seal.cipher) × HasShown mid.watch new.watch (Forged a (version_counter seal.counter) it.cipher (tag_slot it.tags 0))) (last_seal_of mid.watch a) sealed it.exhibit in
    record {
      cipher = it.cipher;
      tags = it.tags;
      seal = taken.0;
      last = subst (λ (w : WatchState). last_seal_of w a ≡ Some taken.0) had.path.watch taken.1;
      path = path-through setup a it.cipher it.tags old mid new had.path (ap (λ (e : TreeState). e.cache) had.engine) it.read;
      shown =
          subst (λ (w : WatchState). HasShown w new.watch (Forged a (version_counter taken.0.counter) it.cipher (tag_slot it.tags 0))) had.path.watch
          taken.2.1;
    }

pub read-shown : (setup : Setup) (a count : ℕ) (old mid new : TreeEngineParts) → IsPathHad setup a count old mid new → IsSome (last_seal_of mid.watch a) → IsLineForged setup a count mid.device new.device mid.watch new.watch → IsLineRead setup a old new (Err Fail.Shown)
read-shown setup a count old mid new had sealed it =
    let same = both-unwritten setup a it.cipher it.tags mid.device new.device it.read in
    let now : AreTreeTrusted setup old → count ≡ line_counter setup.shape mid.watch.nodes a =
    λ trusted. had.counted trusted ∙ ap (λ (w : WatchState). line_counter setup.shape w.nodes a) (sym had.path.watch) in
    let taken = some-taken (λ (seal : LineSeal). (it.cipher ≢ seal.cipher) × HasShown mid.watch new.watch (Forged a (version_counter seal.counter) it.cipher (tag_slot it.tags 0))) (last_seal_of mid.watch a) sealed it.exhibit in
    let seal : LineSeal = taken.0 in
    let never : AreTreeSound setup mid → ⊥ =
    λ sound.
    taken.2.0 (subst (λ s. IfSome s (λ seal. it.cipher ≡ seal.cipher)) taken.1
    (sound-read setup a it.cipher it.tags mid new.device had.its_line sound it.read).1) in
    let same_counter : AreTreeTrusted setup mid → taken.0.counter ≡ line_counter setup.shape mid.watch.nodes a =
    λ trusted.
    let its_seal = trusted.anchored.seals a had.its_line in
    ap (λ (s : LineSeal). s.counter) (same_Some taken.0 its_seal.seal (sym taken.1 ∙ its_seal.last)) ∙ its_seal.counter in
    record {
      kind = tt;
      up = λ e. e;
      effect =
          record {
            shape = ap (λ (e : TreeState). e.shape) had.engine ∙ had.path.effect.shape;
            size = same.size ∙ had.path.effect.size;
            power =
                power_chained shown old.device mid.device new.device had.path.effect.power
                (both-power setup a it.cipher it.tags mid.device new.device it.read);
            trusted =
                λ trusted.
                let here = had.path.effect.trusted trusted in
                subst (λ (o : Option Exhibit). IfSome o (IsExhibit setup.formulas))
                (sym (taken.2.1.exhibit
                ∙ first-none mid.watch.exhibit (Forged a (version_counter taken.0.counter) it.cipher (tag_slot it.tags 0)) here.anchored.no_exhibit))
                (forged_line-holds setup mid.device.regs mid.watch a it.cipher (tag_slot it.tags 0) taken.0 here.anchored had.its_line taken.1
                (subst (λ c. setup.formulas.tag_of a (version_counter c) it.cipher ≡ tag_slot it.tags 0) (now trusted) it.fits));
            sound = λ sound. never (had.path.effect.sound sound);
            places =
                λ trusted.
                places-then setup shown old mid new (had.path.effect.places trusted)
                (record {
                  seals = λ b inside was. same-seals setup mid new b same taken.2.1.seals was;
                  slots = λ i inside was. same-slots setup mid new i same taken.2.1.slots was;
                  nodes = tt;
                });
          };
      watch =
          record {
            setup = taken.2.1.setup ∙ ap (λ (w : WatchState). w.setup) had.path.watch;
            seals = taken.2.1.seals ∙ ap (λ (w : WatchState). w.seals) had.path.watch;
            nodes = taken.2.1.nodes ∙ ap (λ (w : WatchState). w.nodes) had.path.watch;
            slots = taken.2.1.slots ∙ ap (λ (w : WatchState). w.slots) had.path.watch;
            exhibit = λ other. absurd (other refl);
            stopped = λ _. subst IsSome (sym taken.2.1.exhibit) (shown-some mid.watch.exhibit (Forged a (version_counter taken.0.counter) it.cipher (tag_slot it.tags 0)));
          };
      regs = same.regs ∙ had.path.done.regs;
      work = inr (line_shown-work setup a count old mid new had sealed it);
      answered =
          λ trusted.
          inr (
            path-accepted setup a old mid new had.shape had.its_line trusted had.path (kept_lines setup.shape a mid.device.lines new.device.lines same.lines),
            (record {
              cipher = it.cipher;
              tags = it.tags;
              its = line-told setup a it.cipher it.tags mid new it.read;
              fits = subst (λ c. setup.formulas.tag_of a (version_counter c) it.cipher ≡ tag_slot it.tags 0) (had.counted trusted) it.fits;
              other =
                  subst (λ (w : WatchState). IfSome (last_seal_of w a) (λ seal. it.cipher ≢ seal.cipher)) had.path.watch
                  (subst (λ s. IfSome s (λ (seal : LineSeal). it.cipher ≢ seal.cipher)) (sym taken.1) taken.2.0);
              exhibit =
                  taken.2.1.exhibit
                  ∙ (first-none mid.watch.exhibit (Forged a (version_counter taken.0.counter) it.cipher (tag_slot it.tags 0)) (had.path.effect.trusted trusted).anchored.no_exhibit
                  ∙ ap (λ c. Some (Forged a (version_counter c) it.cipher (tag_slot it.tags 0)))
                  (same_counter (had.path.effect.trusted trusted) ∙ ap (λ (w : WatchState). line_counter setup.shape w.nodes a) had.path.watch));
            }),
          );
      unrefused = λ sound. never (had.path.effect.sound sound);
    }
