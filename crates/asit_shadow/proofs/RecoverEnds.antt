-- How a recovery ends.
use Rattle.std.proofs.Common.{◌++◌, take, drop, ℕ, ◌≡◌, ◌≢◌, ◌<◌, false, List, [], length, Some, None, refl, sym, ap, subst, inl, inr, ◌∙◌, arith, rules}
use Rattle.asit_shadow.proofs.Common.{Option, Ok, Err, All, IfSome, MatchOption, true≢false, append-nil, take_all, drop_all, Line, Regs, Exhibit, HasRisen, risen_times, without_group, IsLine, line_at, Shape, IsShape, Formulas, AreInRange, Setup, RisesBy, Device, AreToldLines, IsDevice, Tells, IsExhibit, HasRisen-once, redone_told, finishing_latches, HasFinished, IsInterrupted, cut_short, HasPower, unarmed, IsGroup-nil, power_chained, going_uncut, Work, IsCutReading, tree_size, tree_slots, line_of_slot, node_at, slot_read, ChipTree, shadow_height, root_of, shadow_digests, WatchState, HasShown, IsSlotClash, lines-equal, meta_lines-most, slot_read-slot_line, slot_read-zero, tree-version, tree-IsNode, CachedNode, TreeState, IsTreeEngine, IsTreeAnchored, IsTreeDurable, IsTreeSound, IsTreeSealStored, IsSlotStored, IsNodeHeld, IsNodeHeldBy, IsTreeRecovered, slots_read, Rest, IsRestUsable, rest_redone, IsRestAnchored, IsRestDurable, HasOnlyReadLines, AreSlotsRead, IsTreeWork, IsReadFinished, IsRoomFilled, HasTreeRecovered, IsNameable}
use Rattle.counter_tree.specs.Shadow.{shadow_root}
use Rattle.asit_shadow.specs.declared.recovery.TreeRec.TheVariants as Fail
use Rattle.asit_shadow.proofs.ArmLaws.{IsAnchored-emptied}
use Rattle.asit_shadow.proofs.GroupLaws.{IsDurable-again, IsDurable-finished}
use Rattle.asit_shadow.proofs.RegisterLaws.{finished-emptied}
use Rattle.asit_shadow.proofs.PlaceLaws.{recovered-place}
use Rattle.asit_shadow.proofs.RecoverLaws.{clash-holds, IsTrusted-recovered, slots-sound, IsSound-recovered, length-slots_read, line_at-slots_read}
use Rattle.call_effects.proofs.PowerLaws.{cut_unshown}
use Rattle.asit_shadow.proofs.FetchEnds.{still-steady, some_map, first-none}

-- ---- what a true slot line names can be cached

pub true-nameable : (setup : Setup) (regs : Regs) (watch : WatchState) (i : ℕ) → IsShape setup.shape → IsTreeAnchored setup regs watch → i < tree_slots setup.shape → IsNameable setup.shape (slot_read (line_at watch.slots i))
true-nameable setup regs watch i shape anchored inside =
    elim (anchored.slots i inside) [
      | inl zeros ↦ subst (IsNameable setup.shape) (sym (ap slot_read zeros ∙ slot_read-zero)) tt
      | inr names ↦
          let most = meta_lines-most setup.shape shape.at_most_six_levels in
          subst (IsNameable setup.shape)
          (sym (ap slot_read names.line
          ∙ slot_read-slot_line names.x (node_at watch.nodes names.x) (omega (arith, most, names.on_tree)) (tree-IsNode setup.shape watch.nodes names.x anchored.tree names.on_tree)))
          (names.on_tree, tree-version setup.shape watch.nodes names.x anchored.tree names.on_tree)
    ]

-- ---- places where nothing but an exhibit was changed

-- the watch knows the same
pub record KnowsSame (old new : WatchState) : Type 0 where
  pub seals : new.seals ≡ old.seals
  pub nodes : new.nodes ≡ old.nodes
  pub slots : new.slots ≡ old.slots

knows_same : (old new : WatchState) → new ≡ old → KnowsSame old new
knows_same old new same = search rules

held-same : (setup : Setup) (lines : List Line) (old new : WatchState) (x : ℕ) → KnowsSame old new → IsNodeHeld setup lines old x → IsNodeHeld setup lines new x
held-same setup lines old new x same held = search rules

rest-seals : (setup : Setup) (old new : Rest) (a : ℕ) → rest_redone new ≡ rest_redone old → KnowsSame old.watch new.watch → IfSome (rest_redone old) (λ lines. IsTreeSealStored setup.shape lines old.watch a) → IfSome (rest_redone new) (λ lines. IsTreeSealStored setup.shape lines new.watch a)
rest-seals setup old new a lines same it = search (rules, some_map)

rest-slots : (setup : Setup) (old new : Rest) (i : ℕ) → rest_redone new ≡ rest_redone old → KnowsSame old.watch new.watch → IfSome (rest_redone old) (λ lines. IsSlotStored setup.shape lines old.watch i) → IfSome (rest_redone new) (λ lines. IsSlotStored setup.shape lines new.watch i)
rest-slots setup old new i lines same it = search (rules, some_map)

rest-nodes : (setup : Setup) (old new : Rest) (x : ℕ) → rest_redone new ≡ rest_redone old → KnowsSame old.watch new.watch → IfSome (rest_redone old) (λ lines. IsNodeHeld setup lines old.watch x) → IfSome (rest_redone new) (λ lines. IsNodeHeld setup lines new.watch x)
rest-nodes setup old new x lines same it = search (rules, some_map, held-same)

-- ---- the group is finished, and lines are read

pub read_finished : (g : Shape) (old mid new : Device) → HasFinished old mid → HasOnlyReadLines (tree_slots g) mid new → IsReadFinished g old new
read_finished g old mid new first second = search (rules, power_chained)

finished-redone : (old new : Rest) → new.device.regs ≡ without_group old.device.regs → new.device.lines ≡ redone_told old.device.regs.group.items old.device.lines → rest_redone new ≡ rest_redone old
finished-redone old new regs lines = search (rules, unarmed)

finished-anchored : (setup : Setup) (old : Rest) (regs : Regs) (watch : WatchState) → regs ≡ without_group old.device.regs → watch ≡ old.watch → IsRestAnchored setup old → IsTreeAnchored setup regs watch
finished-anchored setup old regs watch emptied same anchored =
    subst (IsTreeAnchored setup regs) (sym same) (IsAnchored-emptied setup old.device.regs regs old.watch (finished-emptied old.device.regs regs emptied) anchored)

finished-durable : (setup : Setup) (old : Rest) (told : Option (List Line)) (regs : Regs) (watch : WatchState) → regs ≡ without_group old.device.regs → watch ≡ old.watch → told ≡ redone_told old.device.regs.group.items old.device.lines → IsRestDurable setup old → MatchOption told ⊥ (λ lines. IsTreeDurable setup lines regs watch)
finished-durable setup old told regs watch emptied same lines durable =
    subst (λ (o : Option (List Line)). MatchOption o ⊥ (λ ls. IsTreeDurable setup ls regs watch)) (sym lines)
    (subst (λ (w : WatchState). MatchOption (redone_told old.device.regs.group.items old.device.lines) ⊥ (λ ls. IsTreeDurable setup ls regs w)) (sym same)
    (of old.device.lines durable))
  where
    of : (o : Option (List Line)) → MatchOption o ⊥ (λ ls. IsTreeDurable setup ls old.device.regs old.watch) → MatchOption (redone_told old.device.regs.group.items o) ⊥ (λ ls. IsTreeDurable setup ls regs old.watch)
    of None it = absurd it
    of (Some ls) it = IsDurable-finished setup ls old.device.regs regs old.watch (finished-emptied old.device.regs regs emptied) it

durable-anchored : (setup : Setup) (rest : Rest) → IsRestDurable setup rest → IsRestAnchored setup rest
durable-anchored setup rest durable = search rules

-- over a durable device the slot lines read are the true ones
slots-true : (setup : Setup) (slots : List Line) (old new : Rest) → IsReadFinished setup.shape old.device new.device → AreSlotsRead setup.shape slots new.device → IsRestDurable setup old → slots ≡ old.watch.slots
slots-true setup slots old new finished read durable =
    of new.device.lines (finished-durable setup old new.device.lines new.device.regs old.watch finished.regs refl finished.lines durable) read.told
  where
    of : (o : Option (List Line)) → MatchOption o ⊥ (λ ls. IsTreeDurable setup ls new.device.regs old.watch) → ((i : ℕ) → i < tree_slots setup.shape → Tells o (line_of_slot setup.shape i) (line_at slots i)) → slots ≡ old.watch.slots
    of None it told = absurd it
    of (Some ls) it told =
        let size = it.device_whole.count in
        let same : slots ≡ slots_read setup.shape ls =
        lines-equal slots (slots_read setup.shape ls) (read.count ∙ sym (length-slots_read setup.shape ls size))
        (λ i low.
        let inside : i < tree_slots setup.shape = omega (arith, low, read.count) in
        told i inside ∙ sym (line_at-slots_read setup.shape ls i inside)) in
        same ∙ (slots-sound setup ls new.device.regs old.watch it (ap (λ (r : Regs). r.group.items) finished.regs)).0

-- ---- the ends

pub refused_end : (setup : Setup) (kept found : List ℕ) (slots : List Line) (old new : Rest) (before after : ℕ) → IsReadFinished setup.shape old.device new.device → AreSlotsRead setup.shape slots new.device
    → kept ≡ new.device.regs.root → found ≡ shadow_root setup.shape setup.formulas slots → kept ≢ found → new.watch ≡ old.watch → after ≡ risen_times (shadow_digests setup.shape) before → HasTreeRecovered setup old new before after (Err (Fail.Shadow kept found))
refused_end setup kept found slots old new before after finished read is_kept is_found differ watch counted =
    let lines = finished-redone old new finished.regs finished.lines in
    let root : new.device.regs.root ≡ old.device.regs.root = ap (λ (r : Regs). r.root) finished.regs in
    let same = knows_same old.watch new.watch watch in
    record {
      size = finished.size;
      lines = lines;
      root = root;
      group = finished.group;
      begun = λ is. absurd (going_uncut is);
      work = record { reads = finished.reads; digests = counted };
      cached = tt;
      power = finished.power;
      answered = (
        (record { slots = slots; read = read; register = is_kept ∙ root; root = is_found; differ = differ }),
        watch,
      );
      trusted = λ anchored. finished-anchored setup old new.device.regs new.watch finished.regs watch anchored;
      sound =
          λ durable.
          differ (is_kept ∙ (root ∙ ((durable-anchored setup old durable).root
          ∙ (ap (shadow_root setup.shape setup.formulas) (sym (slots-true setup slots old new finished read durable)) ∙ sym is_found))));
      places =
          λ anchored.
          record {
            seals = λ a inside it. rest-seals setup old new a lines same it;
            slots = λ i inside it. rest-slots setup old new i lines same it;
            nodes = λ x inside it. rest-nodes setup old new x lines same it;
          };
    }

-- where other slot lines were shown, the watch and the board are ready as before
pub shown_usable : (g : Shape) (old new : Rest) (at : Exhibit) → IsReadFinished g old.device new.device → HasShown old.watch new.watch at → IsRestUsable g old → IsRestUsable g new
shown_usable g old new at finished seen usable = search (rules, IsGroup-nil)

pub shown_end : (setup : Setup) (slots : List Line) (at : Exhibit) (old new : Rest) (before after : ℕ) → IsShape setup.shape → AreInRange setup.formulas → IsReadFinished setup.shape old.device new.device → AreSlotsRead setup.shape slots new.device
    → shadow_root setup.shape setup.formulas slots ≡ new.device.regs.root → slots ≢ old.watch.slots → IsSlotClash old.watch slots at → HasShown old.watch new.watch at → after ≡ risen_times (shadow_digests setup.shape) before → HasTreeRecovered setup old new before after (Err Fail.Shown)
shown_end setup slots at old new before after shape in_range finished read is_root other clash seen counted =
    let lines = finished-redone old new finished.regs finished.lines in
    let root : new.device.regs.root ≡ old.device.regs.root = ap (λ (r : Regs). r.root) finished.regs in
    let same : KnowsSame old.watch new.watch = record { seals = seen.seals; nodes = seen.nodes; slots = seen.slots } in
    record {
      size = finished.size;
      lines = lines;
      root = root;
      group = finished.group;
      begun = λ is. absurd (cut_unshown (sym is));
      work = record { reads = finished.reads; digests = counted };
      cached = tt;
      power = finished.power;
      answered = record { slots = slots; read = read; root = is_root ∙ root; other = other; place = (at, clash, seen) };
      trusted =
          λ anchored.
          subst (λ (o : Option Exhibit). IfSome o (IsExhibit setup.formulas)) (sym (seen.exhibit ∙ first-none old.watch.exhibit at anchored.no_exhibit))
          (clash-holds setup old.device.regs old.watch slots at shape in_range anchored read.count read.whole (is_root ∙ root) clash);
      sound = λ durable. other (slots-true setup slots old new finished read durable);
      places =
          λ anchored.
          record {
            seals = λ a inside it. rest-seals setup old new a lines same it;
            slots = λ i inside it. rest-slots setup old new i lines same it;
            nodes = λ x inside it. rest-nodes setup old new x lines same it;
          };
    }

-- ---- a cut

again-durable : (setup : Setup) (regs : Regs) (watch : WatchState) (old new : Option (List Line)) → AreToldLines (tree_size setup.shape) new → redone_told regs.group.items new ≡ redone_told regs.group.items old
    → MatchOption old ⊥ (λ lines. IsTreeDurable setup lines regs watch) → MatchOption new ⊥ (λ lines. IsTreeDurable setup lines regs watch)
again-durable setup regs watch None new whole again it = absurd it
again-durable setup regs watch (Some lines) None whole again it = absurd cc
again-durable setup regs watch (Some lines) (Some redone) whole again it = IsDurable-again setup lines redone regs watch whole (cc) it

-- amid the group
pub interrupted_end : (setup : Setup) (old new : Rest) (before after : ℕ) → old.device.size ≡ tree_size setup.shape → IsDevice new.device → old.device.regs.group.items ≢ [] → IsInterrupted old.device.regs.group.items old.device new.device
    → new.watch ≡ old.watch → after ≡ before → HasTreeRecovered setup old new before after (Err Fail.Cut)
interrupted_end setup old new before after size whole armed cut watch counted = search (rules, knows_same, again-durable, rest-seals, rest-slots, rest-nodes)

-- amid the reads, which comes only of a board that had no power
pub unread_end : (setup : Setup) (old new : Rest) (mid : Device) (before after : ℕ) → HasFinished old.device mid → IsCutReading mid new.device → mid.live ≡ false → new.watch ≡ old.watch → after ≡ before
    → HasTreeRecovered setup old new before after (Err Fail.Cut)
unread_end setup old new mid before after first cut off watch counted =
    let told : new.device.lines ≡ redone_told old.device.regs.group.items old.device.lines = cut.cut.lines ∙ (cut.lines ∙ first.lines) in
    let regs : new.device.regs ≡ without_group old.device.regs = cut.cut.regs ∙ (cut.regs ∙ first.regs) in
    let lines = finished-redone old new regs told in
    let same = knows_same old.watch new.watch watch in
    let power : HasPower cut_short mid new.device = (
      still-steady mid.steady cut.between.steady cut.steady cut.cut.unsteady,
      cut.cut.off,
      subst (λ n. HasRisen n new.device.cuts) cut.cuts (HasRisen-once cut.cut.cuts),
    ) in
    record {
      size = cut.cut.size ∙ (cut.size ∙ first.size);
      lines = lines;
      root = ap (λ (r : Regs). r.root) regs;
      group =
          inr (record {
            regs = regs;
            writes = subst (λ n. RisesBy (length old.device.regs.group.items) old.device.writes n) (sym (cut.cut.writes ∙ cut.writes)) first.writes;
            latches = subst (λ n. RisesBy (finishing_latches old.device.regs.group.items) old.device.latches n) (sym (cut.cut.latches ∙ cut.latches)) first.latches;
          });
      begun = λ is was. absurd (true≢false (sym (first.live was) ∙ off));
      work =
          record {
            no_digests = counted;
            due = λ was. absurd (true≢false (sym (first.live was) ∙ off));
            no_reads = λ was. absurd (true≢false (sym (first.live was) ∙ off));
          };
      cached = tt;
      power = power_chained cut_short old.device mid new.device (first.steady, first.live, first.cuts) power;
      answered = watch;
      trusted = λ anchored. finished-anchored setup old new.device.regs new.watch regs watch anchored;
      sound = λ durable. finished-durable setup old new.device.lines new.device.regs new.watch regs watch told durable;
      places =
          λ anchored.
          record {
            seals = λ a inside it. rest-seals setup old new a lines same it;
            slots = λ i inside it. rest-slots setup old new i lines same it;
            nodes = λ x inside it. rest-nodes setup old new x lines same it;
          };
    }

-- ---- an engine is made

pub recovered_end : (setup : Setup) (slots : List Line) (engine : TreeState) (work : Work) (old new : Rest) (before after : ℕ) → IsShape setup.shape → IsReadFinished setup.shape old.device new.device → AreSlotsRead setup.shape slots new.device
    → shadow_root setup.shape setup.formulas slots ≡ new.device.regs.root → slots ≡ old.watch.slots → new.watch ≡ old.watch → IsTreeWork setup.shape work before after → (IsRestAnchored setup old → IsTreeRecovered setup slots engine)
    → HasTreeRecovered setup old new before after (Ok (engine, work))
recovered_end setup slots engine work old new before after shape finished read is_root is_true watch worked made =
    let lines = finished-redone old new finished.regs finished.lines in
    let root : new.device.regs.root ≡ old.device.regs.root = ap (λ (r : Regs). r.root) finished.regs in
    let same = knows_same old.watch new.watch watch in
    let none : new.device.regs.group.items ≡ [] = ap (λ (r : Regs). r.group.items) finished.regs in
    let is_made : IsRestAnchored setup old → IsTreeRecovered setup new.watch.slots engine =
    λ anchored. subst (λ (ls : List Line). IsTreeRecovered setup ls engine) (is_true ∙ ap (λ (w : WatchState). w.slots) (sym watch)) (made anchored) in
    record {
      size = finished.size;
      lines = lines;
      root = root;
      group = finished.group;
      begun = λ is. absurd (going_uncut is);
      work = record { reads = finished.reads; digests = worked.counted ∙ ap (λ n. risen_times n before) worked.digests };
      cached = λ anchored. subst (λ (ls : List Line). IsTreeRecovered setup ls engine) is_true (made anchored);
      power = finished.power;
      answered = (
        (record { slots = slots; read = read; root = is_root ∙ root; true_slots = is_true; same = watch }),
        worked,
      );
      trusted =
          λ anchored.
          IsTrusted-recovered setup engine new.device.regs new.watch shape
          (finished-anchored setup old new.device.regs new.watch finished.regs watch anchored) none (is_made anchored);
      sound =
          λ durable.
          sound_of new.device.lines
          (finished-durable setup old new.device.lines new.device.regs new.watch finished.regs watch finished.lines durable)
          (is_made (durable-anchored setup old durable));
      places =
          λ anchored.
          record {
            seals = λ a inside it. rest-seals setup old new a lines same it;
            slots = λ i inside it. rest-slots setup old new i lines same it;
            nodes =
                λ x inside it.
                some_map (λ ls. IsNodeHeld setup ls new.watch x) (λ ls. IsNodeHeldBy setup engine ls new.watch x) (rest_redone new)
                (λ ls held.
                recovered-place setup engine ls new.device.regs new.watch x shape
                (finished-anchored setup old new.device.regs new.watch finished.regs watch anchored) (is_made anchored) inside held)
                (rest-nodes setup old new x lines same it);
          };
    }
  where
    sound_of : (o : Option (List Line)) → MatchOption o ⊥ (λ ls. IsTreeDurable setup ls new.device.regs new.watch) → IsTreeRecovered setup new.watch.slots engine → MatchOption o ⊥ (λ ls. IsTreeSound setup engine ls new.device.regs new.watch)
    sound_of None it is = absurd it
    sound_of (Some ls) it is =
        let empty : new.device.regs.group.items ≡ [] = ap (λ (r : Regs). r.group.items) finished.regs in
        IsSound-recovered setup engine ls new.device.regs new.watch shape it empty
        (subst (λ (k : List Line). IsTreeRecovered setup k engine) (sym (slots-sound setup ls new.device.regs new.watch it empty).0) is)

-- ---- the code's parts

-- the slot lines read are those of the device as it is left
pub slots-read : (g : Shape) (slots : List Line) (mid new : Device) → length slots ≡ tree_slots g → All IsLine slots → ((i : ℕ) → i < tree_slots g → Tells mid.lines (line_of_slot g i) (line_at slots i)) → HasOnlyReadLines (tree_slots g) mid new → AreSlotsRead g slots new
slots-read g slots mid new count whole told read = search rules

pub root-is : (g : Shape) (f : Formulas) (h : ℕ) (slots : List Line) (found : List ℕ) → h ≡ shadow_height g → found ≡ root_of f h slots → found ≡ shadow_root g f slots
unfolding shadow_root
root-is g f h slots found height is = is ∙ ap (λ n. root_of f n slots) height

-- the filled memory makes an engine
pub filled-engine : (setup : Setup) (old new : Rest) (before after : ℕ) (cache : List (Option CachedNode)) (tree : ChipTree) → IsRoomFilled setup old new before after cache tree → IsTreeEngine (record { shape = setup.shape; cache = cache; tree = tree; down = false })
filled-engine setup old new before after cache tree it = search rules

pub filled-recovered : (setup : Setup) (old new : Rest) (before after : ℕ) (cache : List (Option CachedNode)) (tree : ChipTree) → IsShape setup.shape → IsRoomFilled setup old new before after cache tree → IsRestAnchored setup old → IsTreeRecovered setup old.watch.slots (record { shape = setup.shape; cache = cache; tree = tree; down = false })
filled-recovered setup old new before after cache tree shape it anchored =
    record {
      shape = refl;
      down = refl;
      count = it.count ∙ sym anchored.of_setup.slot_count;
      cache =
          λ i low.
          let inside : i < tree_slots setup.shape = omega (arith, low, anchored.of_setup.slot_count) in
          it.named i inside (true-nameable setup old.device.regs old.watch i shape anchored inside);
      tree = it.over;
    }

pub filled-end : (setup : Setup) (old new : Rest) (before after : ℕ) (cache : List (Option CachedNode)) (tree : ChipTree) (work : Work) → IsShape setup.shape → IsRoomFilled setup old new before after cache tree → work.trials ≡ 0 → work.digests ≡ shadow_digests setup.shape
    → HasTreeRecovered setup old new before after (Ok (record { shape = setup.shape; cache = cache; tree = tree; down = false }, work))
filled-end setup old new before after cache tree work shape it trials digests =
    let slots = it.accepted.slots in
    let root : new.device.regs.root ≡ old.device.regs.root = ap (λ (r : Regs). r.root) it.finished.regs in
    recovered_end setup it.accepted.slots (record { shape = setup.shape; cache = cache; tree = tree; down = false }) work old new before after shape it.finished it.accepted.read
    (it.accepted.root ∙ sym root) it.accepted.true_slots it.accepted.same
    (record { trials = trials; digests = digests; counted = it.counted ∙ ap (λ n. risen_times n before) (sym digests) })
    (λ anchored.
    subst (λ (ls : List Line). IsTreeRecovered setup ls (record { shape = setup.shape; cache = cache; tree = tree; down = false })) (sym it.accepted.true_slots)
    (filled-recovered setup old new before after cache tree shape it anchored))

-- a list that was written whole through a slice
pub written-whole : {X : Type 0} (n : ℕ) (new old : List X) → length new ≡ length old → n ≡ length old → take n (new ++ drop (length new) old) ≡ new
written-whole n new old count long = search (rules, drop_all, append-nil, take_all)
