-- A write that was armed: kept at a cut, or done.
use Rattle.std.proofs.Common.{ℕ, ◌≡◌, ◌≢◌, ◌<◌, ◌≤◌, ◌+◌, ◌-◌, ◌^◌, List, [], ◌∷◌, length, true, Some, None, refl, sym, ap, subst, inl, inr, ◌∙◌, arith, rules}
use Rattle.asit_shadow.proofs.Common.{Option, Ok, Err, IfSome, cases_eq, true≢false, false_from_ne_true, length-set, length-map, get_or-set_same, get_or-set_other, Line, Regs, HasRisen, line_at, IsGroup, without_group, Shape, IsShape, length-put_lines, Setup, RisesBy-then, RisesBy-once, RisesBy, Device, AreLinesOf, AreToldLines, HasLatched, Tells, HasFinished, IsInterrupted, RisesAtMost, redone, redone_told, finishing_latches, redone-nil, IsGroup-nil, cut_short, power_chained, any_told, Node, LineSeal, tree_lines, tree_slots, tree_size, line_of_node, total, node_at, WatchState, IsTreeEngine, IsTreeAnchored, IsTreeDurable, IsTreeSound, IsTreeSealStored, IsSlotStored, IsNodeHeld, IsNodeHeldBy, TreeEngineParts, tree_lines_redone, AreTreeTrusted, AreTreeSound, IsWatchReady, HoldsTreeSeal, HoldsSlot, IsTreeArmed, IsTreeEmptied, IsPathAccepted, IsUsedUp, spilled_nodes, IsCutInGroup, IsNodePathFetched, HasWrittenUp, IsWriteMade, IsWriteTold}
use Rattle.asit_shadow.specs.declared.fault.TreeFault.TheVariants as Fail
use Rattle.asit_shadow.proofs.ArmLaws.{armed-made, IsAnchored-armed, IsDurable-armed, IsTrusted-written, IsSound-written}
use Rattle.asit_shadow.proofs.GroupLaws.{IsDurable-again}
use Rattle.asit_shadow.proofs.RegisterLaws.{others-same, finished-emptied}
use Rattle.asit_shadow.proofs.PairSets.{length-set_pairs, pairs-count}
use Rattle.asit_shadow.proofs.SlotPlaces.{on_path-inside}
use Rattle.asit_shadow.proofs.PlaceLaws.{armed-places, written-place}
use Rattle.asit_shadow.proofs.ToldLemmas.{AreToldWith, told-as, told-match}
use Rattle.asit_shadow.proofs.Chains.{told-of}
use Rattle.asit_shadow.proofs.PathSteps.{same_lines}
use Rattle.asit_shadow.proofs.ReadEnds.{path-accepted, sound-trusted}
use Rattle.asit_shadow.proofs.ArmedWork.{IsArmedOver, armed-group, armed-path}
use Rattle.asit_shadow.proofs.ArmedWrites.{IsArmedAndStored, armed-and_stored}
use Rattle.asit_shadow.proofs.WriteEnds.{path-cached}

-- ---- lines under an armed group

-- where the group is redone over told lines
redone-if : (P Q : List Line → Type 0) (n : ℕ) (group : List (ℕ × Line)) (told : Option (List Line)) → AreToldLines n told → ((lines : List Line) → AreLinesOf n lines → P lines → Q (redone group lines)) → IfSome told P → IfSome (redone_told group told) Q
redone-if P Q n group None whole each was = tt
redone-if P Q n group (Some lines) whole each was = each lines whole was

-- the lines that a group makes of those before
pub redone-over : (P Q : List Line → Type 0) (n : ℕ) (group : List (ℕ × Line)) (mid new : TreeEngineParts) → mid.device.regs.group.items ≡ [] → tree_lines_redone new ≡ redone_told group mid.device.lines → AreToldLines n mid.device.lines → ((lines : List Line) → AreLinesOf n lines → P lines → Q (redone group lines)) → IfSome (tree_lines_redone mid) P → IfSome (tree_lines_redone new) Q
redone-over P Q n group mid new none made whole each was = search (rules, redone-if, told-of)

pub redone-own : (Q : List Line → Type 0) (n : ℕ) (group : List (ℕ × Line)) (mid new : TreeEngineParts) → tree_lines_redone new ≡ redone_told group mid.device.lines → AreToldLines n mid.device.lines → ((lines : List Line) → AreLinesOf n lines → Q (redone group lines)) → IfSome (tree_lines_redone new) Q
redone-own Q n group mid new made whole each = search (rules, redone-if, any_told)

told-redone : (n : ℕ) (group : List (ℕ × Line)) (told new : Option (List Line)) → AreToldLines n told → new ≡ redone_told group told → AreToldWith (λ x y. (AreLinesOf n x) × (y ≡ redone group x)) told new
told-redone n group told new whole same = search (rules, AreToldWith)

told-again : (n : ℕ) (group : List (ℕ × Line)) (told new : Option (List Line)) → AreToldLines n new → redone_told group new ≡ redone_told group told → AreToldWith (λ x y. (AreLinesOf n y) × (redone group y ≡ redone group x)) told new
told-again n group None None whole same = tt
told-again n group None (Some y) whole same = absurd cc
told-again n group (Some x) None whole same = absurd cc
told-again n group (Some x) (Some y) whole same = (whole, cc)

-- a line that the group leaves as it was
tells-redone : (n : ℕ) (group : List (ℕ × Line)) (told new : Option (List Line)) (place : ℕ) (line : Line) → AreToldLines n told → new ≡ redone_told group told → ((lines : List Line) → AreLinesOf n lines → line_at (redone group lines) place ≡ line_at lines place) → Tells told place line → Tells new place line
tells-redone n group told new place line whole same kept tells = search rules

-- ---- what an armed write makes

-- a write over a fetched path, armed by one latch
pub record IsArmedWrite (setup : Setup) (a : ℕ) (plain : Line) (seal : LineSeal) (pairs : List (ℕ × Node)) (regs : Regs) (old mid new : TreeEngineParts) (armed : Device) : Type 0 where
  pub shape : IsShape setup.shape
  pub inside : a < tree_lines setup.shape
  pub engine : IsTreeEngine mid.engine
  pub whole : AreToldLines (tree_size setup.shape) mid.device.lines
  pub node : Node
  pub fetched : IsNodePathFetched setup a old mid node
  pub ready : IsWatchReady setup.shape old.watch
  pub slots : length mid.engine.cache ≡ tree_slots setup.shape
  pub unspent : AreTreeTrusted setup old → IsUsedUp old → ⊥
  pub made : IsWriteMade setup a plain seal pairs regs mid new
  pub latched : HasLatched mid.device regs armed
  pub group : IsGroup (tree_size setup.shape) regs.group.items

armed-over : (setup : Setup) (a : ℕ) (plain : Line) (seal : LineSeal) (pairs : List (ℕ × Node)) (regs : Regs) (old mid new : TreeEngineParts) (armed : Device) → IsArmedWrite setup a plain seal pairs regs old mid new armed → IsArmedOver setup a plain seal pairs regs old mid new
armed-over setup a plain seal pairs regs old mid new armed it = search rules

-- from a trusted chip on it is as the laws ask
armed-of : (setup : Setup) (a : ℕ) (plain : Line) (seal : LineSeal) (pairs : List (ℕ × Node)) (regs : Regs) (old mid new : TreeEngineParts) (armed : Device) → IsArmedWrite setup a plain seal pairs regs old mid new armed → AreTreeTrusted setup old → IsArmedAndStored setup a seal regs mid new
armed-of setup a plain seal pairs regs old mid new armed it trusted =
    let now = it.fetched.path.effect.trusted trusted in
    let top : total (node_at mid.watch.nodes 0) < 2 ^ 64 = now.anchored.tree.top in
    let apart : total (node_at mid.watch.nodes 0) ≢ 2 ^ 64 - 1 =
    λ e. it.unspent trusted (ap (λ (w : WatchState). total (node_at w.nodes 0)) (sym it.fetched.path.watch) ∙ e) in
    armed-and_stored setup a plain seal pairs regs mid new it.shape it.inside it.engine now (path-cached setup a old mid it.shape it.inside trusted it.fetched.path) (omega (arith, top, apart)) it.made

seals-over : (setup : Setup) (a : ℕ) (plain : Line) (seal : LineSeal) (pairs : List (ℕ × Node)) (regs : Regs) (old mid new : TreeEngineParts) (armed : Device) → IsArmedWrite setup a plain seal pairs regs old mid new armed → AreTreeTrusted setup old → tree_lines_redone new ≡ redone_told regs.group.items mid.device.lines
    → (b : ℕ) → b < tree_lines setup.shape → HoldsTreeSeal setup.shape old b → HoldsTreeSeal setup.shape new b
seals-over setup a plain seal pairs regs old mid new armed it trusted made b inside was =
    let now = it.fetched.path.effect.trusted trusted in
    let its = armed-of setup a plain seal pairs regs old mid new armed it trusted in
    redone-over (λ lines. IsTreeSealStored setup.shape lines mid.watch b) (λ lines. IsTreeSealStored setup.shape lines new.watch b) (tree_size setup.shape) regs.group.items mid new now.no_group made it.whole
    (λ lines are. (armed-places setup a seal mid.engine lines mid.device.regs regs mid.watch new.watch it.shape are.count now (path-cached setup a old mid it.shape it.inside trusted it.fetched.path) its.armed).seals b inside)
    ((it.fetched.path.effect.places trusted).seals b inside was)

slots-over : (setup : Setup) (a : ℕ) (plain : Line) (seal : LineSeal) (pairs : List (ℕ × Node)) (regs : Regs) (old mid new : TreeEngineParts) (armed : Device) → IsArmedWrite setup a plain seal pairs regs old mid new armed → AreTreeTrusted setup old → tree_lines_redone new ≡ redone_told regs.group.items mid.device.lines
    → (i : ℕ) → i < tree_slots setup.shape → HoldsSlot setup.shape old i → HoldsSlot setup.shape new i
slots-over setup a plain seal pairs regs old mid new armed it trusted made i inside was =
    let now = it.fetched.path.effect.trusted trusted in
    let its = armed-of setup a plain seal pairs regs old mid new armed it trusted in
    redone-over (λ lines. IsSlotStored setup.shape lines mid.watch i) (λ lines. IsSlotStored setup.shape lines new.watch i) (tree_size setup.shape) regs.group.items mid new now.no_group made it.whole
    (λ lines are. (armed-places setup a seal mid.engine lines mid.device.regs regs mid.watch new.watch it.shape are.count now (path-cached setup a old mid it.shape it.inside trusted it.fetched.path) its.armed).slots i)
    ((it.fetched.path.effect.places trusted).slots i inside was)

own-seal : (setup : Setup) (a : ℕ) (plain : Line) (seal : LineSeal) (pairs : List (ℕ × Node)) (regs : Regs) (old mid new : TreeEngineParts) (armed : Device) → IsArmedWrite setup a plain seal pairs regs old mid new armed → AreTreeTrusted setup old → tree_lines_redone new ≡ redone_told regs.group.items mid.device.lines → HoldsTreeSeal setup.shape new a
own-seal setup a plain seal pairs regs old mid new armed it trusted made =
    let now = it.fetched.path.effect.trusted trusted in
    let its = armed-of setup a plain seal pairs regs old mid new armed it trusted in
    redone-own (λ lines. IsTreeSealStored setup.shape lines new.watch a) (tree_size setup.shape) regs.group.items mid new made it.whole
    (λ lines are. (armed-places setup a seal mid.engine lines mid.device.regs regs mid.watch new.watch it.shape are.count now (path-cached setup a old mid it.shape it.inside trusted it.fetched.path) its.armed).own_seal)

-- the watch has its counts and a seal of each line
pub told-ready : (g : Shape) (a : ℕ) (seal : LineSeal) (pairs : List (ℕ × Node)) (old new : WatchState) → a < tree_lines g → IsWriteTold g a seal pairs old new → IsWatchReady g old → IsWatchReady g new
told-ready g a seal pairs old new inside told ready = search (rules, length-set, length-set_pairs, length-put_lines, cases_eq, get_or-set_same, get_or-set_other)

-- the group has three lines and one for each level
group-count : (setup : Setup) (a : ℕ) (plain : Line) (seal : LineSeal) (pairs : List (ℕ × Node)) (regs : Regs) (mid new : TreeEngineParts) → IsWriteMade setup a plain seal pairs regs mid new → length regs.group.items ≡ setup.shape.levels + 3
group-count setup a plain seal pairs regs mid new made = search (rules, pairs-count, length-map)

one-latch : (group : List (ℕ × Line)) → 1 ≤ length group → finishing_latches group ≡ 1
one-latch [] some = absurd (omega (arith, some))
one-latch (entry ∷ rest) some = refl

-- ---- a cut amid the group: the write is kept

-- what the device holds once the group is written
kept-made : (setup : Setup) (a : ℕ) (plain : Line) (seal : LineSeal) (pairs : List (ℕ × Node)) (regs : Regs) (old mid new : TreeEngineParts) (armed : Device) → IsArmedWrite setup a plain seal pairs regs old mid new armed → IsInterrupted armed.regs.group.items armed new.device
    → redone_told regs.group.items new.device.lines ≡ redone_told regs.group.items mid.device.lines
kept-made setup a plain seal pairs regs old mid new armed it cut = search rules

kept-cuts : (setup : Setup) (a : ℕ) (plain : Line) (seal : LineSeal) (pairs : List (ℕ × Node)) (regs : Regs) (old mid new : TreeEngineParts) (armed : Device) → IsArmedWrite setup a plain seal pairs regs old mid new armed → IsInterrupted armed.regs.group.items armed new.device
    → RisesAtMost (length regs.group.items) armed.writes new.device.writes
kept-cuts setup a plain seal pairs regs old mid new armed it cut = search rules

-- how far it came
pub kept-work : (setup : Setup) (a : ℕ) (plain : Line) (seal : LineSeal) (pairs : List (ℕ × Node)) (regs : Regs) (old mid new : TreeEngineParts) (armed : Device) → IsArmedWrite setup a plain seal pairs regs old mid new armed → IsInterrupted armed.regs.group.items armed new.device
    → IsCutInGroup setup a old new
kept-work setup a plain seal pairs regs old mid new armed it cut =
    let path = it.fetched.path in
    let new_regs : new.device.regs ≡ regs = cut.regs ∙ it.latched.regs in
    let made : tree_lines_redone new ≡ redone_told regs.group.items mid.device.lines =
    ap (λ (r : Regs). redone_told r.group.items new.device.lines) new_regs ∙ kept-made setup a plain seal pairs regs old mid new armed it cut in
    let count = group-count setup a plain seal pairs regs mid new it.made in
    let one_latched : RisesBy 1 old.device.latches new.device.latches =
    subst (λ n. RisesBy 1 n new.device.latches) path.done.latches (subst (λ n. RisesBy 1 mid.device.latches n) (sym cut.latches) (RisesBy-once it.latched.latches)) in
    let over = armed-over setup a plain seal pairs regs old mid new armed it in
    record {
      seal = seal;
      armed = armed-path setup a 1 plain seal pairs regs old mid new over made (others-same regs new.device.regs new_regs) one_latched (cut.reads ∙ it.latched.reads);
      group = ap (λ (r : Regs). r.group.items) new_regs ∙ armed-group setup a plain seal pairs regs old mid new over;
      group_count = ap (λ (r : Regs). length r.group.items) new_regs ∙ count;
      armed_writes = mid.device.writes;
      before = path.done.writes;
      since =
          subst (λ n. RisesAtMost n mid.device.writes new.device.writes) count
          (subst (λ n. RisesAtMost (length regs.group.items) n new.device.writes) it.latched.writes (kept-cuts setup a plain seal pairs regs old mid new armed it cut));
    }

pub write-kept : (setup : Setup) (a : ℕ) (plain : Line) (seal : LineSeal) (pairs : List (ℕ × Node)) (regs : Regs) (old mid new : TreeEngineParts) (armed : Device) → IsArmedWrite setup a plain seal pairs regs old mid new armed → AreToldLines (tree_size setup.shape) new.device.lines → IsInterrupted armed.regs.group.items armed new.device → HasWrittenUp setup a plain old new (Err Fail.Cut)
write-kept setup a plain seal pairs regs old mid new armed it told_new cut =
    let path = it.fetched.path in
    let new_regs : new.device.regs ≡ regs = cut.regs ∙ it.latched.regs in
    let again = kept-made setup a plain seal pairs regs old mid new armed it cut in
    let made : tree_lines_redone new ≡ redone_told regs.group.items mid.device.lines =
    ap (λ (r : Regs). redone_told r.group.items new.device.lines) new_regs ∙ again in
    let count = group-count setup a plain seal pairs regs mid new it.made in
    let cuts = kept-cuts setup a plain seal pairs regs old mid new armed it cut in
    let one_latched : RisesBy 1 old.device.latches new.device.latches =
    subst (λ n. RisesBy 1 n new.device.latches) path.done.latches (subst (λ n. RisesBy 1 mid.device.latches n) (sym cut.latches) (RisesBy-once it.latched.latches)) in
    record {
      kind = tt;
      up = λ e. e;
      down = it.made.down ∙ path.down;
      effect =
          record {
            shape = it.made.shape ∙ path.effect.shape;
            size = cut.size ∙ (it.latched.size ∙ path.effect.size);
            power =
                power_chained cut_short old.device mid.device new.device path.effect.power (
                  false_from_ne_true mid.device.steady (λ was. true≢false (sym (it.latched.steady ∙ was) ∙ cut.unsteady)),
                  cut.off,
                  subst (λ c. HasRisen c new.device.cuts) it.latched.cuts cut.rose,
                );
            trusted =
                λ trusted.
                subst (λ r. IsTreeAnchored setup r new.watch) (sym new_regs)
                (IsAnchored-armed setup a seal mid.device.regs regs mid.watch new.watch it.shape (path.effect.trusted trusted).anchored
                (armed-of setup a plain seal pairs regs old mid new armed it trusted).armed);
            sound =
                λ sound.
                let trusted = sound-trusted setup old sound in
                let its = armed-of setup a plain seal pairs regs old mid new armed it trusted in
                let mid_sound : AreTreeSound setup mid = path.effect.sound sound in
                told-match (λ lines. IsTreeSound setup mid.engine lines mid.device.regs mid.watch) (λ lines. IsTreeDurable setup lines new.device.regs new.watch) mid.device.lines new.device.lines
                (told-as (λ x y. (AreLinesOf (tree_size setup.shape) y) × (redone regs.group.items y ≡ redone regs.group.items x)) (λ x y. IsTreeSound setup mid.engine x mid.device.regs mid.watch → IsTreeDurable setup y new.device.regs new.watch) mid.device.lines new.device.lines
                (λ x y both was.
                subst (λ r. IsTreeDurable setup y r new.watch) (sym new_regs)
                (IsDurable-again setup x y regs new.watch both.0 both.1
                (IsDurable-armed setup a seal mid.engine x mid.device.regs regs mid.watch new.watch it.shape was (path-cached setup a old mid it.shape it.inside trusted path) its.armed)))
                (told-again (tree_size setup.shape) regs.group.items mid.device.lines new.device.lines told_new again))
                mid_sound;
            places =
                λ trusted.
                record {
                  seals = seals-over setup a plain seal pairs regs old mid new armed it trusted made;
                  slots = slots-over setup a plain seal pairs regs old mid new armed it trusted made;
                  nodes =
                      λ x in_x was.
                      let now = path.effect.trusted trusted in
                      let its = armed-of setup a plain seal pairs regs old mid new armed it trusted in
                      redone-over (λ lines. IsNodeHeldBy setup mid.engine lines mid.watch x) (λ lines. IsNodeHeld setup lines new.watch x) (tree_size setup.shape) regs.group.items mid new now.no_group made it.whole
                      (λ lines are. (armed-places setup a seal mid.engine lines mid.device.regs regs mid.watch new.watch it.shape are.count now (path-cached setup a old mid it.shape it.inside trusted path) its.armed).nodes x in_x)
                      ((path.effect.places trusted).nodes x in_x was);
                };
          };
      work = inr (kept-work setup a plain seal pairs regs old mid new armed it cut);
      answered =
          λ trusted.
          let its = armed-of setup a plain seal pairs regs old mid new armed it trusted in (
            it.unspent trusted,
            inr (record {
              seal = seal;
              armed =
                  record {
                    armed = kept_armed its;
                    sealed = it.made.made.cipher;
                  };
              stored = own-seal setup a plain seal pairs regs old mid new armed it trusted made;
              latches = one_latched;
            }),
          );
      unrefused = λ sound. tt;
      watch = λ e. absurd e;
      ready = λ ready. told-ready setup.shape a seal pairs mid.watch new.watch it.inside it.made.told (subst (IsWatchReady setup.shape) (sym path.watch) ready);
      board =
          λ ready.
          record {
            its_size = cut.size ∙ (it.latched.size ∙ (path.effect.size ∙ ready.its_size));
            group = subst (λ (r : Regs). IsGroup (tree_size setup.shape) r.group.items) (sym new_regs) it.group;
          };
      no_group = λ e. absurd (true≢false (sym e));
    }
  where
    kept_armed : IsArmedAndStored setup a seal regs mid new → IsTreeArmed setup a seal old.device.regs new.device.regs old.watch new.watch
    kept_armed its =
        subst (λ r. IsTreeArmed setup a seal old.device.regs r old.watch new.watch) (sym (cut.regs ∙ it.latched.regs))
        (subst (λ w. IsTreeArmed setup a seal old.device.regs regs w new.watch) it.fetched.path.watch
        (subst (λ r. IsTreeArmed setup a seal r regs mid.watch new.watch) it.fetched.path.done.regs its.armed))

-- ---- the group written and emptied: the write is done

pub write-done : (setup : Setup) (a : ℕ) (plain : Line) (seal : LineSeal) (pairs : List (ℕ × Node)) (regs : Regs) (old mid new : TreeEngineParts) (armed : Device) → IsArmedWrite setup a plain seal pairs regs old mid new armed → HasFinished armed new.device → HasWrittenUp setup a plain old new (Ok seal.counter)
write-done setup a plain seal pairs regs old mid new armed it done =
    let path = it.fetched.path in
    let lines : new.device.lines ≡ redone_told regs.group.items mid.device.lines =
    done.lines ∙ (ap (λ (r : Regs). redone_told r.group.items armed.lines) it.latched.regs ∙ ap (redone_told regs.group.items) it.latched.lines) in
    let no_new : new.device.regs.group.items ≡ [] = ap (λ (r : Regs). r.group.items) done.regs in
    let made : tree_lines_redone new ≡ redone_told regs.group.items mid.device.lines =
    ap (λ group. redone_told group new.device.lines) no_new ∙ (redone-nil new.device.lines ∙ lines) in
    let emptied : IsTreeEmptied regs new.device.regs = finished-emptied regs new.device.regs (done.regs ∙ ap without_group it.latched.regs) in
    let count = group-count setup a plain seal pairs regs mid new it.made in
    let writes : RisesBy (length regs.group.items) armed.writes new.device.writes =
    subst (λ (r : Regs). RisesBy (length r.group.items) armed.writes new.device.writes) it.latched.regs done.writes in
    let latches : RisesBy 1 armed.latches new.device.latches =
    subst (λ n. RisesBy n armed.latches new.device.latches) (one-latch regs.group.items (omega (arith, count)))
    (subst (λ (r : Regs). RisesBy (finishing_latches r.group.items) armed.latches new.device.latches) it.latched.regs done.latches) in
    let two_latched : RisesBy 2 old.device.latches new.device.latches =
    RisesBy-then 1 1 old.device.latches armed.latches new.device.latches (subst (λ n. RisesBy 1 n armed.latches) path.done.latches (RisesBy-once it.latched.latches)) latches in
    let group_writes : RisesBy (setup.shape.levels + 3) mid.device.writes new.device.writes =
    subst (λ n. RisesBy n mid.device.writes new.device.writes) count (subst (λ n. RisesBy (length regs.group.items) n new.device.writes) it.latched.writes writes) in
    record {
      kind = tt;
      up = λ e. e;
      down = it.made.down ∙ path.down;
      effect =
          record {
            shape = it.made.shape ∙ path.effect.shape;
            size = done.size ∙ (it.latched.size ∙ path.effect.size);
            power = (
              λ was. done.steady (it.latched.steady ∙ path.effect.power.0 was),
              λ was. done.live (it.latched.live ∙ path.effect.power.1 was),
              done.cuts ∙ (it.latched.cuts ∙ path.effect.power.2),
            );
            trusted =
                λ trusted.
                let its = armed-of setup a plain seal pairs regs old mid new armed it trusted in
                IsTrusted-written setup a seal mid.engine new.engine mid.device.regs regs new.device.regs mid.watch new.watch it.shape (path.effect.trusted trusted) its.armed its.stored emptied;
            sound =
                λ sound.
                let trusted = sound-trusted setup old sound in
                let its = armed-of setup a plain seal pairs regs old mid new armed it trusted in
                let mid_sound : AreTreeSound setup mid = path.effect.sound sound in
                told-match (λ lines. IsTreeSound setup mid.engine lines mid.device.regs mid.watch) (λ lines. IsTreeSound setup new.engine lines new.device.regs new.watch) mid.device.lines new.device.lines
                (told-as (λ x y. (AreLinesOf (tree_size setup.shape) x) × (y ≡ redone regs.group.items x)) (λ x y. IsTreeSound setup mid.engine x mid.device.regs mid.watch → IsTreeSound setup new.engine y new.device.regs new.watch) mid.device.lines new.device.lines
                (λ x y both was.
                subst (λ l. IsTreeSound setup new.engine l new.device.regs new.watch) (sym both.1)
                (IsSound-written setup a seal mid.engine new.engine x mid.device.regs regs new.device.regs mid.watch new.watch it.shape was (path-cached setup a old mid it.shape it.inside trusted path) its.armed its.stored emptied))
                (told-redone (tree_size setup.shape) regs.group.items mid.device.lines new.device.lines it.whole lines))
                mid_sound;
            places =
                λ trusted.
                record {
                  seals = seals-over setup a plain seal pairs regs old mid new armed it trusted made;
                  slots = slots-over setup a plain seal pairs regs old mid new armed it trusted made;
                  nodes =
                      λ x in_x was.
                      let now = path.effect.trusted trusted in
                      let its = armed-of setup a plain seal pairs regs old mid new armed it trusted in
                      redone-over (λ lines. IsNodeHeldBy setup mid.engine lines mid.watch x) (λ lines. IsNodeHeldBy setup new.engine lines new.watch x) (tree_size setup.shape) regs.group.items mid new now.no_group made it.whole
                      (λ lines are.
                      written-place setup a seal mid.engine new.engine lines mid.device.regs regs mid.watch new.watch x it.shape are.count now (path-cached setup a old mid it.shape it.inside trusted path) its.armed its.stored in_x)
                      ((path.effect.places trusted).nodes x in_x was);
                };
          };
      work =
          record {
            seal = seal;
            armed =
                armed-path setup a 2 plain seal pairs regs old mid new (armed-over setup a plain seal pairs regs old mid new armed it) made emptied.others two_latched
                (done.reads ∙ it.latched.reads);
            no_group = no_new;
            writes =
                RisesBy-then (length (spilled_nodes setup old.engine.cache a setup.shape.levels)) (setup.shape.levels + 3) old.device.writes mid.device.writes new.device.writes path.done.writes group_writes;
          };
      answered =
          λ trusted.
          let its = armed-of setup a plain seal pairs regs old mid new armed it trusted in (
            it.unspent trusted,
            accepted trusted,
            (record {
              seal = seal;
              armed_regs = regs;
              armed =
                  record {
                    armed =
                        subst (λ w. IsTreeArmed setup a seal old.device.regs regs w new.watch) path.watch
                        (subst (λ r. IsTreeArmed setup a seal r regs mid.watch new.watch) path.done.regs its.armed);
                    sealed = it.made.made.cipher;
                  };
              its_counter = refl;
              emptied = emptied;
              stored = own-seal setup a plain seal pairs regs old mid new armed it trusted made;
              path =
                  record {
                    each =
                        λ x on.
                        record { held = record { x = x; node = node_at new.watch.nodes x; dirty = true }; stands = its.stored.cache.on_path x on; position = refl };
                  };
            }),
          );
      unrefused = λ sound. tt;
      watch = λ e. absurd e;
      ready = λ ready. told-ready setup.shape a seal pairs mid.watch new.watch it.inside it.made.told (subst (IsWatchReady setup.shape) (sym path.watch) ready);
      board =
          λ ready.
          record {
            its_size = done.size ∙ (it.latched.size ∙ (path.effect.size ∙ ready.its_size));
            group = subst (IsGroup (tree_size setup.shape)) (sym no_new) (IsGroup-nil (tree_size setup.shape));
          };
      no_group = λ e none. no_new;
    }
  where
    accepted : AreTreeTrusted setup old → IsPathAccepted setup a old new
    accepted trusted =
        let its = armed-of setup a plain seal pairs regs old mid new armed it trusted in
        let lines : new.device.lines ≡ redone_told regs.group.items mid.device.lines =
        done.lines ∙ (ap (λ (r : Regs). redone_told r.group.items armed.lines) it.latched.regs ∙ ap (redone_told regs.group.items) it.latched.lines) in
        let were = path-accepted setup a old mid mid it.shape it.inside trusted it.fetched.path (same_lines setup.shape a mid.device.lines) in
        record {
          each =
              λ x on.
              elim (were.each x on) [
                | inl cached ↦ inl cached
                | inr read ↦
                    inr (record {
                      line = read.line;
                      its =
                          record {
                            on_path = read.its.on_path;
                            below_top = read.its.below_top;
                            uncached = read.its.uncached;
                            read =
                                tells-redone (tree_size setup.shape) regs.group.items mid.device.lines new.device.lines (line_of_node setup.shape x) read.line it.whole lines
                                (λ l are. (armed-made setup a seal l mid.device.regs regs mid.watch new.watch it.shape are.count its.armed).node_lines x (on_path-inside setup.shape a x it.inside on))
                                read.its.read;
                          };
                      accepted = read.accepted;
                    })
              ];
        }
