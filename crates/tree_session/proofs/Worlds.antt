-- What a session holds, and what a call that goes on, is cut or shows leaves of it.
use Rattle.std.proofs.Common.{ℕ, ◌≡◌, ◌<◌, ◌≤◌, ◌+◌, true, false, Bool, List, [], length, Option, Some, None, refl, sym, ap, subst, ◌∙◌, arith, rules}
use Rattle.tree_session.proofs.Common.{Result, IsSome, IfSome, MatchOption, All, slice_index_or, not, ◌||◌, if◌then◌else◌, true≢false, Regs, Exhibit, IsLine, IsShape, AreInRange, Setup, Device, AreLinesOf, BoardMemory, device_of, IsExhibit, AreSmallMinors, Plan, Follows, IsOutcome, Outcome, going, cut_short, shown, is_going, tree_lines, tree_slots, tree_size, line_of_slot, WatchState, last_seal_of, IsWatchOf, Taken, device_during, none_taken, steps_in, step_limit, IsWatched, TreeFault, TreeChip, tree_chip_of, TreeState, IsTreeAnchored, TreeEngineParts, tree_parts_of, AreTreeTrusted, HoldsTreeSeal, HoldsSlot, IsTreeUsable, IsWatchReady, TreeCallEffect, KeepsWatch, AnswersTreeDown, before_end, tree_outcome_of, rest_of, IsRestUsable, IsRooted, TreeAnswer, HasTreeCalled, chip_in, watch_in, TreeParts, plain_of_parts, state_of, IsTreeOn, IsTreeOff, IsTreeBy, IsTreeOpen, IsTreeEnded, IsTreeWorld, none_is}
use Rattle.call_plan.specs.Plans as plans
use Rattle.tree_session.proofs.PlainStates.{plain_is, root-is}

-- ---- options

pub some_is : {X : Type 0} (found : Option X) (x : X) → found ≡ Some x → IsSome found
some_is None x is = absurd (Rattle.std.proofs.lemmas.Option.none-some x is)
some_is (Some y) x is = refl

-- ---- what is always so

-- what no command of a session ends
pub record IsFrame (setup : Setup) (p : TreeParts) : Type 0 where
  pub shape : IsShape setup.shape
  pub formulas : AreInRange setup.formulas
  pub watch : IsWatchOf setup p.watch
  pub lines : AreLinesOf (tree_size setup.shape) p.board.lines
  pub tampered : length p.tampered ≡ tree_size setup.shape
  pub hurt : length p.hurt ≡ tree_lines setup.shape

pub opened : (setup : Setup) (p : TreeParts) → IsFrame setup p → p.watch.exhibit ≡ None → IsTreeOpen setup p → IsTreeWorld setup p
opened setup p frame none it = search rules

pub ended : (setup : Setup) (p : TreeParts) (exhibit : Exhibit) → IsFrame setup p → p.watch.exhibit ≡ Some exhibit → IsTreeEnded setup p exhibit → IsTreeWorld setup p
ended setup p exhibit frame its it = search rules

pub open_in : (setup : Setup) (p : TreeParts) → IsTreeWorld setup p → p.watch.exhibit ≡ None → IsTreeOpen setup p
open_in setup p world none = subst (λ e. MatchOption e (IsTreeOpen setup p) (IsTreeEnded setup p)) none world.before_or_after

pub on_in : (setup : Setup) (p : TreeParts) (engine : TreeState) → IsTreeOpen setup p → p.engine ≡ Some engine → IsTreeOn setup p engine
on_in setup p engine it there = subst (λ e. IsTreeBy setup p e) there it.chip

pub off_in : (setup : Setup) (p : TreeParts) → IsTreeOpen setup p → p.engine ≡ None → IsTreeOff setup p
off_in setup p it there = subst (λ e. IsTreeBy setup p e) there it.chip

-- power is on where there is an engine
pub powered_by : (setup : Setup) (p : TreeParts) (engine : TreeState) → IsTreeWorld setup p → p.watch.exhibit ≡ None → p.engine ≡ Some engine → p.board.powered ≡ true
powered_by setup p engine world none there = (on_in setup p engine (open_in setup p world none) there).powered

pub unpowered_by : (setup : Setup) (p : TreeParts) → IsTreeWorld setup p → p.watch.exhibit ≡ None → p.engine ≡ None → p.board.powered ≡ false
unpowered_by setup p world none there = (off_in setup p (open_in setup p world none) there).unpowered

-- ---- what calls ask

pub watch_ready : (setup : Setup) (regs : Regs) (watch : WatchState) → IsTreeAnchored setup regs watch → IsWatchReady setup.shape watch
watch_ready setup regs watch anchored =
    record {
      seal_count = anchored.of_setup.seal_count;
      node_count = anchored.of_setup.node_count;
      slot_count = anchored.of_setup.slot_count;
      each_sealed = λ a inside. let it = anchored.seals a inside in some_is (last_seal_of watch a) it.seal it.last;
    }

pub usable_on : (setup : Setup) (engine : TreeState) (device : Device) (watch : WatchState) → device.size ≡ tree_size setup.shape
    → AreTreeTrusted setup (tree_parts_of engine device watch) → IsTreeUsable setup.shape (tree_parts_of engine device watch)
usable_on setup engine device watch size trusted = search (rules, watch_ready)

pub usable_off : (setup : Setup) (device : Device) (watch : WatchState) → device.size ≡ tree_size setup.shape → IsTreeAnchored setup device.regs watch
    → IsRestUsable setup.shape (rest_of device watch)
usable_off setup device watch size anchored = search (rules, watch_ready)

-- ---- rooted

pub rooted_on : (setup : Setup) (p : TreeParts) → IsShape setup.shape → IsTreeAnchored setup p.board.regs p.watch → p.board.regs.group.items ≡ [] → IsRooted setup (plain_of_parts setup p)
rooted_on setup p shape anchored none = search (rules, root-is, plain_is)

pub rooted_off : (setup : Setup) (p : TreeParts) → IsShape setup.shape → IsTreeAnchored setup p.board.regs p.watch → p.board.powered ≡ false → IsRooted setup (plain_of_parts setup p)
rooted_off setup p shape anchored off =
    record {
      root = root-is setup p.watch p.board.regs shape anchored (plain_of_parts setup p) (plain_is setup p p.board.regs shape anchored);
      no_group = λ on. absurd (Rattle.std.proofs.lemmas.Bool.false≢true (sym off ∙ on));
    }

-- a state before an exhibit is rooted
pub rooted_open : (setup : Setup) (p : TreeParts) → IsTreeWorld setup p → p.watch.exhibit ≡ None → IsRooted setup (plain_of_parts setup p)
rooted_open setup p world none = go p.engine refl
  where
    go : (found : Option TreeState) → p.engine ≡ found → IsRooted setup (plain_of_parts setup p)
    go None is =
        let off = off_in setup p (open_in setup p world none) is in
        rooted_off setup p world.whole_shape off.anchored off.unpowered
    go (Some engine) is =
        let on = on_in setup p engine (open_in setup p world none) is in
        rooted_on setup p world.whole_shape on.trusted.anchored on.trusted.no_group

-- ---- after a call of the engine

-- a call over the watched board, as the session's parts have it: the parts before, and the engine, the board and the watch after it
pub record TreeEngineCall : Type 0 where
  pub setup : Setup
  pub parts : TreeParts
  pub engine : TreeState
  pub after : TreeState
  pub pads : ℕ
  pub tags : ℕ
  pub digests : ℕ
  pub board : BoardMemory
  pub watch : WatchState
  pub taken : Taken
  pub world : IsTreeWorld setup parts
  pub none : parts.watch.exhibit ≡ None
  pub there : parts.engine ≡ Some engine
  pub watched : IsWatched parts.board board taken

module _ (c : TreeEngineCall) where
  abbrev pub from : TreeEngineParts
  from = tree_parts_of c.engine (device_during c.parts.board none_taken) c.parts.watch

  abbrev pub ended_to : TreeEngineParts
  ended_to = tree_parts_of c.after (device_during c.board c.taken) c.watch

  -- before the end of the call took the engine down
  abbrev pub to : TreeEngineParts
  to = before_end ended_to

  -- it goes on
  pub still_up : {T : Type 0} (answer : Result T TreeFault) → is_going (tree_outcome_of answer) ≡ true → AnswersTreeDown from ended_to answer → c.after.down ≡ false
  still_up answer goes it =
      it.after ∙ (ap (λ b. b || not (is_going (tree_outcome_of answer))) (on_in c.setup c.parts c.engine (open_in c.setup c.parts c.world c.none) c.there).trusted.not_down ∙ ap not goes)

  abbrev pub left : Option TreeState → List Bool → TreeParts
  left found hurt =
      record c.parts { pads = c.pads; tags = c.tags; digests = c.digests; board = c.board; watch = c.watch; engine = found; hurt = hurt }

  abbrev pub left_resting : TreeParts
  left_resting =
      record c.parts {
        pads = c.pads;
        tags = c.tags;
        digests = c.digests;
        board = record c.board { powered = false };
        watch = c.watch;
        engine = None;
      }

  abbrev opened_in : IsTreeOpen c.setup c.parts
  opened_in = open_in c.setup c.parts c.world c.none

  pub on : IsTreeOn c.setup c.parts c.engine
  on = on_in c.setup c.parts c.engine (open_in c.setup c.parts c.world c.none) c.there

  pub trusted_from : AreTreeTrusted c.setup from
  trusted_from = (on_in c.setup c.parts c.engine (open_in c.setup c.parts c.world c.none) c.there).trusted

  pub powered_from : c.parts.board.powered ≡ true
  powered_from = (on_in c.setup c.parts c.engine (open_in c.setup c.parts c.world c.none) c.there).powered

  -- ---- the plan of the call

  abbrev pub chip_from : TreeChip
  chip_from = tree_chip_of c.engine c.parts.watch c.parts.pads c.parts.tags c.parts.digests

  abbrev pub chip_to : TreeChip
  chip_to = tree_chip_of c.after c.watch c.pads c.tags c.digests

  -- the board followed a plan to this end
  abbrev pub EndsBy : {A : Type 0} → (TreeChip → Plan (TreeChip × TreeFault) (TreeChip × A)) → Result A TreeFault → Type 0
  EndsBy plan end = Follows (plan chip_from) (device_during c.parts.board none_taken) (device_during c.board c.taken) (plans.ended end chip_to)

  -- what is left of the engine, by power
  abbrev pub IsEngineLeft : Option TreeState → Type 0
  IsEngineLeft found = (found ≡ (if c.board.powered then Some c.after else None)) × (c.board.powered ≡ false → steps_in c.taken < step_limit)

  pub lit_left : c.board.powered ≡ true → IsEngineLeft (Some c.after)
  lit_left lit = (ap (λ (b : Bool). if b then Some c.after else None) (sym lit), λ dark. absurd (true≢false (sym lit ∙ dark)))

  pub dark_left : c.board.powered ≡ false → steps_in c.taken < step_limit → IsEngineLeft None
  dark_left dark few = (ap (λ (b : Bool). if b then Some c.after else None) (sym dark), λ _. few)

  -- the watch is of the session's setup, before and after
  watch_from : c.parts.watch ≡ watch_in c.setup (state_of c.setup c.parts)
  watch_from = λ i. record c.parts.watch { setup = c.world.its_watch.its_setup i }

  -- with the watches as the session's states have them
  outcome_of : {A : Type 0} → c.watch.setup ≡ c.setup → (plan : TreeChip → Plan (TreeChip × TreeFault) (TreeChip × A)) (end : Result A TreeFault) → EndsBy plan end
      → (c.board.powered ≡ false → steps_in c.taken < step_limit)
      → IsOutcome (plan (chip_in c.setup (state_of c.setup c.parts) c.engine)) c.parts.board c.board c.taken end
      (tree_chip_of c.after (record c.watch { setup = c.setup }) c.pads c.tags c.digests)
  outcome_of its_setup plan end follows within =
      let watch_to : c.watch ≡ record c.watch { setup = c.setup } = λ i. record c.watch { setup = its_setup i } in
      record {
        run = record { follows = c.watched.follows; within = within };
        follows =
            subst (λ w. Follows (plan (tree_chip_of c.engine w c.parts.pads c.parts.tags c.parts.digests)) (device_during c.parts.board none_taken)
            (device_during c.board c.taken) (plans.ended end (tree_chip_of c.after (record c.watch { setup = c.setup }) c.pads c.tags c.digests))) watch_from
            (subst (λ w. Follows (plan chip_from) (device_during c.parts.board none_taken) (device_during c.board c.taken)
            (plans.ended end (tree_chip_of c.after w c.pads c.tags c.digests))) watch_to follows);
      }

  pub called : {A : Type 0} → c.watch.setup ≡ c.setup → (plan : TreeChip → Plan (TreeChip × TreeFault) (TreeChip × A)) (says : Taken → Result A TreeFault → Option TreeAnswer)
      (answer : TreeAnswer) (end : Result A TreeFault) (found : Option TreeState) (hurt : List Bool) → Some answer ≡ says c.taken end → EndsBy plan end
      → IsEngineLeft found → HasTreeCalled c.setup plan says (state_of c.setup c.parts) (state_of c.setup (left found hurt)) (Some answer)
  called its_setup plan says answer end found hurt is follows kept =
      record {
        engine = c.engine;
        was_on = c.there;
        board = c.board;
        after = c.after;
        taken = c.taken;
        end = end;
        outcome = outcome_of its_setup plan end follows kept.1;
        is_said = is;
        rests = refl;
        kept = kept.0;
      }

  -- the watch stopped it, with power on
  pub called_shown : {A : Type 0} → c.watch.setup ≡ c.setup → (plan : TreeChip → Plan (TreeChip × TreeFault) (TreeChip × A)) (says : Taken → Result A TreeFault → Option TreeAnswer)
      (end : Result A TreeFault) → None ≡ says c.taken end → EndsBy plan end → c.board.powered ≡ true
      → HasTreeCalled c.setup plan says (state_of c.setup c.parts) (state_of c.setup left_resting) None
  called_shown its_setup plan says end is follows lit =
      record {
        engine = c.engine;
        was_on = c.there;
        board = c.board;
        after = c.after;
        taken = c.taken;
        end = end;
        outcome = outcome_of its_setup plan end follows (λ dark. absurd (true≢false (sym lit ∙ dark)));
        is_said = is;
        rests = refl;
        kept = refl;
      }

  module _ (outcome : Outcome) (effect : TreeCallEffect c.setup outcome from to) where
    lines_whole : AreLinesOf (tree_size c.setup.shape) c.board.lines
    lines_whole = record { count = effect.size ∙ c.world.whole_lines.count; each = c.watched.each_line }

    -- seals that aren't hurt and were stored are stored
    pub seals_kept : (a : ℕ) → a < tree_lines c.setup.shape → slice_index_or c.parts.hurt a false ≡ false → HoldsTreeSeal c.setup.shape to a
    seals_kept a inside unhurt = (effect.places trusted_from).seals a inside (opened_in.places.seals a inside unhurt)

    slots_kept : (i : ℕ) → i < tree_slots c.setup.shape → slice_index_or c.parts.tampered (line_of_slot c.setup.shape i) false ≡ false → HoldsSlot c.setup.shape to i
    slots_kept i inside unchanged = (effect.places trusted_from).slots i inside (opened_in.places.slots i inside unchanged)

  -- a call that goes on
  module _ (effect : TreeCallEffect c.setup going from to) (hurt : List Bool) (count : length hurt ≡ tree_lines c.setup.shape)
      (seals : (a : ℕ) → a < tree_lines c.setup.shape → slice_index_or hurt a false ≡ false → HoldsTreeSeal c.setup.shape to a) where
    trusted_to : AreTreeTrusted c.setup to
    trusted_to = effect.trusted trusted_from

    pub on_after : c.after.down ≡ false → IsTreeWorld c.setup (left (Some c.after) hurt)
    on_after up =
        opened c.setup (left (Some c.after) hurt)
        (record {
          shape = c.world.whole_shape;
          formulas = c.world.whole_formulas;
          watch = trusted_to.anchored.of_setup;
          lines = lines_whole going effect;
          tampered = c.world.tampered_count;
          hurt = count;
        })
        (none_is c.watch.exhibit trusted_to.anchored.no_exhibit)
        (record {
          chip =
              subst (IsTreeOn c.setup (left (Some c.after) hurt)) (λ i. record c.after { down = (sym up) i })
              (record {
                powered = effect.power.1 powered_from;
                its_shape = trusted_to.its_shape;
                usable = usable_on c.setup (record c.after { down = false }) (device_of c.board) c.watch (effect.size ∙ c.world.whole_lines.count) trusted_to;
                trusted = trusted_to;
                nodes = λ x unchanged. (effect.places trusted_from).nodes x unchanged.0 (on.nodes x unchanged);
              });
          places = record { seals = seals; slots = slots_kept going effect };
        })

    pub rooted_after : IsRooted c.setup (plain_of_parts c.setup (left (Some c.after) hurt))
    rooted_after = rooted_on c.setup (left (Some c.after) hurt) c.world.whole_shape trusted_to.anchored trusted_to.no_group

  -- a call that is cut
  module _ (effect : TreeCallEffect c.setup cut_short from to) (small : length c.board.regs.group.items ≤ c.setup.shape.levels + 3) (hurt : List Bool)
      (count : length hurt ≡ tree_lines c.setup.shape)
      (seals : (a : ℕ) → a < tree_lines c.setup.shape → slice_index_or hurt a false ≡ false → HoldsTreeSeal c.setup.shape to a) where
    anchored_to : IsTreeAnchored c.setup c.board.regs c.watch
    anchored_to = effect.trusted trusted_from

    pub off_after : IsTreeWorld c.setup (left None hurt)
    off_after =
        opened c.setup (left None hurt)
        (record {
          shape = c.world.whole_shape;
          formulas = c.world.whole_formulas;
          watch = anchored_to.of_setup;
          lines = lines_whole cut_short effect;
          tampered = c.world.tampered_count;
          hurt = count;
        })
        (none_is c.watch.exhibit anchored_to.no_exhibit)
        (record {
          chip =
              record {
                unpowered = effect.power.1;
                usable = usable_off c.setup (device_of c.board) c.watch (effect.size ∙ c.world.whole_lines.count) anchored_to;
                small_group = small;
                anchored = anchored_to;
                nodes = λ x unchanged. (effect.places trusted_from).nodes x unchanged.0 (on.nodes x unchanged);
              };
          places = record { seals = seals; slots = slots_kept cut_short effect };
        })

    pub rooted_cut : IsRooted c.setup (plain_of_parts c.setup (left None hurt))
    rooted_cut = rooted_off c.setup (left None hurt) c.world.whole_shape anchored_to effect.power.1

  -- a call that goes on, with the flags of hurt lines as they were
  pub held_still : TreeCallEffect c.setup going from to → c.after.down ≡ false → IsTreeWorld c.setup (left (Some c.after) c.parts.hurt)
  held_still effect up = on_after effect c.parts.hurt c.world.hurt_count (seals_kept going effect) up

  pub rooted_still : TreeCallEffect c.setup going from to → IsRooted c.setup (plain_of_parts c.setup (left (Some c.after) c.parts.hurt))
  rooted_still effect = rooted_after effect c.parts.hurt c.world.hurt_count (seals_kept going effect)

  -- and one that is cut, with the registers as they were too
  module _ (effect : TreeCallEffect c.setup cut_short from to) (same : c.board.regs ≡ c.parts.board.regs) where
    small : length c.board.regs.group.items ≤ c.setup.shape.levels + 3
    small = omega (arith, ap (λ (regs : Regs). length regs.group.items) same, ap length trusted_from.no_group)

    pub cut_still : IsTreeWorld c.setup (left None c.parts.hurt)
    cut_still = off_after effect small c.parts.hurt c.world.hurt_count (seals_kept cut_short effect)

    pub cut_rooted_still : IsRooted c.setup (plain_of_parts c.setup (left None c.parts.hurt))
    cut_rooted_still = rooted_cut effect small c.parts.hurt c.world.hurt_count (seals_kept cut_short effect)

  -- a call that ends with an exhibit, after which the board rests
  pub ended_after : TreeCallEffect c.setup shown from to → KeepsWatch shown c.parts.watch c.watch → (exhibit : Exhibit) → c.watch.exhibit ≡ Some exhibit → AreSmallMinors exhibit
      → IsTreeWorld c.setup left_resting
  ended_after effect keeps exhibit its minors =
      ended c.setup left_resting exhibit
      (record {
        shape = c.world.whole_shape;
        formulas = c.world.whole_formulas;
        watch =
            record {
              its_setup = keeps.setup ∙ c.world.its_watch.its_setup;
              seal_count = ap length keeps.seals ∙ c.world.its_watch.seal_count;
              node_count = ap length keeps.nodes ∙ c.world.its_watch.node_count;
              slot_count = ap length keeps.slots ∙ c.world.its_watch.slot_count;
              whole_slots = subst (All IsLine) (sym keeps.slots) c.world.its_watch.whole_slots;
            };
        lines = lines_whole shown effect;
        tampered = c.world.tampered_count;
        hurt = c.world.hurt_count;
      })
      its
      (record {
        holds = subst (λ e. IfSome e (IsExhibit c.setup.formulas)) its (effect.trusted trusted_from);
        minors = minors;
        no_engine = refl;
        unpowered = refl;
      })
