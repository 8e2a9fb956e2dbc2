-- The lines of a page sealed anew one after the other: the first of them, one more, or all.
use Rattle.std.proofs.Common.{rules, ℕ, ◌≡◌, ◌<◌, ◌≤◌, ◌+◌, ◌*◌, ◌++◌, inl, inr, false, cond, List, [], ◌∷◌, length, map, get_or, Some, IsTrue, Result, Ok, refl, sym, ap, subst, ◌∙◌, arith}
use Rattle.std.specs.Prelude.{slice_get}
use Rattle.std.proofs.lemmas.Bool.{cases_Bool, true≢false}
use Rattle.std.proofs.lemmas.List.{append_assoc, append-nil, map-append, length-append, length-map}
use Rattle.std.proofs.lemmas.List.Elements.{All-nil, All-append}
use Rattle.std.proofs.lemmas.List.Sums.{sum_by-append}
use Rattle.pmem_base.specs.declared.answers.Mark.{Mark}
use Rattle.pmem_base.specs.Layout as layout
use Rattle.pmem_base.specs.Lines.{line_at}
use Rattle.pmem_base.specs.Registers.{not_done, empty_progress, IsValidRegs}
use Rattle.board.specs.Device.{Device}
use Rattle.page_reencrypt.specs.Registers.{register_of, register_held, registers_with_done}
use Rattle.suite.specs.Setup.{Setup}
use Rattle.plain_model.specs.State.{Memory}
use Rattle.plain_model.specs.Bounds.{is_seal}
use Rattle.plain_model.specs.Asked.{reseal_mark, seal_mark}
use Rattle.pmem_engine.specs.declared.fault.LineFault.{LineFault}
use Rattle.pmem_engine.specs.Sealed.{sealed_counter}
use Rattle.pmem_engine.specs.Parts.{Parts, regs_of, AreTrusted, HoldsSeal}
use Rattle.call_effects.specs.Outcomes.{going}
use Rattle.pmem_engine.specs.Outcomes.{is_sealed_by, OneLossEffect, TakesSteps}
use Rattle.pmem_engine.specs.CallFacts.{IsUsableWith, IsMemory, moment_in, IsWork, reseal_work, IsUnderMinorZero}
use Rattle.pmem_engine.specs.Resealing.{register_in, line_of_page, HasResealed}
use Rattle.pmem_engine.specs.Writing.{reseals_of, HasFinishedPage}
use Rattle.pmem_engine.specs.Finishing.{IsStillOpen, IsClosed, HasPlacesLeft, HasResealedFirst}
use Rattle.call_effects.proofs.PowerLaws.{going_unshown}
use Rattle.pmem_engine.proofs.CallEnds.CallChains.{done_chained, sealed_by_either}
use Rattle.pmem_engine.proofs.CallEnds.StillParts.{nothing_done, left_alone}
use Rattle.pmem_engine.proofs.CallEnds.ExactWork.{work_then, work_alone, reseal_more}
use Rattle.pmem_engine.proofs.Laws.AskedCounters.{asked-held}
use Rattle.pmem_engine.proofs.CallEnds.UsableParts.{usable_after}
use Rattle.pmem_engine.proofs.PostedWrites.WriteParts.{held_back}
use Rattle.pmem_engine.proofs.PostedWrites.WriteSteps.{steps_most, more_most}
use Rattle.pmem_engine.proofs.PageLines.LeftPlaces.{first_and_rest, line_held, others_kept, one_less, page_closed, as_many, page_stays, places_left, place_small}

-- what the lines sealed by either part held before
sealed_before_both : (setup : Setup) (made more : List Mark) (old mid : Parts) → OneLossEffect setup going made old mid
    → AreTrusted setup old → (a : ℕ) → a < layout.data_lines setup.shape
    → (IsTrue (is_sealed_by made a) → HoldsSeal setup.shape old a)
    → (IsTrue (is_sealed_by more a) → HoldsSeal setup.shape mid a)
    → IsTrue (is_sealed_by (made ++ more) a) → HoldsSeal setup.shape old a
sealed_before_both setup made more old mid done trusted a within first second by =
    elim (cases_Bool (is_sealed_by made a)) [
      | inl sealed ↦ first sealed
      | inr never ↦
          held_back setup going made old mid done trusted a within never
          (elim (sealed_by_either made more a by) [
            | inl sealed ↦ absurd (true≢false (sym sealed ∙ never))
            | inr sealed ↦ second sealed
          ])
    ]

-- ---- none sealed yet

left_at_first : (old : Parts) (n : ℕ) (left : List ℕ) → not_done (register_in old n) ≡ left → 0 < length left
    → HasPlacesLeft old old n left
left_at_first old n v2 is some = search rules

pub first_none : (setup : Setup) (n : ℕ) (old : Parts) → IsValidRegs setup.shape (regs_of old)
    → n < length (regs_of old).progress.items → HasResealedFirst setup n 0 old old
first_none setup n old valid inside =
    record {
      made = [];
      sealed = [];
      left = not_done (register_in old n);
      places = refl;
      count = refl;
      as_many = refl;
      seals = refl;
      work =
          work_alone (reseal_work 0) old old (omega arith) (omega arith) (omega arith) (omega arith) refl
          (left_alone old);
      meta_lines = λ x within. refl;
      minors = All-nil IsUnderMinorZero;
      done = nothing_done setup old;
      marks = λ trusted memory was. refl;
      memory_kept = λ trusted memory was. was;
      sealed_before = λ trusted a within by. absurd (true≢false (sym by));
      registers =
          left_at_first old n (not_done (register_in old n)) refl (valid.each_page n empty_progress inside).some_left;
      others = λ page none. none;
      steps = record { writes = omega arith; latches = omega arith; sum = λ one two. omega arith };
      engine = refl;
      truth = refl;
      root = refl;
      digests = refl;
    }

-- ---- one more

-- a line's next seal is asked under the same counter as long as its register holds it
reseal_same : (setup : Setup) (memory : Memory) (n i : ℕ) (old new : Parts) → AreTrusted setup old → AreTrusted setup new
    → new.ledger.truth ≡ old.ledger.truth → (register_in new n).page ≡ (register_in old n).page
    → line_of_page (register_in old n) i < layout.data_lines setup.shape
    → register_held (regs_of old).progress.items (line_of_page (register_in old n) i) ≡ Some (register_in old n)
    → register_held (regs_of new).progress.items (line_of_page (register_in new n) i) ≡ Some (register_in new n)
    → reseal_mark setup.formulas (moment_in setup memory new) (register_in new n).page i
    ≡ reseal_mark setup.formulas (moment_in setup memory old) (register_in old n).page i
reseal_same setup memory n i old new was now truth page within held_was held_now =
    ap (λ p. reseal_mark setup.formulas (moment_in setup memory new) p i) page
    ∙ ap (λ ctr. seal_mark setup.formulas at ctr (line_at memory at))
    (asked-held setup (regs_of new) new.ledger now.anchored at 0 (register_in new n) within
    (ap (λ p. register_held (regs_of new).progress.items (64 * p + i)) (sym page) ∙ held_now)
    ∙ ap (λ t. sealed_counter setup.shape t at 0) truth
    ∙ sym (asked-held setup (regs_of old) old.ledger was.anchored at 0 (register_in old n) within held_was))
  where
    at : ℕ
    at = line_of_page (register_in old n) i

pub steps_more : (n m : ℕ) (old mid new : Device) → TakesSteps n old mid → TakesSteps m mid new → TakesSteps (n + m) old new
steps_more n m old mid new first second = search rules

-- the mark asked of the line at a place of the register's page
abbrev pub asked_of : Setup → ℕ → Parts → Memory → ℕ → Mark
asked_of setup n old memory i = reseal_mark setup.formulas (moment_in setup memory old) (register_in old n).page i

-- what is known before the next reseal
module _ (setup : Setup) (n number : ℕ) (old mid : Parts) (valid : IsValidRegs setup.shape (regs_of old))
    (inside : n < length (regs_of old).progress.items) (first : HasResealedFirst setup n number old mid)
    (some : number < length (not_done (register_in old n))) where
  total : length first.left + number ≡ length (not_done (register_in old n))
  total = search (rules, length-append)

  open_by : (left : List ℕ) → 0 < length left → HasPlacesLeft old mid n left → IsStillOpen old mid n left
  open_by v0 more it = search rules

  pub still_open : IsStillOpen old mid n first.left
  still_open = open_by first.left (let all = total in omega (arith, all, some)) first.registers

  pub inside_now : n < length (regs_of mid).progress.items
  inside_now = let same = still_open.as_many in omega (arith, same, inside)

  valid_now : IsValidRegs setup.shape (regs_of mid)
  valid_now = first.done.gone.valid valid

  -- the next one was done or not
  module _ (new : Parts) (answer : Result (ℕ × ℕ) LineFault) (it : HasResealed setup n mid new answer) where
    abbrev next_left : (rest : List ℕ) × (first.left ≡ it.place ∷ rest)
    next_left = first_and_rest first.left it.place (ap (λ places. slice_get places 0) (sym still_open.places) ∙ it.lowest)

    abbrev pub rest : List ℕ
    rest = next_left.0

    left_is : first.left ≡ it.place ∷ rest
    left_is = next_left.1

    places_now : not_done (register_in mid n) ≡ it.place ∷ rest
    places_now = still_open.places ∙ left_is

    places_before : not_done (register_in old n) ≡ first.sealed ++ it.place ∷ rest
    places_before = first.places ∙ ap (λ xs. first.sealed ++ xs) left_is

    small : it.place < 64
    small =
        place_small (regs_of old).progress.items n it.place first.sealed rest valid.distinct_pages inside places_before

    pub at_is : line_of_page (register_in mid n) it.place ≡ line_of_page (register_in old n) it.place
    at_is = ap (λ p. 64 * p + it.place) still_open.same_page

    within : line_of_page (register_in old n) it.place < layout.data_lines setup.shape
    within = search (rules, small)

    pub same_mark : AreTrusted setup old → (memory : Memory)
        → reseal_mark setup.formulas (moment_in setup memory mid) (register_in mid n).page it.place ≡ asked_of setup n old memory it.place
    same_mark trusted memory =
        reseal_same setup memory n it.place old mid trusted (first.done.gone.trusted trusted) first.truth still_open.same_page
        within
        (line_held (regs_of old).progress.items n it.place first.sealed rest valid.distinct_pages inside places_before)
        (line_held (regs_of mid).progress.items n it.place [] rest valid_now.distinct_pages inside_now places_now)

    pub all_asked : AreTrusted setup old → (memory : Memory) → IsMemory setup memory old
        → reseals_of setup.formulas (moment_in setup memory old) (register_in old n)
        ≡ first.made ++ asked_of setup n old memory it.place ∷ map (asked_of setup n old memory) rest
    all_asked trusted memory was = search (rules, map-append, places_before)

    pub sealed_of_both : AreTrusted setup old → (a : ℕ) → a < layout.data_lines setup.shape
        → IsTrue (is_sealed_by (first.made ++ it.made) a) → HoldsSeal setup.shape old a
    sealed_of_both trusted a below by = search (rules, sealed_before_both)

    pub few_of_both : length (first.made ++ it.made) ≤ number + 1
    few_of_both = search (rules, length-append, as_many)

-- the parts are usable still
pub still_usable : (setup : Setup) (n number : ℕ) (old mid : Parts) → HasResealedFirst setup n number old mid
    → IsUsableWith setup.shape false old.device old.ledger → IsUsableWith setup.shape false mid.device mid.ledger
still_usable setup n number old mid first usable = usable_after setup going first.made old mid false first.done.gone refl usable

-- the next line was sealed anew
module _ (setup : Setup) (n number : ℕ) (old mid new : Parts) (valid : IsValidRegs setup.shape (regs_of old))
    (inside : n < length (regs_of old).progress.items) (first : HasResealedFirst setup n number old mid)
    (some : number < length (not_done (register_in old n))) (sealed : ℕ × ℕ) (it : HasResealed setup n mid new (Ok sealed)) where
  abbrev after : List ℕ
  after = rest setup n number old mid valid inside first some new (Ok sealed) it

  mid_valid : IsValidRegs setup.shape (regs_of mid)
  mid_valid = first.done.gone.valid valid

  mid_inside : n < length (regs_of mid).progress.items
  mid_inside = inside_now setup n number old mid valid inside first some

  mid_places : not_done (register_in mid n) ≡ it.place ∷ after
  mid_places = places_now setup n number old mid valid inside first some new (Ok sealed) it

  mid_page : (register_in mid n).page ≡ (register_in old n).page
  mid_page = (still_open setup n number old mid valid inside first some).same_page

  mid_count : length (regs_of mid).progress.items ≡ length (regs_of old).progress.items
  mid_count = (still_open setup n number old mid valid inside first some).as_many

  line_done : (regs_of new).progress.items
      ≡ registers_with_done (regs_of mid).progress.items (line_of_page (register_in mid n) it.place)
  line_done = it.line_sealed.line_done.progress

  has_left : (left : List ℕ) → after ≡ left → HasPlacesLeft old new n left
  has_left [] none =
      record {
        gone =
            ap (register_of (regs_of new).progress.items) (sym mid_page)
            ∙ ap (λ items. register_of items (register_in mid n).page) line_done
            ∙ page_closed setup.shape (regs_of mid).progress.items n it.place after mid_valid.each_page mid_valid.distinct_pages
            mid_inside mid_places none;
        one_less =
            ap (λ items. length items + 1) line_done
            ∙ one_less setup.shape (regs_of mid).progress.items n it.place after mid_valid.each_page mid_valid.distinct_pages
            mid_inside mid_places none
            ∙ mid_count;
      }
  has_left (j ∷ left) more =
      let some_left : 0 < length after = subst (λ l. 0 < length l) (sym more) (omega arith) in
      record {
        same_page =
            ap (λ items. (get_or items n empty_progress).page) line_done
            ∙ page_stays setup.shape (regs_of mid).progress.items n it.place after mid_valid.each_page mid_valid.distinct_pages
            mid_inside mid_places some_left
            ∙ mid_page;
        places =
            ap (λ items. not_done (get_or items n empty_progress)) line_done
            ∙ places_left setup.shape (regs_of mid).progress.items n it.place after mid_valid.each_page mid_valid.distinct_pages
            mid_inside mid_places some_left
            ∙ more;
        as_many =
            ap length line_done
            ∙ as_many setup.shape (regs_of mid).progress.items n it.place after mid_valid.each_page mid_valid.distinct_pages
            mid_inside mid_places some_left
            ∙ mid_count;
      }

  pub first_more : HasResealedFirst setup n (number + 1) old new
  first_more =
      record {
        made = first.made ++ it.made;
        sealed = first.sealed ++ it.place ∷ [];
        left = after;
        places =
            places_before setup n number old mid valid inside first some new (Ok sealed) it
            ∙ sym (append_assoc first.sealed (it.place ∷ []) after);
        count = length-append first.sealed (it.place ∷ []) ∙ ap (λ k. k + 1) first.count;
        as_many =
            let both = length-append first.made it.made in
            let so_far = first.as_many in
            let one = (it.one_seal refl).0 in
            omega (arith, both, so_far, one);
        seals =
            let both = sum_by-append (λ m. cond (is_seal m) 1 0) first.made it.made in
            let so_far = first.seals in
            let one = (it.one_seal refl).1 in
            omega (arith, both, so_far, one);
        work =
            subst (λ work. IsWork work old new) (reseal_more number)
            (work_then (reseal_work number) (reseal_work 1) old mid new first.work (it.work refl));
        meta_lines = λ x within. it.meta_lines refl x within ∙ first.meta_lines x within;
        minors = All-append IsUnderMinorZero first.made it.made first.minors it.minors;
        done = done_chained setup going first.made it.made old mid new first.done it.done;
        marks =
            λ trusted memory was.
            ap (λ ms. ms ++ it.made) (first.marks trusted memory was)
            ∙ ap (λ ms. map (asked_of setup n old memory) first.sealed ++ ms)
            (it.marks (first.done.gone.trusted trusted) memory (first.memory_kept trusted memory was)
            ∙ ap (λ m. m ∷ []) (same_mark setup n number old mid valid inside first some new (Ok sealed) it trusted memory))
            ∙ sym (map-append (asked_of setup n old memory) first.sealed (it.place ∷ []));
        memory_kept =
            λ trusted memory was.
            it.memory_kept (first.done.gone.trusted trusted) memory (first.memory_kept trusted memory was);
        sealed_before = sealed_of_both setup n number old mid valid inside first some new (Ok sealed) it;
        registers = has_left after refl;
        others =
            λ page none.
            ap (λ items. register_of items page) line_done
            ∙ others_kept (regs_of mid).progress.items (line_of_page (register_in mid n) it.place) page (first.others page none);
        steps =
            subst (λ k. TakesSteps k old.device new.device) (omega arith)
            (steps_more (4 * number) 4 old.device mid.device new.device first.steps it.counts.0);
        engine = it.engine ∙ first.engine;
        truth = it.truth going_unshown ∙ first.truth;
        root = it.root ∙ first.root;
        digests = it.digests ∙ first.digests;
      }

-- ---- all

pub finished : (setup : Setup) (n number : ℕ) (old new : Parts) → HasResealedFirst setup n number old new
    → length (not_done (register_in old n)) ≤ number → HasFinishedPage setup n old new (Ok tt)
finished setup n number old new first whole =
    record {
      made = first.made;
      few = let made = first.as_many in let all = total in let count = first.count in omega (arith, made, all, count);
      minors = first.minors;
      seals = λ ok. first.seals ∙ sym first.as_many;
      work = λ ok. subst (λ k. IsWork (reseal_work k) old new) (sym first.as_many) first.work;
      meta_lines = λ ok. first.meta_lines;
      few_steps =
          more_most (4 * number) (4 * length (not_done (register_in old n))) old.device new.device
          (let all = total in let count = first.count in omega (arith, all, count))
          (steps_most (4 * number) old.device new.device first.steps);
      done = first.done;
      marks =
          λ trusted memory was.
          first.marks trusted memory was
          ∙ ap (map (asked_of setup n old memory))
          (sym (first.places ∙ ap (λ xs. first.sealed ++ xs) none_left ∙ append-nil first.sealed));
      memory_kept = first.memory_kept;
      answered = λ trusted memory was. tt;
      unrefused = λ sound. tt;
      sealed_before = first.sealed_before;
      closed = λ ok. closed.gone;
      one_less = λ ok. closed.one_less;
      others = λ ok page none. first.others page none;
      counts =
          λ trusted memory was.
          subst (λ k. TakesSteps k old.device new.device)
          (let made = ap length (first.marks trusted memory was) ∙ length-map first.sealed (asked_of setup n old memory) in
          let count = first.count in
          omega (arith, made, count))
          first.steps;
      engine = first.engine;
      truth = λ unshown. first.truth;
      root = first.root;
      digests = first.digests;
    }
  where
    total : length (not_done (register_in old n)) ≡ length first.sealed + length first.left
    total = ap length first.places ∙ length-append first.sealed first.left

    no_places : (xs : List ℕ) → length xs ≡ 0 → xs ≡ []
    no_places [] none = refl
    no_places (x ∷ xs) none = absurd (omega (arith, none))

    none_left : first.left ≡ []
    none_left = no_places first.left (let all = total in let count = first.count in omega (arith, all, count, whole))

    closed : IsClosed old new n
    closed = subst (HasPlacesLeft old new n) none_left first.registers
