-- What fetching a page's path comes to, wherever its plan ends: level by level, by the cache as it was.
use Rattle.std.proofs.Common.{ℕ, suc, ◌≡◌, ◌<◌, ◌≤◌, ◌+◌, true, false, List, [], set, Option, Some, None, refl, sym, ap, subst, subst₂, ◌∙◌, arith, mod-lt}
use Rattle.std.specs.Prelude.{IsSomeAnd}
use Rattle.std.proofs.lemmas.Bool.{false≢true, cond-true}
use Rattle.pmem_base.specs.declared.lines.Line.{Line}
use Rattle.pmem_base.specs.declared.registers.Regs.{Regs}
use Rattle.pmem_base.specs.declared.answers.Exhibit.TheVariants.{Clash}
use Rattle.pmem_base.specs.Counts.{risen, risen_times}
use Rattle.pmem_base.specs.Shape.{Shape}
use Rattle.pmem_base.specs.Layout.{pages, meta_line}
use Rattle.pmem_base.specs.Lines.{IsLine, line_at, same_bytes, line_of}
use Rattle.pmem_base.proofs.ByteLaws.{same_bytes-from, same_bytes-true}
use Rattle.board.specs.Device.{Device}
use Rattle.board.specs.Steps.{Tells, HasRead, WasCut}
use Rattle.board.proofs.CountLemmas.{RisesBy-once}
use Rattle.call_plan.specs.Plans.{Plan, done, stop, bind, repeated}
use Rattle.call_plan.specs.Bounds.{Leaves}
use Rattle.call_plan.proofs.Keeping.{on_and_off}
use Rattle.call_plan.proofs.Leaves.{leaves_bind, leaves_mapped, leaves_if, leaves_repeated}
use Rattle.commit_regs.proofs.GroupLemmas.{redone-nil}
use Rattle.suite.specs.Formulas.{Formulas}
use Rattle.seal_ledger.specs.Ledger.{LedgerState}
use Rattle.seal_ledger.specs.Notes.{shown}
use Rattle.seal_ledger.proofs.NoteLemmas.{same_line}
use Rattle.meta_cache.specs.declared.slot.Slot.{Slot}
use Rattle.meta_cache.specs.Banks.{Banks, set_of, set_index, is_cached}
use Rattle.meta_cache.specs.Sets.{touched, placed, with_mark, victim_of, IsSetOf, KeepsWays}
use Rattle.meta_cache.specs.State.{CacheState, slots_of, with_slots, IsCacheOf, ChangesSet}
use Rattle.meta_cache.proofs.CacheLemmas.{bank_of-get_or, IsInside, ChangesSet-with_set, IsCacheOf-with_set}
use Rattle.meta_cache.proofs.FormLemmas.{IsSetOf-with_mark, IsSetOf-touched, IsSetOf-placed}
use Rattle.meta_cache.proofs.WayLemmas.{KeepsWays-with_mark, KeepsWays-touched, KeepsWays-placed}
use Rattle.meta_path.specs.declared.faults.PathFault.{PathFault}
use Rattle.meta_path.specs.declared.faults.PathFault.TheVariants as Path
use Rattle.meta_path.specs.Blocks.{path_at, AreInTheirBanks}
use Rattle.meta_path.specs.Work.{HasWorked, FetchState}
use Rattle.meta_path.specs.Levels.{expected_digest, dirty_position, room_write, HasDirtyVictim, HasRoomMade, IsLevelFetched, IsLevelRead}
use Rattle.meta_path.specs.Fetching.{IsFetchedTo, IsReadAt, IsPathFault}
use Rattle.meta_path.specs.Plans.{cleaned, write_back_plan, room_of}
use Rattle.meta_path.specs.FetchPlans.{FetchParts, fetch_parts, known_plan, check_plan, touched_in, placed_in, place_plan, level_plan, fetch_turn, fetch_plan}
use Rattle.meta_path.proofs.FetchLemmas.{IsFetchOf, IsFetchedTo-more, read_at, cut_at}
use Rattle.meta_path.proofs.LevelLemmas.{IsDirtyOf, dirty_victim_is, room_made, room_free, room_absent, IsLevelFetched-placed}
use Rattle.meta_path.proofs.WorkLemmas.{HasWorked-none}

-- ---- a cache with other slots in one set

changes : (cache : CacheState) (bank n : ℕ) (slots : List Slot) → IsInside cache.shape cache.banks bank n
    → KeepsWays (set_of cache.banks bank n) slots → ChangesSet cache (with_slots cache bank n slots) bank n slots
changes cache bank n slots inside ways =
    subst (λ (sets : List (List Slot)). ChangesSet cache (record { shape = cache.shape; banks = set cache.banks bank (set sets n slots) }) bank n slots)
    (sym (bank_of-get_or cache.banks bank)) (ChangesSet-with_set cache.shape cache.banks bank n slots inside ways)

form_with : (cache : CacheState) (bank n : ℕ) (slots : List Slot) → IsInside cache.shape cache.banks bank n → IsSetOf cache.shape n slots
    → IsCacheOf cache.shape (with_slots cache bank n slots).banks
form_with cache bank n slots inside form =
    subst (λ (sets : List (List Slot)). IsCacheOf cache.shape (set cache.banks bank (set sets n slots))) (sym (bank_of-get_or cache.banks bank))
    (IsCacheOf-with_set cache.shape cache.banks bank n slots inside form)

worked_read : (old : Device) (at : ℕ) (line : Line) (new : Device) → HasRead old at line new → HasWorked 1 [] old new
worked_read old at line new was =
    record {
      lines = was.lines ∙ sym (redone-nil old.lines);
      writes =
          record {
            never_falls = let same = was.writes in omega arith;
            exact = λ below. let same = was.writes in omega arith;
          };
      no_write = λ none. was.writes;
      reads = RisesBy-once was.reads;
      no_read = λ none. absurd (omega (arith, none));
      size = was.size;
      regs = was.regs;
      latches = was.latches;
      cuts = was.cuts;
      steady = λ s. was.steady ∙ s;
      live = λ l. was.live ∙ l;
    }

-- ---- the path

abbrev pub state : CacheState → Device → ℕ → FetchState
state cache device digests = record { cache = cache; device = device; digests = digests }

abbrev pub of_shape : Shape → Banks → CacheState
of_shape g banks = record { shape = g; banks = banks }

-- of a page's path, the first so many levels are fetched
pub record HasCome (g : Shape) (f : Formulas) (page : ℕ) (first : FetchState) (ledger : LedgerState) (i : ℕ) (at : FetchParts) (now : Device) :
    Type 0 where
  pub fetched : IsFetchedTo g f ledger.truth page i first (state at.cache now at.digests)
  pub same : at.ledger ≡ ledger
  pub its_form : IsCacheOf g at.cache.banks

-- it wasn't fetched
abbrev pub Stopped : Shape → Formulas → ℕ → FetchState → LedgerState → FetchParts × PathFault → Device → Type 0
Stopped g f page first ledger left now =
    IsPathFault g f page first (state left.0.cache now left.0.digests) ledger left.0.ledger left.1

-- what a fetch begins with, whatever its board has
pub record IsBegun (g : Shape) (page : ℕ) (cache : CacheState) : Type 0 where
  pub its_page : page < pages g
  pub few : g.levels ≤ 6
  pub some_set : 1 ≤ g.sets
  pub some_way : 1 ≤ g.ways
  pub shape : cache.shape ≡ g
  pub form : IsCacheOf g cache.banks
  pub its_banks : AreInTheirBanks g cache.banks

pub fetch_of : {g : Shape} {page : ℕ} {cache : CacheState} → IsBegun g page cache → IsFetchOf g page cache.banks
fetch_of it = record { its_page = it.its_page; few = it.few; sets = record { each = it.form.each_set }; its_banks = it.its_banks }

module _ (g : Shape) (f : Formulas) (page : ℕ) (first : FetchState) (ledger : LedgerState) (it : IsBegun g page first.cache) where
  abbrev Come : ℕ → FetchParts → Device → Type 0
  Come i at now = HasCome g f page first ledger i at now

  abbrev Stop : FetchParts × PathFault → Device → Type 0
  Stop left now = Stopped g f page first ledger left now

  abbrev Comes : ℕ → Plan (FetchParts × PathFault) (FetchParts × Unit {0}) → Device → Type 0
  Comes i plan now = Leaves plan (λ end d. Come i end.0 d) (λ left d. Stop left d) now

  -- ---- a level

  module _ (i : ℕ) (below : i ≤ g.levels) (b : Banks) (n : ℕ) (now : Device) (come : Come i (fetch_parts (of_shape g b) ledger n) now) where
    abbrev x : ℕ
    x = path_at g page i

    abbrev its_set : ℕ
    its_set = set_index g x

    abbrev cache : CacheState
    cache = of_shape g b

    abbrev slots : List Slot
    slots = slots_of cache i x

    abbrev before : FetchState
    before = state cache now n

    abbrev expected : List ℕ
    expected = expected_digest g first.device.regs.root b i x

    in_place : (c : Banks) → IsCacheOf g c → (y : ℕ) → IsInside g c i (set_index g y)
    in_place c its y = record { form = its; its_bank = below; its_set = mod-lt y (omega (arith, it.some_set)) }

    set_form : IsSetOf g its_set slots
    set_form = come.its_form.each_set i its_set

    next : (after : CacheState) (new : Device) (m : ℕ) → IsLevelFetched g f ledger.truth i x before (state after new m)
        → IsFetchedTo g f ledger.truth page (i + 1) first (state after new m)
    next after new m level =
        let up : suc i ≡ i + 1 = omega arith in
        subst (λ k. IsFetchedTo g f ledger.truth page k first (state after new m)) up (IsFetchedTo-more come.fetched level (fetch_of it) below)

    -- where it is cached
    touched_so : is_cached g b i x ≡ true → Come (i + 1) (fetch_parts (touched_in cache i x) ledger n) now
    touched_so cached =
        record {
          fetched =
              next (touched_in cache i x) now n
              (record {
                cache =
                    subst (λ (slots : List Slot). ChangesSet cache (touched_in cache i x) i its_set slots) (sym (cond-true (is_cached g b i x) _ _ cached))
                    (changes cache i its_set (touched slots x) (in_place b come.its_form x) (KeepsWays-touched slots x));
                work =
                    subst₂ (λ times entries. HasWorked times entries now now) (sym (cond-true (is_cached g b i x) 0 1 cached))
                    (sym (cond-true (is_cached g b i x) [] (room_write g slots) cached)) (HasWorked-none now);
                digests = ap (λ times. risen_times times n) (sym (cond-true (is_cached g b i x) 0 1 cached));
                told = λ absent. absurd (false≢true (sym absent ∙ cached));
                checked = λ absent. absurd (false≢true (sym absent ∙ cached));
              });
          same = come.same;
          its_form = form_with cache i its_set (touched slots x) (in_place b come.its_form x) (IsSetOf-touched g its_set slots x cached set_form);
        }

    -- where it isn't
    module _ (absent : is_cached g b i x ≡ false) (line : Line) (mid : Device) (was : HasRead now (meta_line g x) line mid) (whole : IsLine line) where
      abbrev seen : FetchState
      seen = state cache mid (risen n)

      has_read : IsLevelRead g i x line before seen
      has_read =
          record {
            absent = absent;
            cache = refl;
            work = worked_read now (meta_line g x) line mid was;
            digests = refl;
            tells = subst (λ told. Tells told (meta_line g x) line) (sym was.lines) was.tells;
            whole = whole;
          }

      read_here : IsReadAt g f ledger.truth page i line first seen
      read_here = read_at g f ledger.truth page i line first before seen below come.fetched has_read

      refused_so : same_bytes (f.digest_of x line) expected ≡ false → Stop (fetch_parts cache ledger (risen n), Path.Meta x) mid
      refused_so differs = (
        record {
          n = i;
          line = line;
          position = refl;
          read = read_here;
          differs = λ same. false≢true (sym differs ∙ same_bytes-from (f.digest_of x line) expected same);
        },
        refl,
      )

      module _ (fits : same_bytes (f.digest_of x line) expected ≡ true) where
        its_digest : f.digest_of x line ≡ expected
        its_digest = same_bytes-true (f.digest_of x line) expected fits

        shown_so : same_bytes line.0 (line_at ledger.truth x).0 ≡ false
            → Stop (fetch_parts cache (shown ledger (Clash x line (line_at ledger.truth x))) (risen n), Path.Shown) mid
        shown_so other =
            record {
              n = i;
              line = line;
              read = read_here;
              same_digest = its_digest;
              differs = λ same. false≢true (sym other ∙ same_line line (line_at ledger.truth x) same);
              shown = record { exhibit = refl; marks = refl; truth = refl; data_lines = refl };
            }

        cut_so : (new : Device) → WasCut mid new → HasDirtyVictim g slots → Stop (fetch_parts cache ledger (risen n), Path.Cut) new
        cut_so new cut dirty =
            (cut_at f page first before new 1 mid below come.fetched absent (omega arith) has_read.work cut (λ live. dirty), refl)

        module _ (known : same_bytes line.0 (line_at ledger.truth x).0 ≡ true) where
          is_true : line ≡ line_at ledger.truth x
          is_true =
              ap line_of (same_bytes-true line.0 (line_at ledger.truth x).0 known)

          placed_so : (room : Banks) (new : Device) → HasRoomMade g i x cache (of_shape g room) mid new → IsCacheOf g room
              → Come (i + 1) (fetch_parts (placed_in (of_shape g room) i x line) ledger (risen n)) new
          placed_so room new made its =
              let free = room_absent g i x cache (of_shape g room) mid new refl made absent in
              record {
                fetched =
                    next (placed_in (of_shape g room) i x line) new (risen n)
                    (IsLevelFetched-placed g f ledger.truth i x line before seen (of_shape g room) (placed_in (of_shape g room) i x line) new
                    (record {
                      its_shape = refl;
                      some_way = it.some_way;
                      form = set_form;
                      was_read = has_read;
                      digest = its_digest ∙ sym (ap (λ (regs : Regs). expected_digest g regs.root b i x) come.fetched.work.regs);
                      is_true = is_true;
                      made = made;
                      was_placed =
                          changes (of_shape g room) i its_set (placed g.ways (slots_of (of_shape g room) i x) x line) (in_place room its x)
                          (KeepsWays-placed g.ways (slots_of (of_shape g room) i x) x line free);
                    }));
                same = come.same;
                its_form =
                    form_with (of_shape g room) i its_set (placed g.ways (slots_of (of_shape g room) i x) x line) (in_place room its x)
                    (IsSetOf-placed g its_set (slots_of (of_shape g room) i x) x line it.some_way whole refl free (its.each_set i its_set));
              }

          room_so : (found : Option ℕ) → dirty_position (victim_of g.ways slots) ≡ found
              → Leaves (room_of cache i found) (λ end d. Come (i + 1) (fetch_parts (placed_in end.0 i x line) ledger (risen n)) d)
              (λ left d. Stop (fetch_parts left.0 ledger (risen n), Path.Cut) d) mid
          unfolding room_of write_back_plan Leaves
          room_so None is = placed_so b mid (room_free g i x cache mid is) come.its_form
          room_so (Some position) is =
              let its : IsDirtyOf g slots position = dirty_victim_is g slots position is in
              let marked : List Slot = with_mark (slots_of cache i position) position false in (
                λ new cut. cut_so new cut (subst (λ (found : Option Slot). IsSomeAnd found (λ victim. victim.dirty ≡ true)) (sym its.is_victim) its.dirty),
                λ new wrote.
                    placed_so (cleaned cache i position).banks new
                    (room_made g i x position cache (cleaned cache i position) mid new set_form its
                    (record {
                      cache =
                          changes cache i (set_index g position) marked (in_place b come.its_form position)
                          (KeepsWays-with_mark (slots_of cache i position) position false);
                      board = wrote;
                    }))
                    (form_with cache i (set_index g position) marked (in_place b come.its_form position)
                    (IsSetOf-with_mark g (set_index g position) (slots_of cache i position) position false
                    (come.its_form.each_set i (set_index g position)))),
              )

          place_so : Comes (i + 1) (place_plan i x (fetch_parts cache ledger (risen n), line)) mid
          unfolding place_plan
          place_so =
              leaves_mapped _ _ (λ end d. Come (i + 1) end.0 d) (λ left d. Stop left d) _ mid (room_so (dirty_position (victim_of g.ways slots)) refl)

        known_so : Leaves (known_plan x line (fetch_parts cache ledger (risen n))) (λ end d. Comes (i + 1) (place_plan i x end) d) (λ left d. Stop left d) mid
        unfolding Leaves
        known_so =
            leaves_if (λ end d. Comes (i + 1) (place_plan i x end) d) (λ left d. Stop left d) (same_bytes line.0 (line_at ledger.truth x).0)
            (done (fetch_parts cache ledger (risen n), line)) (stop (fetch_parts cache (shown ledger (Clash x line (line_at ledger.truth x))) (risen n), Path.Shown)) mid
            (λ known. place_so known) (λ other. shown_so other)

    check_so : is_cached g b i x ≡ false
        → Leaves (check_plan f first.device.regs.root i x (fetch_parts cache ledger n)) (λ end d. Comes (i + 1) (place_plan i x end) d) (λ left d. Stop left d) now
    unfolding Leaves check_plan
    check_so absent = (
      λ new cut off. (cut_at f page first before new 0 now below come.fetched absent (omega arith) (HasWorked-none now) cut (λ live. on_and_off _ live off), refl),
      λ line mid was whole.
          leaves_if (λ end d. Comes (i + 1) (place_plan i x end) d) (λ left d. Stop left d) (same_bytes (f.digest_of x line) expected)
          (known_plan x line (fetch_parts cache ledger (risen n))) (stop (fetch_parts cache ledger (risen n), Path.Meta x)) mid
          (λ fits. known_so absent line mid was whole fits) (λ differs. refused_so absent line mid was whole differs),
    )

    level_so : Comes (i + 1) (level_plan f first.device.regs.root i x (fetch_parts cache ledger n)) now
    unfolding Leaves level_plan
    level_so =
        leaves_if (λ end d. Come (i + 1) end.0 d) (λ left d. Stop left d) (is_cached g b i x)
        (done (fetch_parts (touched_in cache i x) ledger n, tt)) (bind (check_plan f first.device.regs.root i x (fetch_parts cache ledger n)) (place_plan i x)) now
        (λ cached. touched_so cached)
        (λ absent. leaves_bind (λ end d. Come (i + 1) end.0 d) (λ left d. Stop left d) (check_plan f first.device.regs.root i x (fetch_parts cache ledger n))
        (place_plan i x) now (check_so absent))

  -- ---- level by level

  pub turn_so : (i : ℕ) (at : FetchParts × Unit {0}) (now : Device) → i < g.levels + 1 → Come i at.0 now
      → Comes (i + 1) (fetch_turn f first.device.regs.root g page i at) now
  turn_so i at now below come =
      subst (λ (s : Shape). Come i (fetch_parts (of_shape s at.0.cache.banks) at.0.ledger at.0.digests) now
      → Comes (i + 1) (level_plan f first.device.regs.root i (path_at g page i) (fetch_parts (of_shape s at.0.cache.banks) at.0.ledger at.0.digests)) now)
      (sym (come.fetched.cache.shape ∙ it.shape))
      (subst (λ (l : LedgerState). Come i (fetch_parts (of_shape g at.0.cache.banks) l at.0.digests) now
      → Comes (i + 1) (level_plan f first.device.regs.root i (path_at g page i) (fetch_parts (of_shape g at.0.cache.banks) l at.0.digests)) now)
      (sym come.same) (λ its. level_so i (omega (arith, below)) at.0.cache.banks at.0.digests now its)) come

  pub begins : Come 0 (fetch_parts first.cache ledger first.digests) first.device
  begins =
      record {
        fetched =
            record {
              cache = record { shape = refl; fetched = λ j low. absurd (omega (arith, low)); elsewhere = λ bank set apart. refl };
              levels = record { told = λ j low absent. absurd (omega (arith, low)); checked = λ j low absent. absurd (omega (arith, low)) };
              work = HasWorked-none first.device;
              digests = refl;
            };
        same = refl;
        its_form = it.form;
      }

  pub fetch_so : Leaves (fetch_plan f first.device.regs.root page (fetch_parts first.cache ledger first.digests)) (λ end d. Come (g.levels + 1) end.0 d)
      (λ left d. Stop left d) first.device
  fetch_so =
      subst (λ (s : Shape). Comes (g.levels + 1) (repeated (fetch_turn f first.device.regs.root s page) 0 (s.levels + 1)
      (fetch_parts first.cache ledger first.digests, tt)) first.device) (sym it.shape)
      (leaves_repeated (λ i end d. Come i end.0 d) (λ left d. Stop left d) (fetch_turn f first.device.regs.root g page) (g.levels + 1) 0 (g.levels + 1)
      (fetch_parts first.cache ledger first.digests, tt) first.device (omega arith) (λ i t d low come. turn_so i t d low come) begins)
