-- One level fetched: the read, the room, and the place.
use Rattle.std.proofs.Common.{rules, ◌≡◌, ℕ, ◌≤◌, Bool, true, false, List, [], ◌∷◌, refl, sym, ap, ap₂, subst, subst₂, ◌∙◌, inl, inr, Option, Some, None}
use Rattle.std.specs.Prelude.{IfSome, option_map, unwrap_or}
use Rattle.std.proofs.lemmas.Bool.{cases_Bool, cond-true, cond-false}
use Rattle.std.proofs.lemmas.Option.{none-some}
use Rattle.std.proofs.lemmas.List.Elements.{All-contains}
use Rattle.pmem_base.specs.declared.lines.Line.{Line}
use Rattle.pmem_base.specs.Shape.{Shape}
use Rattle.pmem_base.specs.Layout.{meta_line}
use Rattle.pmem_base.specs.Lines.{line_at, zero_line}
use Rattle.suite.specs.Formulas.{Formulas}
use Rattle.board.specs.Device.{Device}
use Rattle.board.specs.Steps.{Tells}
use Rattle.commit_regs.proofs.GroupLemmas.{redone-nil}
use Rattle.meta_cache.specs.declared.slot.Slot.{Slot}
use Rattle.meta_cache.specs.Banks.{Banks, set_of, set_index, is_cached}
use Rattle.meta_cache.specs.Sets.{holds, slot_with, with_mark, victim_of, placed, IsSetOf, KeepsWays}
use Rattle.meta_cache.specs.State.{CacheState, slots_of, ChangesSet}
use Rattle.meta_cache.proofs.CacheLemmas.{with_slots-own, with_slots-twice}
use Rattle.meta_cache.proofs.WayLemmas.{KeepsWays-placed}
use Rattle.meta_path.specs.Blocks.{slots_at, line_in}
use Rattle.meta_path.specs.Work.{HasWorked, FetchState}
use Rattle.meta_path.specs.Levels.{expected_digest, dirty_position, victim_write, room_write, without_dirty, HasRoomMade, IsLevelFetched, IsLevelRead}
use Rattle.meta_path.specs.Storing.{IsCleaned}
use Rattle.meta_path.proofs.SetFacts.{holds_slot, victim_contained, slot_with-victim, placed-without_dirty, clean_victim, holds-without_dirty}
use Rattle.meta_path.proofs.WorkLemmas.{HasWorked-none, HasWorked-written, HasWorked-then}

-- ---- room

-- the block to give way, where it is dirty
pub record IsDirtyOf (g : Shape) (slots : List Slot) (position : ℕ) : Type 0 where
  pub victim : Slot
  pub is_victim : victim_of g.ways slots ≡ Some victim
  pub dirty : victim.dirty ≡ true
  pub its_position : victim.position ≡ position

pub dirty_victim_is : (g : Shape) (slots : List Slot) (position : ℕ)
    → dirty_position (victim_of g.ways slots) ≡ Some position → IsDirtyOf g slots position
dirty_victim_is g slots position is = search rules

-- it is of the same set
same_set : (g : Shape) (n : ℕ) (slots : List Slot) (position : ℕ) → IsSetOf g n slots → IsDirtyOf g slots position
    → set_index g position ≡ n
same_set g n slots position form of = search (rules, All-contains, victim_contained)

-- and cached
pub victim_is_cached : (g : Shape) (banks : Banks) (bank x position : ℕ) → IsSetOf g (set_index g x) (slots_at g banks bank x)
    → IsDirtyOf g (slots_at g banks bank x) position → is_cached g banks bank position ≡ true
victim_is_cached g banks bank x position form of =
    ap (λ n. holds (set_of banks bank n) position) (same_set g _ _ position form of)
    ∙ ap (holds _) (sym of.its_position)
    ∙ holds_slot _ of.victim (victim_contained g.ways _ of.victim form.room of.is_victim)

-- writing it back makes room
pub room_made : (g : Shape) (bank x position : ℕ) (old_cache new_cache : CacheState) (old new : Device)
    → IsSetOf g (set_index g x) (slots_at g old_cache.banks bank x)
    → IsDirtyOf g (slots_at g old_cache.banks bank x) position
    → IsCleaned g bank position old_cache new_cache old new → HasRoomMade g bank x old_cache new_cache old new
room_made g bank x position old_cache new_cache old new form of cleaned =
    record {
      cache =
          subst (ChangesSet old_cache new_cache bank (set_index g x)) (sym (ap (without_dirty slots) of.is_victim ∙ made))
          (subst (λ n. ChangesSet old_cache new_cache bank n (with_mark (set_of old_cache.banks bank n) position false)) its_set
          cleaned.cache);
      work =
          subst (λ entries. HasWorked 0 entries old new) (sym (ap (victim_write g) of.is_victim ∙ written))
          (HasWorked-written old (meta_line g position) (line_in g old_cache.banks bank position) new cleaned.board);
    }
  where
    slots : List Slot
    slots = slots_at g old_cache.banks bank x

    its_set : set_index g position ≡ set_index g x
    its_set = same_set g (set_index g x) slots position form of

    made : without_dirty slots (Some of.victim) ≡ with_mark slots position false
    made =
        cond-true of.victim.dirty (with_mark slots of.victim.position false) slots of.dirty
        ∙ ap (λ y. with_mark slots y false) of.its_position

    line : line_in g old_cache.banks bank position ≡ of.victim.line
    line =
        ap (λ n. unwrap_or (option_map (λ (s : Slot). s.line) (slot_with (set_of old_cache.banks bank n) position)) zero_line) its_set
        ∙ ap (λ y. unwrap_or (option_map (λ (s : Slot). s.line) (slot_with slots y)) zero_line) (sym of.its_position)
        ∙ ap (λ found. unwrap_or (option_map (λ (s : Slot). s.line) found) zero_line)
        (slot_with-victim g.ways slots of.victim form.room form.distinct_positions of.is_victim)

    written : victim_write g (Some of.victim) ≡ (meta_line g position, line_in g old_cache.banks bank position) ∷ []
    written =
        cond-true of.victim.dirty ((meta_line g of.victim.position, of.victim.line) ∷ []) [] of.dirty
        ∙ ap₂ (λ (y : ℕ) (l : Line). (meta_line g y, l) ∷ []) of.its_position (sym line)

-- where no dirty block would give way there is room
pub room_free : (g : Shape) (bank x : ℕ) (cache : CacheState) (d : Device)
    → dirty_position (victim_of g.ways (slots_at g cache.banks bank x)) ≡ None → HasRoomMade g bank x cache cache d d
room_free g bank x cache d none =
    record {
      cache = subst (ChangesSet cache cache bank (set_index g x)) (sym (clean (victim_of g.ways slots) none).0) own;
      work = subst (λ entries. HasWorked 0 entries d d) (sym (clean (victim_of g.ways slots) none).1) (HasWorked-none d);
    }
  where
    slots : List Slot
    slots = slots_at g cache.banks bank x

    own : ChangesSet cache cache bank (set_index g x) slots
    own =
        record {
          exact = sym (with_slots-own cache bank (set_index g x));
          shape = refl;
          here = refl;
          ways = λ y before after. refl;
          elsewhere = λ bank' set' apart. refl;
        }

    clean : (victim : Option Slot) → dirty_position victim ≡ None → (without_dirty slots victim ≡ slots) × (victim_write g victim ≡ [])
    clean None none = (refl, refl)
    clean (Some victim) none =
        elim (cases_Bool victim.dirty) [
          | inl dirty ↦ absurd (none-some victim.position (sym none ∙ cond-true victim.dirty (Some victim.position) None dirty))
          | inr is_clean ↦ (
            cond-false victim.dirty (with_mark slots victim.position false) slots is_clean,
            cond-false victim.dirty ((meta_line g victim.position, victim.line) ∷ []) [] is_clean,
          )
        ]

-- x still isn't cached
pub room_absent : (g : Shape) (bank x : ℕ) (old_cache new_cache : CacheState) (old new : Device)
    → old_cache.shape ≡ g → HasRoomMade g bank x old_cache new_cache old new
    → is_cached g old_cache.banks bank x ≡ false → is_cached new_cache.shape new_cache.banks bank x ≡ false
room_absent g bank x old_cache new_cache old new its made absent =
    ap (λ (h : Shape). is_cached h new_cache.banks bank x) (made.cache.shape ∙ its)
    ∙ ap (λ slots. holds slots x) made.cache.here
    ∙ holds-without_dirty (slots_at g old_cache.banks bank x) (victim_of g.ways (slots_at g old_cache.banks bank x)) x ∙ absent

-- what gives way is clean
pub room_clean : (g : Shape) (bank x : ℕ) (old_cache new_cache : CacheState) (old new : Device)
    → old_cache.shape ≡ g → IsSetOf g (set_index g x) (slots_at g old_cache.banks bank x)
    → HasRoomMade g bank x old_cache new_cache old new
    → IfSome (victim_of new_cache.shape.ways (slots_of new_cache bank x)) (λ slot. slot.dirty ≡ false)
room_clean g bank x old_cache new_cache old new its form made =
    subst (λ (h : Shape). IfSome (victim_of h.ways (set_of new_cache.banks bank (set_index h x))) (λ slot. slot.dirty ≡ false))
    (sym (made.cache.shape ∙ its)) (subst (λ slots. IfSome (victim_of g.ways slots) (λ slot. slot.dirty ≡ false)) (sym made.cache.here)
    (clean_victim g.ways _ form.room form.distinct_positions))

-- ---- two changes of one set are one

pub ChangesSet-twice : (old mid new : CacheState) (bank set : ℕ) (first second : List Slot)
    → ChangesSet old mid bank set first → ChangesSet mid new bank set second
    → KeepsWays (set_of old.banks bank set) second → ChangesSet old new bank set second
ChangesSet-twice old mid new bank set first second one two ways = search (rules, with_slots-twice)

-- ---- the level

-- what an absent position was fetched by
pub record IsPlacedAfter (g : Shape) (f : Formulas) (truth : List Line) (bank x : ℕ) (line : Line)
    (old read : FetchState) (room placed_cache : CacheState) (new : Device) : Type 0 where
  pub its_shape : old.cache.shape ≡ g
  pub some_way : 1 ≤ g.ways
  pub form : IsSetOf g (set_index g x) (slots_at g old.cache.banks bank x)
  pub was_read : IsLevelRead g bank x line old read
  pub digest : f.digest_of x line ≡ expected_digest g old.device.regs.root old.cache.banks bank x
  pub is_true : line ≡ line_at truth x
  pub made : HasRoomMade g bank x old.cache room read.device new
  pub was_placed :
      ChangesSet room placed_cache bank (set_index room.shape x)
      (placed room.shape.ways (slots_of room bank x) x line)

pub IsLevelFetched-placed : (g : Shape) (f : Formulas) (truth : List Line) (bank x : ℕ) (line : Line)
    (old read : FetchState) (room placed_cache : CacheState) (new : Device)
    → IsPlacedAfter g f truth bank x line old read room placed_cache new
    → IsLevelFetched g f truth bank x old
    (record { cache = placed_cache; device = new; digests = read.digests })
IsLevelFetched-placed g f truth bank x line old read room placed_cache new h =
    record {
      cache = subst (ChangesSet old.cache placed_cache bank (set_index g x)) (sym (cond-false test _ _ h.was_read.absent)) its_set;
      work =
          subst₂ (λ times entries. HasWorked times entries old.device new)
          (sym (cond-false test 0 1 h.was_read.absent)) (sym (cond-false test [] (room_write g slots) h.was_read.absent))
          (HasWorked-then 1 0 [] (room_write g slots) old.device read.device new h.was_read.work h.made.work);
      digests = search (rules, cond-false);
      told = λ absent.
          subst₂ (λ lines (l : Line). Tells lines (meta_line g x) l)
          (h.was_read.work.lines ∙ redone-nil old.device.lines) h.is_true h.was_read.tells;
      checked = λ absent. ap (f.digest_of x) (sym h.is_true) ∙ h.digest;
    }
  where
    test : Bool
    test = is_cached g old.cache.banks bank x

    slots : List Slot
    slots = slots_at g old.cache.banks bank x

    shape : room.shape ≡ g
    shape = h.made.cache.shape ∙ h.its_shape

    same_placed : placed room.shape.ways (slots_of room bank x) x line ≡ placed g.ways slots x (line_at truth x)
    same_placed =
        ap (λ (k : Shape). placed k.ways (set_of room.banks bank (set_index k x)) x line) shape
        ∙ ap (λ set. placed g.ways set x line) h.made.cache.here
        ∙ placed-without_dirty g.ways slots x line h.form.room h.form.distinct_positions
        ∙ ap (placed g.ways slots x) h.is_true

    its_set : ChangesSet old.cache placed_cache bank (set_index g x) (placed g.ways slots x (line_at truth x))
    its_set =
        ChangesSet-twice old.cache room placed_cache bank (set_index g x) _ _ h.made.cache
        (subst₂ (λ n set. ChangesSet room placed_cache bank n set) (ap (λ (k : Shape). set_index k x) shape) same_placed
        h.was_placed)
        (KeepsWays-placed g.ways slots x (line_at truth x) h.was_read.absent)
