-- What each part of a write asks of the parts before it.
use Rattle.std.proofs.Common.{rules, ℕ, ◌≡◌, ◌<◌, ◌≤◌, ◌+◌, Bool, true, false, List, [], ◌++◌, length, Option, Some, None, Ok, refl, sym, ap, subst, ◌∙◌, arith}
use Rattle.std.specs.Prelude.{not}
use Rattle.std.proofs.lemmas.Bool.{cases_Bool, cond-false, true≢false, ltb-true}
use Rattle.std.proofs.lemmas.List.{length-append}
use Rattle.std.proofs.lemmas.List.Filters.{length-filter_both}
use Rattle.pmem_base.specs.declared.registers.Progress.{Progress}
use Rattle.pmem_base.specs.declared.answers.Mark.{Mark}
use Rattle.pmem_base.specs.Registers.{places_of_page, is_done, not_done}
use Rattle.page_reencrypt.proofs.DoneBits.{length-places}
use Rattle.meta_path.specs.Blocks.{IsPathCached}
use Rattle.split_counters.specs.declared.Block.{Block}
use Rattle.split_counters.specs.Blocks.{minor_of, next_block}
use Rattle.split_counters.proofs.Packing.{zero_minors-zero}
use Rattle.suite.specs.Setup.{Setup}
use Rattle.seal_ledger.specs.Ledger.{LedgerState}
use Rattle.seal_ledger.specs.Notes.{HasRoom}
use Rattle.pmem_engine.specs.Parts.{Parts, regs_of}
use Rattle.call_effects.specs.Outcomes.{going}
use Rattle.pmem_engine.specs.Outcomes.{OneLossEffect}
use Rattle.pmem_engine.specs.CallFacts.{IsUsableWith, IsPathNamedInMirror}
use Rattle.pmem_engine.specs.Resealing.{register_in}
use Rattle.pmem_engine.specs.Writing.{overflow_of, register_to_finish, HasFinishedWhere, HasFinishedFor, HasBegunFor}
use Rattle.pmem_engine.proofs.CallEnds.UsableParts.{usable_after}
use Rattle.pmem_engine.proofs.PostedWrites.WriteParts.{alone_done}

-- amid a write: the parts are usable
pub record IsAmid (setup : Setup) (now : Parts) : Type 0 where
  pub its_shape : now.engine.shape ≡ setup.shape
  pub usable : IsUsableWith setup.shape false now.device now.ledger

-- so they are after a part that goes on
pub amid_after : (setup : Setup) (made : List Mark) (old new : Parts) → IsAmid setup old → OneLossEffect setup going made old new
    → IsAmid setup new
amid_after setup made old new it done =
    record {
      its_shape = done.gone.shape ∙ it.its_shape;
      usable = usable_after setup going made old new false done.gone refl it.usable;
    }

-- the same by the engine's own shape, as the calls ask for it
pub usable_here : (setup : Setup) (now : Parts) → IsAmid setup now → IsUsableWith now.engine.shape false now.device now.ledger
usable_here setup now it = subst (λ g. IsUsableWith g false now.device now.ledger) (sym it.its_shape) it.usable

-- the line's minor isn't used up once its page is begun where it was
pub minor_below : (old new : Block) (page i : ℕ) (overflows : Bool) → i < 64 → overflow_of old page i ≡ Ok overflows
    → (overflows ≡ true → new ≡ next_block old) → (overflows ≡ false → new ≡ old) → minor_of new i < 127
minor_below old new page i overflows small over begun same = search (rules, cases_Bool, cond-false, true≢false, ltb-true, zero_minors-zero)

-- ---- the page that was finished

pub few_left : (register : Progress) → length (not_done register) ≤ 64
unfolding not_done
few_left register =
    let both =
    length-filter_both (λ i. not (is_done register i)) (λ i. not (not (is_done register i))) (λ i. refl) places_of_page in
    let all = length-places in
    omega (arith, both, all)

-- the room that so many marks leave
room_after : (old new : LedgerState) (made : List Mark) (capacity n m : ℕ) → new.marks ≡ old.marks ++ made → length made ≤ n
    → HasRoom old capacity (m + n) → HasRoom new capacity m
room_after old new made capacity n m marks few room = omega (arith, ap length marks, length-append old.marks made, few, room)

module _ (setup : Setup) (page : ℕ) (old new : Parts) where
  amid_where : (place : Option ℕ) → IsAmid setup old → HasFinishedWhere setup place old new (Ok tt) → IsAmid setup new
  amid_where None amid it = amid_after setup [] old new amid (alone_done setup old new it.alone)
  amid_where (Some n) amid it = amid_after setup it.made old new amid it.done

  pub amid_finished : (overflows : Bool) → IsAmid setup old → HasFinishedFor overflows setup page old new (Ok tt) → IsAmid setup new
  amid_finished true amid it = amid_where (register_to_finish (regs_of old).progress.items page) amid it
  amid_finished false amid it = amid_where None amid it

  room_where : (place : Option ℕ) (capacity m : ℕ) → HasRoom old.ledger capacity (m + 64) → HasFinishedWhere setup place old new (Ok tt)
      → HasRoom new.ledger capacity m
  room_where None capacity m room it =
      room_after old.ledger new.ledger [] capacity 64 m (alone_done setup old new it.alone).gone.marks (omega arith) room
  room_where (Some n) capacity m room it =
      let few = few_left (register_in old n) in
      room_after old.ledger new.ledger it.made capacity 64 m it.done.gone.marks (omega (arith, few, it.few)) room

  pub room_finished : (overflows : Bool) (capacity m : ℕ) → HasRoom old.ledger capacity (m + 64)
      → HasFinishedFor overflows setup page old new (Ok tt) → HasRoom new.ledger capacity m
  room_finished true capacity m room it = room_where (register_to_finish (regs_of old).progress.items page) capacity m room it
  room_finished false capacity m room it = room_where None capacity m room it

  -- ---- the page that was begun

  pub amid_begun : (overflows : Bool) → IsAmid setup old → HasBegunFor overflows setup page old new (Ok tt) → IsAmid setup new
  amid_begun true amid it = amid_after setup it.made old new amid it.done
  amid_begun false amid it = amid_after setup [] old new amid (alone_done setup old new it.alone)

  pub room_begun : (overflows : Bool) (capacity : ℕ) → HasRoom old.ledger capacity 2 → HasBegunFor overflows setup page old new (Ok tt)
      → HasRoom new.ledger capacity 1
  room_begun true capacity room it =
      let one = ap length it.marks in
      room_after old.ledger new.ledger it.made capacity 1 1 it.done.gone.marks (omega (arith, one)) room
  room_begun false capacity room it =
      room_after old.ledger new.ledger [] capacity 1 1 (alone_done setup old new it.alone).gone.marks (omega arith) room

  pub cached_begun : (overflows : Bool) → IsPathCached setup.shape old.engine.cache page
      → HasBegunFor overflows setup page old new (Ok tt) → IsPathCached setup.shape new.engine.cache page
  cached_begun v0 was it = search rules

  pub named_begun : (overflows : Bool) → IsPathNamedInMirror setup.shape old.engine page
      → HasBegunFor overflows setup page old new (Ok tt) → IsPathNamedInMirror setup.shape new.engine page
  named_begun v0 was it = search rules

  pub same_unbegun : (overflows : Bool) → overflows ≡ false → HasBegunFor overflows setup page old new (Ok tt)
      → new.engine ≡ old.engine
  same_unbegun v0 is it = search rules
