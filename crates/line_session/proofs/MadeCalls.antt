-- A call of a store as the session's fields have it: what is held after it, and what it made.
use Rattle.std.proofs.Common.{ℕ, ◌≡◌, Bool, true, false, List, Option, Some, None, refl, sym, ap, ◌∙◌, cond, rules}
use Rattle.line_session.proofs.Common.{Shape, BoardMemory, LedgerState, Setup, Formulas, EngineState, setup_under, Taken, steps_in, IsWatched, device_during, none_taken, parts_of, Parts, AreSound, not}
use Rattle.std.specs.Prelude.{MatchBool}
use Rattle.line_session.specs.World.{StoreSession, session_of, IsLineWorld, IsLineOn}
use Rattle.line_session.specs.Kept.{IsLeft, IsLeftOn, IsLeftOff}
use Rattle.line_session.specs.Made.{HasMade}
use Rattle.line_session.specs.Promised.{CallEffect}
use Rattle.line_session.proofs.Worlds.{line_on_in, on_of, off_of}

pub record MadeCall (L R : Type 0) : Type 1 where
  pub engine_of : L → EngineState
  pub effect : CallEffect L R
  pub formulas_of : List ℕ → Formulas
  pub shape : Shape
  pub keys : List ℕ
  pub tags : ℕ
  pub digests : ℕ
  pub board : BoardMemory
  pub ledger : LedgerState
  pub found : Option L
  pub store : L
  pub there : found ≡ Some store
  pub world : IsLineWorld engine_of (setup_under formulas_of shape keys) (session_of engine_of shape keys tags digests board ledger found)
  pub ledger_before : LedgerState
  pub same_ledger : ledger_before ≡ ledger
  pub after : L
  pub keys_new : List ℕ
  pub same_keys : keys_new ≡ keys
  pub tags_new : ℕ
  pub digests_new : ℕ
  pub board_new : BoardMemory
  pub ledger_new : LedgerState
  pub taken : Taken
  pub watched : IsWatched board board_new taken
  pub answer : R
  pub cut : Bool
  pub made :
      effect (setup_under formulas_of (engine_of store).shape keys) store after
      (parts_of (engine_of store) (device_during board none_taken) ledger_before tags digests)
      (parts_of (engine_of after) (device_during board_new taken) ledger_new tags_new digests_new) answer
  pub kept :
      (engine_of store).down ≡ false → board.powered ≡ true
      → AreSound (setup_under formulas_of (engine_of store).shape keys)
      (parts_of (engine_of store) (device_during board none_taken) ledger_before tags digests)
      → IsLeft (setup_under formulas_of (engine_of store).shape keys) cut (engine_of after)
      (parts_of (engine_of store) (device_during board none_taken) ledger_before tags digests)
      (parts_of (engine_of after) (device_during board_new taken) ledger_new tags_new digests_new)

module _ {L R : Type 0} (c : MadeCall L R) where
  abbrev setup : Setup
  setup = setup_under c.formulas_of c.shape c.keys

  abbrev old : StoreSession L
  old = session_of c.engine_of c.shape c.keys c.tags c.digests c.board c.ledger c.found

  abbrev kept_store : Option L
  kept_store = cond c.cut None (Some c.after)

  abbrev pub left : Option L → StoreSession L
  left store = session_of c.engine_of c.shape c.keys_new c.tags_new c.digests_new c.board_new c.ledger_new store

  on : IsLineOn setup old.state (c.engine_of c.store)
  on = line_on_in c.engine_of setup old c.store c.world c.there

  abbrev from : LedgerState → Parts
  from ledger = parts_of (c.engine_of c.store) (device_during c.board none_taken) ledger c.tags c.digests

  abbrev to : Parts
  to = parts_of (c.engine_of c.after) (device_during c.board_new c.taken) c.ledger_new c.tags_new c.digests_new

  is_left : IsLeft setup c.cut (c.engine_of c.after) (from c.ledger) to
  is_left = search (rules, setup_under)

  made_here : c.effect setup c.store c.after (from c.ledger) to c.answer
  made_here = search (rules, setup_under)

  -- power is off exactly after a cut
  ended : (c.cut ≡ not c.board_new.powered) × IsLineWorld c.engine_of setup (left kept_store)
  ended = go c.cut is_left.ends
    where
      go : (cut : Bool) → MatchBool cut (IsLeftOff setup to) (IsLeftOn setup (c.engine_of c.after) to)
          → (cut ≡ not c.board_new.powered) × IsLineWorld c.engine_of setup (left (cond cut None (Some c.after)))
      go true off = (
        ap not (sym off.dark),
        off_of c.engine_of setup (left None) refl c.world.whole_shape c.world.whole_formulas refl off.dark off.durable off.small_group,
      )
      go false lit = (
        ap not (sym lit.live),
        on_of c.engine_of setup (left (Some c.after)) c.after refl c.world.whole_shape c.world.whole_formulas refl lit.live lit.running lit.sound,
      )

  -- ---- as contracts write it

  pub dark_is : c.cut ≡ not c.board_new.powered
  dark_is = ended.0

  pub held : (store : Option L) → store ≡ kept_store → IsLineWorld c.engine_of (setup_under c.formulas_of c.shape c.keys_new) (left store)
  held store is = let world = ended.1 in rw is (rw (← c.same_keys) at world)

  pub has_made : (store : Option L) → store ≡ kept_store → (steps : ℕ) → steps ≡ steps_in c.taken
      → HasMade c.engine_of c.effect setup c.store steps c.answer old (left store)
  has_made store is steps counted =
      record {
        after = c.after;
        taken = c.taken;
        watched = c.watched;
        its_steps = counted;
        made = made_here;
        its_store = is ∙ ap (λ b. cond b None (Some c.after)) dark_is ∙ turned c.board_new.powered;
        world = rw is ended.1;
        shape = refl;
        keys = c.same_keys;
      }
    where
      turned : (b : Bool) → cond (not b) None (Some c.after) ≡ cond b (Some c.after) None
      turned true = refl
      turned false = refl
