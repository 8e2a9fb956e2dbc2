-- What a session holds after a call that goes on or is cut.
use Rattle.std.proofs.Common.{rules, ℕ, ◌≡◌, ◌≤◌, true, false, length, List, Some, None, sym, ap, subst, arith, ap₂}
use Rattle.line_session.proofs.Common.{IsShape, AreInRange, group_bound, Setup, Formulas, EngineState, IsDurable, IsSound, sealed_in, places_of, setup_under, option_map, on_chip}
use Rattle.line_session.specs.State.{LineSession, setup_in}
use Rattle.line_session.specs.World.{StoreSession, IsLineWorld, IsLineOn, IsLineBy}

module _ {L : Type 0} (engine_of : L → EngineState) (setup : Setup) (session : StoreSession L) where
  -- with power on, what is held of the engine
  pub line_on_in : (store : L) → IsLineWorld engine_of setup session → session.store ≡ Some store → IsLineOn setup session.state (engine_of store)
  line_on_in store world there = subst (IsLineBy engine_of setup session.state) there world.chip

  -- where all is sound
  pub on_of : (store : L) → session.store ≡ Some store → IsShape setup.shape → AreInRange setup.formulas
      → session.state.engine ≡ option_map (λ store. on_chip (engine_of store)) session.store → session.state.board.powered ≡ true
      → (engine_of store).down ≡ false
      → IsSound setup (on_chip (engine_of store)) session.state.board.lines session.state.board.regs session.state.ledger
      → IsLineWorld engine_of setup session
  on_of store there shape formulas engine powered running sound =
      let sealed = sealed_in setup session.state.board.regs session.state.ledger sound.trusted.anchored in
      let chip : IsLineOn setup session.state (engine_of store) = search rules in
      record {
        whole_shape = shape;
        whole_formulas = formulas;
        whole_lines = sound.durable.device_whole;
        valid_regs = sound.trusted.anchored.valid_regs;
        few_armed = omega (arith, ap length sound.trusted.no_group);
        ledger = sound.trusted.anchored.of_shape;
        no_exhibit = search (rules, sound.trusted.anchored.no_exhibit);
        places = places_of setup session.state.ledger.marks sealed;
        its_engine = engine;
        chip = subst (IsLineBy engine_of setup session.state) (sym there) chip;
      }

  -- with power off, where the device is durable
  pub off_of : session.store ≡ None → IsShape setup.shape → AreInRange setup.formulas
      → session.state.engine ≡ option_map (λ store. on_chip (engine_of store)) session.store → session.state.board.powered ≡ false
      → IsDurable setup session.state.board.lines session.state.board.regs session.state.ledger
      → length session.state.board.regs.group.items ≤ group_bound setup.shape → IsLineWorld engine_of setup session
  off_of none shape formulas engine unpowered durable few =
      let anchored = durable.mendable.anchored in
      record {
        whole_shape = shape;
        whole_formulas = formulas;
        whole_lines = durable.device_whole;
        valid_regs = anchored.valid_regs;
        few_armed = few;
        ledger = anchored.of_shape;
        no_exhibit = search (rules, anchored.no_exhibit);
        places = places_of setup session.state.ledger.marks (sealed_in setup session.state.board.regs session.state.ledger anchored);
        its_engine = engine;
        chip = subst (IsLineBy engine_of setup session.state) (sym none) (record { unpowered = unpowered; durable = durable });
      }

-- a session's setup is that of its geometry and keys
pub same_setup : (formulas_of : List ℕ → Formulas) (old new : LineSession) → new.shape ≡ old.shape → new.keys ≡ old.keys
    → setup_in formulas_of new ≡ setup_in formulas_of old
same_setup formulas_of old new shape keys = ap₂ (λ s k. setup_under formulas_of s k) shape keys
