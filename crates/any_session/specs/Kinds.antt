-- A session of any kind, and what became of a line that it was given.
use Rattle.std.specs.Prelude.{ℕ, ◌≡◌, List}
use Rattle.any_suite.specs.Kinds.{any_formulas}
use Rattle.trace_text.specs.Conversations.{talk_protocol}
use Rattle.wear_session.specs.Answered.{IsWearTalkedOf, IsWearShownOf, IsWearStarvedOf}
use Rattle.wear_session.specs.Commands.{reading_of_wear, sort_of_wear}
use Rattle.wear_session.specs.Logged.{IsWearLogOf}
use Rattle.wear_session.specs.State.{WearState, wear_setup_in}
use Rattle.txn_session.specs.Answered.{IsTxnTalkedOf, IsTxnShownOf, IsTxnStarvedOf}
use Rattle.txn_session.specs.Commands.{reading_of_txn, sort_of_txn}
use Rattle.txn_session.specs.Logged.{IsTxnLogOf}
use Rattle.txn_session.specs.State.{TxnState, txn_setup_in}
use Rattle.tree_session.specs.Answered.{IsTreeTalkedOf, IsTreeShownOf, IsTreeStarvedOf}
use Rattle.tree_session.specs.Commands.{reading_of_tree, sort_of_tree}
use Rattle.tree_session.specs.Logged.{IsTreeLogOf}
use Rattle.tree_session.specs.State.{SessionState, tree_setup_in}
use Rattle.any_session.specs.declared.Told.{Told}
use Rattle.any_session.specs.declared.kinds.AnySession.{AnySession}
use Rattle.any_session.specs.declared.kinds.AnySession.TheVariants.{Run, Wear, Txn, Tree}
use Rattle.any_session.specs.Told.{Lines, HasTold}
use Rattle.any_session.specs.Worlds.{world_lines}

-- ---- the sessions as what answers lines

abbrev pub wear_lines : Lines WearState (List ℕ)
wear_lines =
    record {
      protocol =
          talk_protocol sort_of_wear (λ old line text new. IsWearTalkedOf (wear_setup_in any_formulas old) old line text new)
          (λ old line exhibit new. IsWearShownOf (wear_setup_in any_formulas old) old line exhibit new) (λ old line. IsWearStarvedOf old line);
      logs = λ old line log_old log_new new. IsWearLogOf (reading_of_wear line) log_old old log_new new;
      work = λ state. (state.session.tags, state.session.digests);
    }

abbrev pub txn_lines : Lines TxnState (List ℕ)
txn_lines =
    record {
      protocol =
          talk_protocol sort_of_txn (λ old line text new. IsTxnTalkedOf (txn_setup_in any_formulas old) old line text new)
          (λ old line exhibit new. IsTxnShownOf (txn_setup_in any_formulas old) old line exhibit new) (λ old line. IsTxnStarvedOf old line);
      logs = λ old line log_old log_new new. IsTxnLogOf (reading_of_txn line) log_old old log_new new;
      work = λ state. (state.session.tags, state.session.digests);
    }

abbrev pub tree_lines : Lines SessionState (List ℕ)
tree_lines =
    record {
      protocol =
          talk_protocol sort_of_tree (λ old line text new. IsTreeTalkedOf (tree_setup_in any_formulas old) old line text new)
          (λ old line exhibit new. IsTreeShownOf (tree_setup_in any_formulas old) old line exhibit new) (λ old line. IsTreeStarvedOf old line);
      logs = λ old line log_old log_new new. IsTreeLogOf (reading_of_tree line) log_old old log_new new;
      work = λ state. (state.tags, state.digests);
    }

-- ---- a line told

-- The session before, the line, what came of it, the text of the reply, and the session after, which is of the same kind, and
-- tells its log if it did before.
abbrev pub IsTold : AnySession → List ℕ → Told → List ℕ → AnySession → Type 0
IsTold (Run old) line told text (Run new) =
    (new.logged ≡ old.logged) × HasTold (world_lines any_formulas) old.logged told line text old.world.shown old.world new.world.shown new.world
IsTold (Wear old) line told text (Wear new) =
    (new.logged ≡ old.logged) × HasTold wear_lines old.logged told line text old.over old.session new.over new.session
IsTold (Txn old) line told text (Txn new) =
    (new.logged ≡ old.logged) × HasTold txn_lines old.logged told line text old.over old.session new.over new.session
IsTold (Tree old) line told text (Tree new) =
    (new.logged ≡ old.logged) × HasTold tree_lines old.logged told line text old.over old.session new.over new.session
IsTold old line told text new = ⊥
