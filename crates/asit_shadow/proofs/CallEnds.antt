-- The end of a call: a cut and an exhibit take the engine down.
use Rattle.std.proofs.Common.{◌≡◌, Bool, true, false, refl, rules}
use Rattle.asit_shadow.proofs.Common.{Result, not, ◌||◌, true≢false, Shape, Device, Outcome, is_going, WatchState, TreeFault, TreeState, TreeEngineParts, tree_parts_of, IsWatchReady, IsBoardReady, tree_outcome_of, AnswersTreeDown, KeepsWatch, IsTreeDownAnswer, before_end}

pub or_false : (b : Bool) → b ≡ (b || false)
or_false true = refl
or_false false = refl

-- the engine that a call worked with, which wasn't down
pub worked : (mid new : TreeState) (device : Device) (watch : WatchState) → mid.down ≡ false → new.shape ≡ mid.shape → new.cache ≡ mid.cache → new.tree ≡ mid.tree
    → tree_parts_of mid device watch ≡ before_end (tree_parts_of new device watch)
worked mid new device watch down shape cache tree = search rules

-- ---- what calls ask stays true

pub ready-kept : (g : Shape) (outcome : Outcome) (old new : WatchState) → KeepsWatch outcome old new → IsWatchReady g old → IsWatchReady g new
ready-kept g outcome old new kept ready = search rules

pub board-kept : (g : Shape) (old new : Device) → new.size ≡ old.size → new.regs ≡ old.regs → IsBoardReady g old → IsBoardReady g new
board-kept g old new size regs ready = search rules

-- ---- the engine is down, or not

pub answers-up : {T : Type 0} (old new : TreeEngineParts) (answer : Result T TreeFault) → old.engine.down ≡ false → (IsTreeDownAnswer answer → ⊥) → new.engine.down ≡ (old.engine.down || not (is_going (tree_outcome_of answer))) → AnswersTreeDown old new answer
answers-up old new answer up other after = search (rules, true≢false)
