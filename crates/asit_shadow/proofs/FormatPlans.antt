-- Two formats of one device and watch are the same.
use Rattle.std.proofs.Common.{◌≡◌, ◌<◌, None, length, sym, ◌∙◌, arith, rules}
use Rattle.asit_shadow.proofs.Common.{ext_get_or, Setup, tree_lines, WatchState, chip-tree-is, TreeState, Rest, first_engine, IsFormatTold, HasTreeFormatted}
use Rattle.call_plan.proofs.Determined.{uncut_alike}
use Rattle.asit_shadow.specs.Determined.{TreeFormatIsDetermined}

-- the tree on the chip is that over the first slot lines
pub first_engine-is : (setup : Setup) (old new : Rest) (engine : TreeState) → HasTreeFormatted setup old new engine → engine ≡ first_engine setup
first_engine-is setup old new engine it = search (rules, chip-tree-is)

watches_alike : (setup : Setup) (old a b : WatchState) → length old.seals ≡ tree_lines setup.shape → IsFormatTold setup old a → IsFormatTold setup old b → a ≡ b
watches_alike setup old a b count it its =
    let seals : a.seals ≡ b.seals =
    ext_get_or None a.seals b.seals (it.seal_count ∙ sym its.seal_count)
    (λ i low. let inside : i < tree_lines setup.shape = omega (arith, low, it.seal_count, count) in it.seals i inside ∙ sym (its.seals i inside)) in
    let setups = it.its_setup ∙ sym its.its_setup in
    let nodes = it.nodes ∙ sym its.nodes in
    let slots = it.slots ∙ sym its.slots in
    let exhibit = it.exhibit ∙ sym its.exhibit in
    λ i. record { setup = setups i; seals = seals i; nodes = nodes i; slots = slots i; exhibit = exhibit i }

pub formats_alike : TreeFormatIsDetermined
formats_alike setup lines old a b engine last told live count first second = search (rules, uncut_alike, watches_alike, first_engine-is)
