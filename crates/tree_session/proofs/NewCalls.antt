-- A new session, as its fields have it.
use Rattle.std.proofs.Common.{ℕ, ◌≡◌, ◌+◌, false, Bool, List, Some, None, ap, subst, sym, ◌∙◌}
use Rattle.tree_session.proofs.Common.{All, replicate, IsLine, Shape, IsShape, Formulas, AreInRange, Setup, BoardMemory, device_of, new_memory, new_watch, tree_lines, tree_size, WatchState, TreeState, HasTreeFormatted, rest_of, IsNewTree, TreeParts, state_of, IsTreeWorld}
use Rattle.pmem_base.specs.Counts.{risen_times}
use Rattle.pmem_base.specs.Layout.{meta_lines}
use Rattle.counter_tree.specs.Shadow.{shadow_digests}
use Rattle.tree_session.specs.State.{IsFormattedTree}
use Rattle.tree_session.proofs.NewWorlds.{new_held, new_is}
use Rattle.tree_session.proofs.AnswerClauses.{setup_under}

pub record NewTreeCall : Type 0 where
  pub formulas_of : List ℕ → Formulas
  pub geometry : Shape
  pub keys : List ℕ
  pub watch_keys : List ℕ
  pub same_watch_keys : watch_keys ≡ keys
  pub shape : IsShape geometry
  pub in_range : AreInRange (formulas_of keys)
  pub size : ℕ
  pub its_size : size ≡ tree_size geometry
  pub first_board : BoardMemory
  pub board_is : first_board ≡ new_memory size
  pub first_watch : WatchState
  pub watch_is : first_watch ≡ new_watch (setup_under formulas_of geometry watch_keys)
  pub pads : ℕ
  pub tags : ℕ
  pub digests : ℕ
  pub engine : TreeState
  pub board : BoardMemory
  pub watch : WatchState
  pub formatted :
      HasTreeFormatted (setup_under formulas_of geometry keys) (rest_of (device_of first_board) first_watch) (rest_of (device_of board) watch) engine
  pub each : All IsLine board.lines
  pub snapshot : board.snapshot ≡ None
  pub tampered : List Bool
  pub tampered_is : tampered ≡ replicate (tree_size geometry) false
  pub hurt : List Bool
  pub hurt_is : hurt ≡ replicate (tree_lines geometry) false
  pub keys_then : List ℕ
  pub same_keys : keys_then ≡ keys

module _ (n : NewTreeCall) where
  abbrev setup : Setup
  setup = setup_under n.formulas_of n.geometry n.keys

  made : HasTreeFormatted setup (rest_of (device_of (new_memory (tree_size n.geometry))) (new_watch setup)) (rest_of (device_of n.board) n.watch) n.engine
  made =
      subst (λ (k : List ℕ). HasTreeFormatted setup (rest_of (device_of (new_memory (tree_size n.geometry))) (new_watch (setup_under n.formulas_of n.geometry k))) (rest_of (device_of n.board) n.watch) n.engine) n.same_watch_keys
      (subst (λ (w : WatchState). HasTreeFormatted setup (rest_of (device_of (new_memory (tree_size n.geometry))) w) (rest_of (device_of n.board) n.watch) n.engine) n.watch_is
      (subst (λ (b : BoardMemory). HasTreeFormatted setup (rest_of (device_of b) n.first_watch) (rest_of (device_of n.board) n.watch) n.engine) (n.board_is ∙ ap new_memory n.its_size)
      n.formatted))

  abbrev pub with_flags : List Bool → List Bool → List ℕ → TreeParts
  with_flags tampered hurt keys = record { keys = keys; pads = n.pads; tags = n.tags; digests = n.digests; board = n.board; watch = n.watch; engine = Some n.engine; tampered = tampered; hurt = hurt }

  pub held : IsTreeWorld (setup_under n.formulas_of n.geometry n.keys_then) (with_flags n.tampered n.hurt n.keys_then)
  held =
      subst (λ (k : List ℕ). IsTreeWorld (setup_under n.formulas_of n.geometry k) (with_flags n.tampered n.hurt k)) (sym n.same_keys)
      (subst (λ (t : List Bool). IsTreeWorld setup (with_flags t n.hurt n.keys)) (sym n.tampered_is)
      (subst (λ (h : List Bool). IsTreeWorld setup (with_flags (replicate (tree_size n.geometry) false) h n.keys)) (sym n.hurt_is)
      (new_held setup n.keys n.pads n.tags n.digests n.engine n.board n.watch n.shape n.in_range made n.each n.snapshot)))

  pub is_new : IsNewTree setup (state_of (setup_under n.formulas_of n.geometry n.keys_then) (with_flags n.tampered n.hurt n.keys_then))
  is_new =
      subst (λ (k : List ℕ). IsNewTree setup (state_of (setup_under n.formulas_of n.geometry k) (with_flags n.tampered n.hurt k))) (sym n.same_keys)
      (subst (λ (t : List Bool). IsNewTree setup (state_of setup (with_flags t n.hurt n.keys))) (sym n.tampered_is)
      (subst (λ (h : List Bool). IsNewTree setup (state_of setup (with_flags (replicate (tree_size n.geometry) false) h n.keys))) (sym n.hurt_is)
      (new_is setup n.keys n.pads n.tags n.digests n.engine n.board n.watch n.shape n.in_range made n.each n.snapshot)))

  pub is_formatted : (pads tags digests : ℕ) → n.pads ≡ risen_times (tree_lines n.geometry) pads
      → n.tags ≡ risen_times (tree_lines n.geometry + meta_lines n.geometry) tags → n.digests ≡ risen_times (shadow_digests n.geometry) digests
      → IsFormattedTree setup pads tags digests (state_of (setup_under n.formulas_of n.geometry n.keys_then) (with_flags n.tampered n.hurt n.keys_then))
  is_formatted pads tags digests its_pads its_tags its_digests =
      record { follows = made.device.plan; its_pads = its_pads; its_tags = its_tags; its_digests = its_digests }
