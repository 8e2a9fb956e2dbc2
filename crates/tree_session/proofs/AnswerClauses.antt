-- Answers as contracts write them: the suite's keys stay.
use Rattle.std.proofs.Common.{ℕ, ◌≡◌, List, Option, Some, None, inl, refl, sym, ap, subst, ◌∙◌, rules}
use Rattle.tree_session.proofs.Common.{Result, IsSome, option_map, same_Some, Exhibit, Shape, Formulas, Setup, BoardMemory, WatchState, Taken, steps_in, IsWatched, TreeFault, TreeState, AreSmallMinors, Halt, TreeCommand, TreeAnswer, SessionState, tree_setup_in, TreeParts, state_of, IsTreeWorld, IsTreeAnswered, IsTreeHalt, IsEngineShown}
use Rattle.trace_text.specs.declared.talk.Halt.TheVariants as Stop
use Rattle.tree_session.proofs.Worlds.{TreeEngineCall, on}

-- the geometry, and the formulas under keys
abbrev pub setup_under : (List ℕ → Formulas) → Shape → List ℕ → Setup
setup_under formulas_of g keys = record { shape = g; formulas = formulas_of keys }

-- what holds of a state before and one after, as a contract writes it
pub seen_from : (formulas_of : List ℕ → Formulas) (g : Shape) (p q : TreeParts) (now : SessionState) (keys : List ℕ)
    (Q : Setup → SessionState → SessionState → Type 0) → state_of (setup_under formulas_of g p.keys) p ≡ now → keys ≡ p.keys → q.keys ≡ p.keys
    → Q (setup_under formulas_of g p.keys) (state_of (setup_under formulas_of g p.keys) p) (state_of (setup_under formulas_of g p.keys) q)
    → Q (tree_setup_in formulas_of now) now (state_of (setup_under formulas_of g keys) (record q { keys = keys }))
seen_from formulas_of g p q now keys Q is same its it = search rules

pub held_under : (formulas_of : List ℕ → Formulas) (g : Shape) (p q : TreeParts) (keys : List ℕ) → keys ≡ p.keys
    → IsTreeWorld (setup_under formulas_of g p.keys) (record q { keys = p.keys }) → IsTreeWorld (setup_under formulas_of g keys) (record q { keys = keys })
held_under formulas_of g p q keys same it =
    subst (λ (k : List ℕ). IsTreeWorld (setup_under formulas_of g k) (record q { keys = k })) (sym same) it

-- ---- a call of the engine, as the fields of a session have it

pub record WorldCall : Type 0 where
  pub formulas_of : List ℕ → Formulas
  pub geometry : Shape
  pub parts : TreeParts
  pub now : SessionState
  pub is : state_of (setup_under formulas_of geometry parts.keys) parts ≡ now
  pub world : IsTreeWorld (setup_under formulas_of geometry parts.keys) parts
  pub unshown : now.shown ≡ None
  pub engine : TreeState
  pub there : parts.engine ≡ Some engine
  pub after : TreeState
  pub keys : List ℕ
  pub same_keys : keys ≡ parts.keys
  pub pads : ℕ
  pub tags : ℕ
  pub digests : ℕ
  pub board : BoardMemory
  pub watch : WatchState
  pub taken : Taken
  pub watched : IsWatched parts.board board taken
  pub said : ℕ
  pub counted : said ≡ steps_in taken

module _ (w : WorldCall) where
  abbrev pub setup_of : Setup
  setup_of = setup_under w.formulas_of w.geometry w.parts.keys

  pub none_of : w.parts.watch.exhibit ≡ None
  none_of = ap (λ (s : SessionState). s.shown) w.is ∙ w.unshown

  abbrev pub call : TreeEngineCall
  call =
      record {
        setup = setup_under w.formulas_of w.geometry w.parts.keys;
        parts = w.parts;
        engine = w.engine;
        after = w.after;
        pads = w.pads;
        tags = w.tags;
        digests = w.digests;
        board = w.board;
        watch = w.watch;
        taken = w.taken;
        world = w.world;
        none = none_of;
        there = w.there;
        watched = w.watched;
      }

  pub shape_is : w.engine.shape ≡ w.geometry
  shape_is = (on call).its_shape

  -- what holds of an answer under the engine's geometry holds under the session's
  pub as_known : {A : Type 0} (Q : Setup → Result A TreeFault → Type 0) (answer known : Result A TreeFault) → answer ≡ known
      → Q (setup_under w.formulas_of w.engine.shape w.parts.keys) answer → Q setup_of known
  as_known Q answer known is it = subst (Q setup_of) is (subst (λ (s : Shape). Q (setup_under w.formulas_of s w.parts.keys) answer) shape_is it)

  -- an answer with its steps
  pub seen : (q : TreeParts) (command : TreeCommand) (answer : ℕ → TreeAnswer) → q.keys ≡ w.parts.keys
      → IsTreeAnswered setup_of (state_of setup_of w.parts) command (answer (steps_in w.taken)) (state_of setup_of q)
      → IsTreeAnswered (tree_setup_in w.formulas_of w.now) w.now command (answer w.said) (state_of (setup_under w.formulas_of w.geometry w.keys) (record q { keys = w.keys }))
  seen q command answer its it =
      subst (λ (n : ℕ). IsTreeAnswered (tree_setup_in w.formulas_of w.now) w.now command (answer n) (state_of (setup_under w.formulas_of w.geometry w.keys) (record q { keys = w.keys }))) (sym w.counted)
      (seen_from w.formulas_of w.geometry w.parts q w.now w.keys (λ setup old new. IsTreeAnswered setup old command (answer (steps_in w.taken)) new) w.is w.same_keys its it)

  pub held : (q : TreeParts) → IsTreeWorld setup_of (record q { keys = w.parts.keys }) → IsTreeWorld (setup_under w.formulas_of w.geometry w.keys) (record q { keys = w.keys })
  held q it = held_under w.formulas_of w.geometry w.parts q w.keys w.same_keys it

-- ---- exhibits

pub some_of : {X : Type 0} (found : Option X) → IsSome found → (x : X) × (found ≡ Some x)
some_of None is = absurd (Rattle.std.proofs.lemmas.Bool.false≢true is)
some_of (Some x) is = (x, refl)

halt-is : (halt : Halt) (exhibit : Exhibit) (found : Option Exhibit) → Some halt ≡ option_map Stop.Shown found → found ≡ Some exhibit → Stop.Shown exhibit ≡ halt
halt-is halt exhibit found told is = same_Some (Stop.Shown exhibit) halt (sym (told ∙ ap (option_map Stop.Shown) is))

-- the session stops at an exhibit
pub halts : (formulas_of : List ℕ → Formulas) (g : Shape) (p q : TreeParts) (now : SessionState) (keys : List ℕ) (command : TreeCommand) (halt : Halt) (exhibit : Exhibit)
    (found : Option Exhibit) → state_of (setup_under formulas_of g p.keys) p ≡ now → keys ≡ p.keys → q.keys ≡ p.keys → Some halt ≡ option_map Stop.Shown found → found ≡ Some exhibit → AreSmallMinors exhibit
    → IsEngineShown (setup_under formulas_of g p.keys) (state_of (setup_under formulas_of g p.keys) p) command exhibit (state_of (setup_under formulas_of g p.keys) q)
    → IsTreeHalt (tree_setup_in formulas_of now) now command halt (state_of (setup_under formulas_of g keys) (record q { keys = keys }))
halts formulas_of g p q now keys command halt exhibit found is same its told there minors it =
    subst (λ h. IsTreeHalt (tree_setup_in formulas_of now) now command h (state_of (setup_under formulas_of g keys) (record q { keys = keys }))) (halt-is halt exhibit found told there)
    (inl (seen_from formulas_of g p q now keys (λ setup old new. IsEngineShown setup old command exhibit new) is same its it), minors)
