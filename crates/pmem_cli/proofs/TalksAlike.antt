-- Two talks of one trace from one state come to one stop, by the same replies, where a line has one reply in each state and
-- leaves one state.
use Rattle.std.proofs.Common.{◌≡◌, ◌≢◌, ◌∙◌, ◌+◌, ◌<◌, ◌≤◌, ℕ, List, [], ◌∷◌, ◌++◌, length, refl, sym, ap, subst, inl, inr, arith, append-nil, append_assoc}
use Rattle.std.specs.Prelude.{◌⊎◌, Option, None, Some}
use Rattle.std.specs.List.{flat_map}
use Rattle.std.specs.Io.KnownBytes.{Consumes}
use Rattle.pmem_base.specs.declared.commands.Kind.{Kind}
use Rattle.plain_model.specs.declared.Stop.{Stop}
use Rattle.plain_model.specs.declared.Stop.TheVariants.{Finished, Words, Memory, ReadFault, WriteFault, Refused, Shown, TooManyLines}
use Rattle.plain_model.specs.Lines.{lines_of, ended}
use Rattle.plain_model.specs.Run.{line_limit}
use Rattle.trace_text.specs.Talks.{Sort, skipped, asked, faulty}
use Rattle.trace_text.specs.Conversations.{Protocol, line_sort, AnswersOne, IsTalk, TalkEnds}
use Rattle.pmem_cli.proofs.LineLemmas.{lines_of-all_ended}
use Rattle.pmem_cli.proofs.ReplaysAlike.{IsOfTrace, IsBreak, IsFrontRun}

-- a line has one reply in each state, and it leaves one state
pub record IsExact {S X : Type 0} (p : Protocol S X) : Type 0 where
  pub answered : (old a b : S) (line : List ℕ) (x y : X) → p.answers old line x a → p.answers old line y b → (x ≡ y) × (a ≡ b)
  pub shown : (old a b : S) (line : List ℕ) (x y : X) → p.shows old line x a → p.shows old line y b → (x ≡ y) × (a ≡ b)
  pub apart : (old a b : S) (line : List ℕ) (x y : X) → p.answers old line x a → p.shows old line y b → ⊥

-- how what follows stops: from the state that it begins with, by these replies
abbrev Later : Type 0 → Type 0 → Type 1
Later S X = S → Stop → List X → Type 0

-- at a line of this sort, behind so many others
abbrev GoesAt : {S X : Type 0} → Protocol S X → S → ℕ → List ℕ → Later S X → Sort → Stop → List X → Type 0
GoesAt p state served line later (faulty kind) stop xs = (stop ≡ Refused (served + 1) kind) × (xs ≡ [])
GoesAt p state served line later skipped stop xs = later state stop xs
GoesAt {S} {X} p state served line later asked stop xs =
    ((x : X) × (next : S) × p.answers state line x next × ((rest : List X) × (xs ≡ x ∷ rest) × later next stop rest))
    ⊎ ((x : X) × (next : S) × p.shows state line x next × (stop ≡ Shown) × (xs ≡ x ∷ []))

-- behind so many lines, at the limit or by the lines that follow
abbrev Goes : {S X : Type 0} → Protocol S X → S → ℕ → List (List ℕ) → Stop → List X → Type 0
Goes p state served [] stop xs = (stop ≡ Finished) × (xs ≡ [])
Goes p state served (line ∷ lines) stop xs =
    ((served ≡ line_limit) × (stop ≡ TooManyLines) × (xs ≡ []))
    ⊎ ((served < line_limit) × GoesAt p state served line (λ next its rest. Goes p next (served + 1) lines its rest) (line_sort p line) stop xs)

module _ {S X : Type 0} (p : Protocol S X) where
  -- ---- past a front of lines

  past_one : (state next : S) (served : ℕ) (line : List ℕ) (later : Later S X) (here tail : List X) (stop : Stop) → AnswersOne p state line here next
      → later next stop tail → GoesAt p state served line later (line_sort p line) stop (here ++ tail)
  past_one state next served line later here tail stop (inl (its_sort, none, same)) goes =
      subst (λ k. GoesAt p state served line later k stop (here ++ tail)) (sym its_sort)
      (subst (λ (xs : List X). later state stop (xs ++ tail)) (sym none) (subst (λ (s : S). later s stop tail) same goes))
  past_one state next served line later here tail stop (inr (x, its_sort, one, answered)) goes =
      subst (λ k. GoesAt p state served line later k stop (here ++ tail)) (sym its_sort)
      (inl (x, next, answered, (tail, ap (λ (xs : List X). xs ++ tail) one, goes)))

  past : (state last : S) (served : ℕ) (before behind : List (List ℕ)) (xs tail : List X) (stop : Stop) → IsTalk p state before xs last
      → served + length before ≤ line_limit → Goes p last (served + length before) behind stop tail → Goes p state served (before ++ behind) stop (xs ++ tail)
  past state last served [] behind xs tail stop (none, same) within goes =
      let count : served + length {A = List ℕ} [] ≡ served = omega arith in
      subst (λ (ys : List X). Goes p state served behind stop (ys ++ tail)) (sym none)
      (subst (λ (s : S). Goes p s served behind stop tail) same (subst (λ n. Goes p last n behind stop tail) count goes))
  past state last served (line ∷ before) behind xs tail stop (next, here, later, answered, split, more) within goes =
      let count : (served + 1) + length before ≡ served + length (line ∷ before) = omega arith in
      let rest : Goes p next (served + 1) (before ++ behind) stop (later ++ tail) =
      past next last (served + 1) before behind later tail stop more (omega (arith, within))
      (subst (λ n. Goes p last n behind stop tail) (sym count) goes) in
      inr (
        omega (arith, within),
        subst (λ (ys : List X). GoesAt p state served line (λ next its rest. Goes p next (served + 1) (before ++ behind) its rest) (line_sort p line) stop ys)
            (sym (ap (λ (ys : List X). ys ++ tail) split ∙ append_assoc here later tail))
            (past_one state next served line (λ next its rest. Goes p next (served + 1) (before ++ behind) its rest) here (later ++ tail) stop answered rest),
      )

  -- ---- stops of the trace's own

  refused_here : (state : S) (served number : ℕ) (line : List ℕ) (behind : List (List ℕ)) (kind : Kind) → line_sort p line ≡ faulty kind
      → number ≡ served + 1 → served < line_limit → Goes p state served (line ∷ behind) (Refused number kind) []
  refused_here state served number line behind kind is numbered within =
      inr (
        within,
        subst (λ k. GoesAt p state served line (λ next its rest. Goes p next (served + 1) behind its rest) k (Refused number kind) []) (sym is)
            (ap (λ n. Refused n kind) numbered, refl),
      )

  shown_here : (state next : S) (served : ℕ) (line : List ℕ) (behind : List (List ℕ)) (x : X) → line_sort p line ≡ asked → p.shows state line x next
      → served < line_limit → Goes p state served (line ∷ behind) Shown (x ∷ [])
  shown_here state next served line behind x is shown within =
      inr (
        within,
        subst (λ k. GoesAt p state served line (λ next its rest. Goes p next (served + 1) behind its rest) k Shown (x ∷ [])) (sym is)
            (inr (x, next, shown, refl, refl)),
      )

  cut_off_here : (state : S) (served : ℕ) (behind : List (List ℕ)) → served ≡ line_limit → 0 < length behind → Goes p state served behind TooManyLines []
  cut_off_here state served [] full more = absurd (omega (arith, more))
  cut_off_here state served (line ∷ behind) full more = inl (full, refl, refl)

  pub goes_of : (stop : Stop) (first : S) (trace : List ℕ) (left : Option (List ℕ)) (xs : List X) → IsOfTrace stop → TalkEnds p first 0 stop trace left xs
      → Goes p first 0 (lines_of trace) stop xs
  goes_of Finished first trace left xs calm ends =
      let goes =
      past first ends.last 0 (lines_of trace) [] xs [] Finished ends.talk (omega (arith, ends.counted)) (refl, refl) in
      subst (λ (ls : List (List ℕ)). Goes p first 0 ls Finished xs) (append-nil (lines_of trace))
      (subst (λ (ys : List X). Goes p first 0 (lines_of trace ++ []) Finished ys) (append-nil xs) goes)
  goes_of Memory first trace left xs calm ends = absurd (calm.had_memory refl)
  goes_of Words first trace left xs calm ends = absurd ends
  goes_of ReadFault first trace left xs calm ends = absurd (calm.pulled refl)
  goes_of WriteFault first trace left xs calm ends = absurd (calm.pushed refl)
  goes_of (Refused number kind) first trace left xs calm ends =
      let goes =
      past first ends.last 0 ends.before (ends.line ∷ ends.behind) xs [] (Refused number kind) ends.talk (omega (arith, ends.numbered, ends.counted))
      (refused_here ends.last (0 + length ends.before) number ends.line ends.behind kind ends.refused (omega (arith, ends.numbered))
      (omega (arith, ends.numbered, ends.counted))) in
      subst (λ (ls : List (List ℕ)). Goes p first 0 ls (Refused number kind) xs) (sym ends.cut)
      (subst (λ (ys : List X). Goes p first 0 (ends.before ++ ends.line ∷ ends.behind) (Refused number kind) ys) (append-nil xs) goes)
  goes_of Shown first trace left xs calm ends =
      let goes =
      past first ends.middle 0 ends.before (ends.line ∷ ends.behind) ends.earlier (ends.last ∷ []) Shown ends.talk (omega (arith, ends.counted))
      (shown_here ends.middle ends.after (0 + length ends.before) ends.line ends.behind ends.last ends.its_sort ends.shown (omega (arith, ends.counted))) in
      subst (λ (ls : List (List ℕ)). Goes p first 0 ls Shown xs) (sym ends.cut)
      (subst (λ (ys : List X). Goes p first 0 (ends.before ++ ends.line ∷ ends.behind) Shown ys) (sym ends.all) goes)
  goes_of TooManyLines first trace left xs calm ends =
      let front = ends.front in
      let goes =
      past first front.last 0 front.before front.behind xs [] TooManyLines front.talk (omega (arith, ends.counted))
      (cut_off_here front.last (0 + length front.before) front.behind (omega (arith, ends.counted)) ends.more) in
      subst (λ (ls : List (List ℕ)). Goes p first 0 ls TooManyLines xs) (sym front.cut)
      (subst (λ (ys : List X). Goes p first 0 (front.before ++ front.behind) TooManyLines ys) (append-nil xs) goes)

  module _ (exact : IsExact p) where
    -- ---- two talks

    abbrev AreOne : Stop → Stop → List X → List X → Type 0
    AreOne stop other xs ys = (stop ≡ other) × (xs ≡ ys)

    one : (xs ys rest more : List X) (x y : X) → x ≡ y → rest ≡ more → xs ≡ x ∷ rest → ys ≡ y ∷ more → xs ≡ ys
    one xs ys rest more x y same others first second =
        first ∙ (ap (λ (z : X). z ∷ rest) same ∙ (ap (λ (zs : List X). y ∷ zs) others ∙ sym second))

    -- at a line, where what follows is one
    line_alike : (state : S) (served : ℕ) (line : List ℕ) (later : Later S X)
        → ((s : S) (stop other : Stop) (xs ys : List X) → later s stop xs → later s other ys → AreOne stop other xs ys) → (sort : Sort) (stop other : Stop)
        (xs ys : List X) → GoesAt p state served line later sort stop xs → GoesAt p state served line later sort other ys → AreOne stop other xs ys
    line_alike state served line later follows (faulty kind) stop other xs ys it its = (it.0 ∙ sym its.0, it.1 ∙ sym its.1)
    line_alike state served line later follows skipped stop other xs ys it its = follows state stop other xs ys it its
    line_alike state served line later follows asked stop other xs ys (inl it) (inl its) =
        let same = exact.answered state it.1 its.1 line it.0 its.0 it.2 its.2 in
        let others = follows its.1 stop other it.3.0 its.3.0 (subst (λ (s : S). later s stop it.3.0) same.1 it.3.2) its.3.2 in
        (others.0, one xs ys it.3.0 its.3.0 it.0 its.0 same.0 others.1 it.3.1 its.3.1)
    line_alike state served line later follows asked stop other xs ys (inl it) (inr its) = absurd (exact.apart state it.1 its.1 line it.0 its.0 it.2 its.2)
    line_alike state served line later follows asked stop other xs ys (inr it) (inl its) = absurd (exact.apart state its.1 it.1 line its.0 it.0 its.2 it.2)
    line_alike state served line later follows asked stop other xs ys (inr it) (inr its) =
        let same = exact.shown state it.1 its.1 line it.0 its.0 it.2 its.2 in
        (it.3 ∙ sym its.3, one xs ys [] [] it.0 its.0 same.0 refl it.4 its.4)

    goes_alike : (lines : List (List ℕ)) (state : S) (served : ℕ) (stop other : Stop) (xs ys : List X) → Goes p state served lines stop xs
        → Goes p state served lines other ys → AreOne stop other xs ys
    goes_alike [] state served stop other xs ys it its = (it.0 ∙ sym its.0, it.1 ∙ sym its.1)
    goes_alike (line ∷ lines) state served stop other xs ys (inl it) (inl its) = (it.1 ∙ sym its.1, it.2 ∙ sym its.2)
    goes_alike (line ∷ lines) state served stop other xs ys (inl it) (inr its) = absurd (omega (arith, it.0, its.0))
    goes_alike (line ∷ lines) state served stop other xs ys (inr it) (inl its) = absurd (omega (arith, it.0, its.0))
    goes_alike (line ∷ lines) state served stop other xs ys (inr it) (inr its) =
        line_alike state served line (λ next its rest. Goes p next (served + 1) lines its rest)
        (λ s stop other xs ys. goes_alike lines s (served + 1) stop other xs ys) (line_sort p line) stop other xs ys it.1 its.1

    pub talks_alike : (first : S) (trace : List ℕ) (stop other : Stop) (left rest : Option (List ℕ)) (xs ys : List X) → IsOfTrace stop → IsOfTrace other
        → TalkEnds p first 0 stop trace left xs → TalkEnds p first 0 other trace rest ys → AreOne stop other xs ys
    talks_alike first trace stop other left rest xs ys calm quiet it its =
        goes_alike (lines_of trace) first 0 stop other xs ys (goes_of stop first trace left xs calm it) (goes_of other first trace rest ys quiet its)

    -- ---- a talk that was broken off

    abbrev Fronts : List X → List X → Type 0
    Fronts xs ys = (more : List X) × (ys ≡ xs ++ more)

    front_one : (state next : S) (served : ℕ) (line : List ℕ) (before behind : List (List ℕ)) (here later ys : List X) (other : Stop)
        → ((s : S) (zs : List X) → s ≡ next → Goes p s (served + 1) (before ++ behind) other zs → Fronts later zs) → AnswersOne p state line here next
        → GoesAt p state served line (λ next its rest. Goes p next (served + 1) (before ++ behind) its rest) (line_sort p line) other ys
        → Fronts (here ++ later) ys
    front_one state next served line before behind here later ys other follows (inl (its_sort, none, same)) goes =
        let rest =
        follows state ys (sym same)
        (subst (λ k. GoesAt p state served line (λ next its rest. Goes p next (served + 1) (before ++ behind) its rest) k other ys) its_sort goes) in
        (rest.0, rest.1 ∙ ap (λ (zs : List X). (zs ++ later) ++ rest.0) (sym none))
    front_one state next served line before behind here later ys other follows (inr (x, its_sort, one, answered)) goes =
        elim (subst (λ k. GoesAt p state served line (λ next its rest. Goes p next (served + 1) (before ++ behind) its rest) k other ys) its_sort goes) [
          | inl its ↦
              let same = exact.answered state next its.1 line x its.0 answered its.2 in
              let rest = follows its.1 its.3.0 (sym same.1) its.3.2 in (
                rest.0,
                its.3.1 ∙ (ap (λ (zs : List X). its.0 ∷ zs) rest.1
                    ∙ (ap (λ (y : X). y ∷ (later ++ rest.0)) (sym same.0) ∙ ap (λ (zs : List X). (zs ++ later) ++ rest.0) (sym one))),
              )
          | inr its ↦ absurd (exact.apart state next its.1 line x its.0 answered its.2)
        ]

    front_of : (before behind : List (List ℕ)) (state last : S) (served : ℕ) (xs ys : List X) (other : Stop) → IsTalk p state before xs last
        → served + length before ≤ line_limit → Goes p state served (before ++ behind) other ys → Fronts xs ys
    front_of [] behind state last served xs ys other (none, same) within goes = (ys, ap (λ (zs : List X). zs ++ ys) (sym none))
    front_of (line ∷ before) behind state last served xs ys other talk within (inl full) = absurd (omega (arith, full.0, within))
    front_of (line ∷ before) behind state last served xs ys other (next, here, later, answered, split, more) within (inr goes) =
        subst (λ (zs : List X). Fronts zs ys) (sym split)
        (front_one state next served line before behind here later ys other
        (λ s zs same rest.
        front_of before behind next last (served + 1) later zs other more (omega (arith, within))
        (subst (λ (t : S). Goes p t (served + 1) (before ++ behind) other zs) same rest))
        answered goes.1)

    module _ (first : S) (trace : List ℕ) (other : Stop) (left rest : Option (List ℕ)) (xs ys : List X) (quiet : IsOfTrace other)
        (finishes : TalkEnds p first 0 other trace rest ys) where
      -- it came to a stop of the trace's own
      stopped : (stop : Stop) → IsOfTrace stop → TalkEnds p first 0 stop trace left xs → IsFrontRun stop other xs ys
      stopped stop calm ends = inl (talks_alike first trace stop other left rest xs ys calm quiet ends finishes)

      fronted : (stop : Stop) (before behind : List (List ℕ)) (last : S) → IsBreak stop → lines_of trace ≡ before ++ behind → length before ≤ line_limit
          → IsTalk p first before xs last → IsFrontRun stop other xs ys
      fronted stop before behind last broken cut within talk =
          let front =
          front_of before behind first last 0 xs ys other talk (omega (arith, within))
          (subst (λ (ls : List (List ℕ)). Goes p first 0 ls other ys) cut (goes_of other first trace rest ys quiet finishes)) in
          inr (broken, front.0, front.1)

      pub talks_front : (stop : Stop) → TalkEnds p first 0 stop trace left xs → IsFrontRun stop other xs ys
      talks_front Finished ends = stopped Finished (record { had_memory = λ is. cc; pulled = λ is. cc; pushed = λ is. cc }) ends
      talks_front Memory ends = fronted Memory ends.before (ends.line ∷ ends.behind) ends.last (inl refl) ends.cut (omega (arith, ends.counted)) ends.talk
      talks_front Words ends = absurd ends
      talks_front ReadFault ends =
          let its : (left_bytes : List ℕ) × (trace ≡ (flat_map ended ends.before ++ ends.part) ++ left_bytes) =
          consumed left trace (flat_map ended ends.before ++ ends.part) ends.taken in
          fronted ReadFault ends.before (lines_of (ends.part ++ its.0)) ends.last (inr (inl refl))
          (ap lines_of (its.1 ∙ append_assoc (flat_map ended ends.before) ends.part its.0) ∙ lines_of-all_ended ends.before (ends.part ++ its.0) ends.whole)
          (omega (arith, ends.counted)) ends.talk
        where
          consumed : (left : Option (List ℕ)) (bytes part : List ℕ) → Consumes (Some bytes) left part → (rest : List ℕ) × (bytes ≡ part ++ rest)
          consumed None bytes part taken = absurd taken
          consumed (Some rest) bytes part taken = (rest, taken)
      talks_front WriteFault (inl ends) =
          fronted WriteFault ends.front.before ends.front.behind ends.front.last (inr (inr refl)) ends.front.cut (omega (arith, ends.counted)) ends.front.talk
      talks_front WriteFault (inr ends) =
          let same =
          talks_alike first trace Shown other left rest xs ys (record { had_memory = λ is. cc; pulled = λ is. cc; pushed = λ is. cc }) quiet ends finishes in
          inr (inr (inr refl), [], sym same.1 ∙ sym (append-nil xs))
      talks_front (Refused number kind) ends =
          stopped (Refused number kind) (record { had_memory = λ is. cc; pulled = λ is. cc; pushed = λ is. cc }) ends
      talks_front Shown ends = stopped Shown (record { had_memory = λ is. cc; pulled = λ is. cc; pushed = λ is. cc }) ends
      talks_front TooManyLines ends = stopped TooManyLines (record { had_memory = λ is. cc; pulled = λ is. cc; pushed = λ is. cc }) ends
