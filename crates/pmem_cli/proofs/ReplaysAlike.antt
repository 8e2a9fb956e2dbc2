-- Two runs of one trace over new worlds come to one stop, by the same steps.
use Rattle.std.proofs.Common.{◌≡◌, ◌≢◌, ◌∙◌, ◌<◌, ◌≤◌, ℕ, false, List, [], ◌∷◌, ◌++◌, length, refl, sym, ap, subst, inl, inr, arith, append-nil, append_assoc, ◌+◌}
use Rattle.std.specs.Prelude.{All, IsOk, map, Option, ◌⊎◌, Some, None}
use Rattle.std.proofs.lemmas.List.{length-map, map-append}
use Rattle.std.proofs.lemmas.List.Elements.{All-head, All-tail, All-cons, All-nil}
use Rattle.pmem_base.specs.declared.commands.Command.{Command}
use Rattle.pmem_base.specs.declared.commands.Kind.{Kind}
use Rattle.suite.specs.Setup.{Setup}
use Rattle.plain_model.specs.declared.Stop.{Stop}
use Rattle.plain_model.specs.declared.Stop.TheVariants.{Finished, Words, Memory, ReadFault, WriteFault, Refused, Shown, TooManyLines}
use Rattle.plain_model.specs.Answers.{is_shown}
use Rattle.plain_model.specs.Grammar.{Reading, reading_of}
use Rattle.plain_model.specs.Lines.{lines_of, ended}
use Rattle.plain_model.specs.Run.{Step, start, line_limit, commands_of, commands_asked, IsRunFrom, IsFinishedFrom, IsRefusedFrom, IsShownFrom, IsCutOffFrom, Ends, IsMemoryWanted}
use Rattle.plain_model.specs.State.{Reply}
use Rattle.pmem_replay.specs.World.{WorldState, IsWorld}
use Rattle.pmem_replay.specs.Determined.{AreAlike}
use Rattle.pmem_replay.proofs.SameSteps.NewWorldsAlike.{new_worlds_alike}
use Rattle.pmem_replay.proofs.SameSteps.StepsAlike.{steps_alike}
use Rattle.pmem_cli.specs.Standing.{IsFirstWorld, IsWorldStep, AreStepped, IsReplayed}
use Rattle.pmem_cli.proofs.RunsAlike as runs
use Rattle.std.specs.List.{flat_map}
use Rattle.std.specs.Io.KnownBytes.{Consumes}
use Rattle.pmem_cli.proofs.LineLemmas.{lines_of-all_ended}

-- ---- lines, as they are read

abbrev read_all : List (List ℕ) → List Reading
read_all lines = map reading_of lines

read_commands : (lines : List (List ℕ)) → commands_of lines ≡ runs.asked_by (read_all lines)
read_commands [] = refl
read_commands (line ∷ lines) = ap (λ (cs : List Command). commands_asked (reading_of line) ++ cs) (read_commands lines)

all_read : (lines : List (List ℕ)) → All (λ line. IsOk (reading_of line)) lines → All IsOk (read_all lines)
all_read [] ok = All-nil IsOk
all_read (line ∷ lines) ok =
    All-cons IsOk (reading_of line) (read_all lines) (All-head (λ line. IsOk (reading_of line)) line lines ok)
    (all_read lines (All-tail (λ line. IsOk (reading_of line)) line lines ok))

-- ---- how a run of a world stops

-- neither was memory wanted, nor did a pull or a push fail
pub record IsOfTrace (stop : Stop) : Type 0 where
  pub had_memory : stop ≢ Memory
  pub pulled : stop ≢ ReadFault
  pub pushed : stop ≢ WriteFault

-- ---- a run that was broken off

-- it stops before the trace does
abbrev pub IsBreak : Stop → Type 0
IsBreak stop = (stop ≡ Memory) ⊎ ((stop ≡ ReadFault) ⊎ (stop ≡ WriteFault))

-- one run is the other, or a front of it
abbrev pub IsFrontRun : {X : Type 0} → Stop → Stop → List X → List X → Type 0
IsFrontRun {X} stop other xs ys = ((stop ≡ other) × (xs ≡ ys)) ⊎ (IsBreak stop × (rest : List X) × (ys ≡ xs ++ rest))

module _ (setup : Setup) where
  -- the world answers a command
  abbrev pub answers : WorldState → Command → Reply → WorldState → Type 0
  answers world command reply next = IsWorldStep setup world (runs.told command reply) next

  abbrev StopsBy : WorldState → ℕ → List Reading → Stop → List Step → Type 0
  StopsBy world served readings stop xs = runs.Stops answers line_limit world served readings stop xs

  pub chain_of : (limit : ℕ) (world last : WorldState) (xs : List Step) → AreStepped setup world xs last → runs.Chain answers limit world xs last
  chain_of limit world last [] chain = chain
  chain_of limit world last (x ∷ xs) (next, stepped, more) = (next, stepped, chain_of limit next last xs more)

  run_of : (world last : WorldState) (lines : List (List ℕ)) (xs : List Step) → IsRunFrom setup (start setup) lines xs
      → AreStepped setup world xs last → runs.AreRun answers line_limit world (runs.asked_by (read_all lines)) xs last
  run_of world last lines xs run chain =
      record {
        in_order = run.commands_in_order ∙ read_commands lines;
        hidden = run.none_shown;
        chain = chain_of line_limit world last xs chain;
      }

  -- a front of the lines is run, and then the run stops
  past : (world last : WorldState) (lines before behind : List (List ℕ)) (xs tail : List Step) (stop : Stop) → lines ≡ before ++ behind
      → length before ≤ line_limit → IsRunFrom setup (start setup) before xs → AreStepped setup world xs last
      → StopsBy last (length before) (read_all behind) stop tail → StopsBy world 0 (read_all lines) stop (xs ++ tail)
  past world last lines before behind xs tail stop cut within run chain stops =
      subst (λ rs. StopsBy world 0 rs stop (xs ++ tail)) (sym (ap read_all cut ∙ map-append reading_of before behind))
      (runs.past_front answers line_limit world last 0 (length before) (read_all before) (read_all behind) xs tail stop
      (omega (arith, length-map before reading_of)) within (all_read before run.in_grammar) (run_of world last before xs run chain) stops)

  -- the chain of a front, and of what follows it
  pub chain_cut : (world last : WorldState) (xs ys : List Step) → AreStepped setup world (xs ++ ys) last
      → (middle : WorldState) × AreStepped setup world xs middle × AreStepped setup middle ys last
  chain_cut world last [] ys chain = (world, refl, chain)
  chain_cut world last (x ∷ xs) ys (next, stepped, more) =
      let rest = chain_cut next last xs ys more in
      (rest.0, (next, stepped, rest.1), rest.2)

  stops_finished : (world last : WorldState) (lines : List (List ℕ)) (xs : List Step) → IsFinishedFrom setup (start setup) 0 lines xs
      → AreStepped setup world xs last → StopsBy world 0 (read_all lines) Finished xs
  stops_finished world last lines xs ends chain =
      subst (λ (ys : List Step). StopsBy world 0 (read_all lines) Finished ys) (append-nil xs)
      (past world last lines lines [] xs [] Finished (sym (append-nil lines)) (omega (arith, ends.counted)) ends.run chain (refl, refl))

  stops_refused : (world last : WorldState) (lines : List (List ℕ)) (xs : List Step) (number : ℕ) (kind : Kind)
      → IsRefusedFrom setup (start setup) 0 lines xs number kind → AreStepped setup world xs last
      → StopsBy world 0 (read_all lines) (Refused number kind) xs
  stops_refused world last lines xs number kind ends chain =
      let now = length ends.before in
      let within : now < line_limit = omega (arith, ends.numbered, ends.counted) in
      subst (λ (ys : List Step). StopsBy world 0 (read_all lines) (Refused number kind) ys) (append-nil xs)
      (past world last lines ends.before (ends.line ∷ ends.behind) xs [] (Refused number kind) ends.cut (omega (arith, within)) ends.run chain
      (runs.refused_here answers line_limit last now number (reading_of ends.line) (read_all ends.behind) kind ends.refused
      (omega (arith, ends.numbered)) within))

  stops_shown : (world last : WorldState) (lines : List (List ℕ)) (xs : List Step) → IsShownFrom setup (start setup) 0 lines xs
      → AreStepped setup world xs last → StopsBy world 0 (read_all lines) Shown xs
  stops_shown world last lines xs ends chain =
      let now = length ends.before in
      let within : now < line_limit = omega (arith, ends.counted) in
      let cut = chain_cut world last ends.first (ends.last ∷ []) (subst (λ (ys : List Step). AreStepped setup world ys last) ends.all chain) in
      subst (λ (ys : List Step). StopsBy world 0 (read_all lines) Shown ys) (sym ends.all)
      (past world cut.0 lines ends.before (ends.line ∷ ends.behind) ends.first (ends.last ∷ []) Shown ends.cut (omega (arith, within)) ends.run cut.1
      (runs.shown_here answers line_limit cut.0 cut.2.0 now (reading_of ends.line) (read_all ends.behind) ends.last ends.asked cut.2.1
      (ap is_shown ends.shown) within))

  stops_cut_off : (world last : WorldState) (lines : List (List ℕ)) (xs : List Step) → IsCutOffFrom setup (start setup) 0 lines xs
      → AreStepped setup world xs last → StopsBy world 0 (read_all lines) TooManyLines xs
  stops_cut_off world last lines xs ends chain =
      let front = ends.front in
      let now = length front.before in
      subst (λ (ys : List Step). StopsBy world 0 (read_all lines) TooManyLines ys) (append-nil xs)
      (past world last lines front.before front.behind xs [] TooManyLines front.cut (omega (arith, ends.counted)) front.run chain
      (runs.cut_off_here answers line_limit last now (read_all front.behind) (omega (arith, ends.counted))
      (omega (arith, ends.more, length-map front.behind reading_of))))

  stops_by : (world last : WorldState) (stop : Stop) (trace : List ℕ) (left : Option (List ℕ)) (xs : List Step) → IsOfTrace stop
      → Ends setup stop trace left xs → AreStepped setup world xs last → StopsBy world 0 (read_all (lines_of trace)) stop xs
  stops_by world last Finished trace left xs calm ends chain = stops_finished world last (lines_of trace) xs ends chain
  stops_by world last Memory trace left xs calm ends chain = absurd (calm.had_memory refl)
  stops_by world last Words trace left xs calm ends chain = absurd ends
  stops_by world last ReadFault trace left xs calm ends chain = absurd (calm.pulled refl)
  stops_by world last WriteFault trace left xs calm ends chain = absurd (calm.pushed refl)
  stops_by world last (Refused number kind) trace left xs calm ends chain = stops_refused world last (lines_of trace) xs number kind ends chain
  stops_by world last Shown trace left xs calm ends chain = stops_shown world last (lines_of trace) xs ends chain
  stops_by world last TooManyLines trace left xs calm ends chain = stops_cut_off world last (lines_of trace) xs ends chain

  -- ---- two runs

  -- worlds from which a command has one reply
  pub record AreRunning (a b : WorldState) : Type 0 where
    pub whole : IsWorld setup a
    pub alike : AreAlike a b
    pub unshown : a.shown ≡ false

  pub one_reply : (a b next after : WorldState) (command : Command) (reply another : Reply) → AreRunning a b → answers a command reply next
      → answers b command another after → (reply ≡ another) × (is_shown reply.answer ≡ false → AreRunning next after)
  one_reply a b next after command reply another same went gone =
      let both = steps_alike setup a b next after command reply another same.whole same.alike (same.alike.state same.unshown) went.stepped gone.stepped in (
        both.0,
        λ hidden. record { whole = went.stepped.holds hidden; alike = both.1; unshown = went.stepped.shown ∙ hidden },
      )

  -- the world that answered, as memory for it was had
  pub first_of : (stop : Stop) (xs : List Step) → stop ≢ Memory → IsReplayed setup stop xs
      → (first last : WorldState) × IsFirstWorld setup first × AreStepped setup first xs last
  first_of stop xs had (inl none) = absurd (had none.0)
  first_of stop xs had (inr found) = found

  -- first worlds are alike
  pub begun : (a b : WorldState) → IsFirstWorld setup a → IsFirstWorld setup b → AreRunning a b
  begun a b first second =
      let same =
      new_worlds_alike setup a b first.new second.new (first.work.tags ∙ sym second.work.tags) (first.work.digests ∙ sym second.work.digests) in
      record { whole = first.new.holds; alike = same; unshown = first.new.not_shown }

  -- runs of one trace come to one stop by the same steps
  pub replays_alike : (trace : List ℕ) (stop other : Stop) (left rest : Option (List ℕ)) (xs ys : List Step) → IsOfTrace stop → IsOfTrace other
      → Ends setup stop trace left xs → Ends setup other trace rest ys → IsReplayed setup stop xs → IsReplayed setup other ys
      → (stop ≡ other) × (xs ≡ ys)
  replays_alike trace stop other left rest xs ys calm quiet ends finishes replayed run =
      let a = first_of stop xs calm.had_memory replayed in
      let b = first_of other ys quiet.had_memory run in
      runs.stops_alike answers line_limit AreRunning one_reply 0 (read_all (lines_of trace)) a.0 b.0 stop other xs ys (begun a.0 b.0 a.2 b.2)
      (stops_by a.0 a.1 stop trace left xs calm ends a.3) (stops_by b.0 b.1 other trace rest ys quiet finishes b.3)

  -- ---- a run that was broken off

  wanted_within : (served : ℕ) (lines : List (List ℕ)) → IsMemoryWanted served lines → served ≤ line_limit
  wanted_within served [] wanted = absurd wanted
  wanted_within served (line ∷ lines) wanted = omega (arith, wanted.1)

  -- a run of a front of the lines, beside one that came to its stop
  pub front_of : (trace : List ℕ) (before behind : List (List ℕ)) (a last b end : WorldState) (other : Stop) (rest : Option (List ℕ)) (xs ys : List Step)
      → AreRunning a b → lines_of trace ≡ before ++ behind → length before ≤ line_limit → IsRunFrom setup (start setup) before xs → AreStepped setup a xs last
      → IsOfTrace other → Ends setup other trace rest ys → AreStepped setup b ys end → (more : List Step) × (ys ≡ xs ++ more)
  front_of trace before behind a last b end other rest xs ys running cut within run chain quiet finishes stepped =
      runs.front_alike answers line_limit AreRunning one_reply 0 (read_all before) (read_all behind) last other (all_read before run.in_grammar)
      (omega (arith, within, length-map before reading_of)) a b xs ys running (run_of a last before xs run chain)
      (subst (λ rs. StopsBy b 0 rs other ys) (ap read_all cut ∙ map-append reading_of before behind) (stops_by b end other trace rest ys quiet finishes stepped))

  module _ (trace : List ℕ) (other : Stop) (left rest : Option (List ℕ)) (xs ys : List Step) (quiet : IsOfTrace other) (finishes : Ends setup other trace rest ys)
      (run : IsReplayed setup other ys) where
    -- it came to a stop of the trace's own
    stopped : (stop : Stop) → IsOfTrace stop → Ends setup stop trace left xs → IsReplayed setup stop xs → IsFrontRun stop other xs ys
    stopped stop calm ends replayed = inl (replays_alike trace stop other left rest xs ys calm quiet ends finishes replayed run)

    pub fronted : (stop : Stop) (before behind : List (List ℕ)) → IsBreak stop → lines_of trace ≡ before ++ behind → length before ≤ line_limit
        → IsRunFrom setup (start setup) before xs → IsReplayed setup stop xs → IsFrontRun stop other xs ys
    fronted stop before behind broken cut within ran (inl none) = inr (broken, ys, ap (λ (zs : List Step). zs ++ ys) (sym none.1))
    fronted stop before behind broken cut within ran (inr a) =
        let b = first_of other ys quiet.had_memory run in
        let front = front_of trace before behind a.0 a.1 b.0 b.1 other rest xs ys (begun a.0 b.0 a.2 b.2) cut within ran a.3 quiet finishes b.3 in
        inr (broken, front.0, front.1)

    shown_instead : IsReplayed setup WriteFault xs → IsReplayed setup Shown xs
    shown_instead (inl none) = absurd (cc (none.0))
    shown_instead (inr found) = inr found

    pub replays_front : (stop : Stop) → Ends setup stop trace left xs → IsReplayed setup stop xs → IsFrontRun stop other xs ys
    replays_front Finished ends replayed = stopped Finished (record { had_memory = λ is. cc; pulled = λ is. cc; pushed = λ is. cc }) ends replayed
    replays_front Memory ends replayed =
        fronted Memory ends.front.before ends.front.behind (inl refl) ends.front.cut
        (elim ends.wanting [ inl none ↦ omega (arith, none) | inr wanted ↦ omega (arith, wanted_within (0 + length ends.front.before) ends.front.behind wanted) ]) ends.front.run replayed
    replays_front Words ends replayed = absurd ends
    replays_front ReadFault ends replayed =
        let its : (left_bytes : List ℕ) × (trace ≡ (flat_map ended ends.before ++ ends.part) ++ left_bytes) = consumed left trace (flat_map ended ends.before ++ ends.part) ends.taken in
        fronted ReadFault ends.before (lines_of (ends.part ++ its.0)) (inr (inl refl))
        (ap lines_of (its.1 ∙ append_assoc (flat_map ended ends.before) ends.part its.0) ∙ lines_of-all_ended ends.before (ends.part ++ its.0) ends.whole)
        (omega (arith, ends.counted)) ends.run replayed
      where
        consumed : (left : Option (List ℕ)) (bytes part : List ℕ) → Consumes (Some bytes) left part → (rest : List ℕ) × (bytes ≡ part ++ rest)
        consumed None bytes part taken = absurd taken
        consumed (Some rest) bytes part taken = (rest, taken)
    replays_front WriteFault (inl ends) replayed =
        fronted WriteFault ends.front.before ends.front.behind (inr (inr refl)) ends.front.cut (omega (arith, ends.counted)) ends.front.run replayed
    replays_front WriteFault (inr ends) replayed =
        let same = replays_alike trace Shown other left rest xs ys (record { had_memory = λ is. cc; pulled = λ is. cc; pushed = λ is. cc }) quiet ends finishes (shown_instead replayed) run in
        inr (inr (inr refl), [], sym same.1 ∙ sym (append-nil xs))
    replays_front (Refused number kind) ends replayed =
        stopped (Refused number kind) (record { had_memory = λ is. cc; pulled = λ is. cc; pushed = λ is. cc }) ends replayed
    replays_front Shown ends replayed = stopped Shown (record { had_memory = λ is. cc; pulled = λ is. cc; pushed = λ is. cc }) ends replayed
    replays_front TooManyLines ends replayed = stopped TooManyLines (record { had_memory = λ is. cc; pulled = λ is. cc; pushed = λ is. cc }) ends replayed
