-- Two replies to one command in one state are the same, and leave the same state and the same log.
use Rattle.std.proofs.Common.{◌≡◌, ◌<◌, Bool, true, false, List, [], Option, Some, None, Result, Ok, Err, inl, inr, refl, sym, ap, subst, ◌∙◌, arith, rules}
use Rattle.tree_session.proofs.Common.{not, nat_lt, ext_get_or, ⊤, if◌then◌else◌, same_Some, Exhibit, Access, BoardMemory, Setup, Plan, tree_lines, Taken, same_logged, TreeFault, PlainTree, with_board, TreeChip, read_plan, write_plan, RecoverParts, TreeCommand, TreeAnswer, SessionState, HasTreeCalled, HasTreeStarted, IsTreeCallOf, IsTreeCalled, plain_said, on_said, read_said, write_said, board_resting, engine_made, AnswersWith, tree_decided, IsTreeAnswered, IsEngineShown, IsTreeShownBy, IsTreeLogged}
use Rattle.board.specs.Device.{Device}
use Rattle.board.specs.Memory.{device_of, new_memory}
use Rattle.call_plan.proofs.Determined.{uncut_alike}
use Rattle.pmem_base.specs.declared.commands.Kind.{Kind}
use Rattle.tree_session.specs.Logged.{IsTreeLogOf}
use Rattle.call_plan.proofs.DeterminedCalls.{call_is_determined, same_board}
use Rattle.counter_tree.specs.Layout.{tree_size}
use Rattle.counter_tree.specs.declared.watch.LineSeal.{LineSeal}
use Rattle.pmem_base.specs.declared.lines.Line.{Line}
use Rattle.tree_session.specs.State.{IsNewTree}
use Rattle.tree_session.specs.declared.commands.TreeCommand.TheVariants as Do
use Rattle.tree_session.specs.declared.answers.TreeAnswer.TheVariants as Say
use Rattle.tree_session.specs.Determined.{TreeRepliesAreDetermined, NewTreeIsDetermined, TreeLogsAreDetermined}

-- a state is its fields
same_state : (a b : SessionState) → a.shape ≡ b.shape → a.keys ≡ b.keys → a.plain ≡ b.plain → a.shown ≡ b.shown → a.engine ≡ b.engine → a.seals ≡ b.seals
    → a.nodes ≡ b.nodes → a.slots ≡ b.slots → a.pads ≡ b.pads → a.tags ≡ b.tags → a.digests ≡ b.digests → a ≡ b
same_state a b shape keys plain shown engine seals nodes slots pads tags digests = grind arith

-- power is on where a line's command isn't decided
lit_of : (p b : Bool) → (if not p then Some Say.Off else if b then None else Some Say.Range) ≡ None → p ≡ true
lit_of true b none = refl
lit_of false b none = absurd cc

module _ (setup : Setup) (old one other : SessionState) where
  -- what was answered, memory and the chip are the same
  record AreAlike (first second : Option TreeAnswer) : Type 0 where
    said : first ≡ second
    plain : one.plain ≡ other.plain
    shown : one.shown ≡ other.shown
    engine : one.engine ≡ other.engine
    seals : one.seals ≡ other.seals
    nodes : one.nodes ≡ other.nodes
    slots : one.slots ≡ other.slots
    pads : one.pads ≡ other.pads
    tags : one.tags ≡ other.tags
    digests : one.digests ≡ other.digests

  -- memory, by what was answered and by the board
  abbrev plain_left : TreeCommand → Option TreeAnswer → BoardMemory → PlainTree
  plain_left command (Some answer) board = plain_said setup.shape old.plain command answer board
  plain_left command None board = with_board old.plain board

  plain_alike : (command : TreeCommand) (first second : Option TreeAnswer) → first ≡ second → one.plain.board ≡ other.plain.board
      → one.plain ≡ plain_left command first one.plain.board → other.plain ≡ plain_left command second other.plain.board → one.plain ≡ other.plain
  plain_alike command first second said board it its = search rules

  called_alike : {A : Type 0} (plan : TreeChip → Plan (TreeChip × TreeFault) (TreeChip × A)) (says : Taken → Result A TreeFault → Option TreeAnswer)
      (command : TreeCommand) (first second : Option TreeAnswer) → old.plain.board.powered ≡ true → HasTreeCalled setup plan says old one first
      → HasTreeCalled setup plan says old other second → one.plain ≡ plain_left command first one.plain.board
      → other.plain ≡ plain_left command second other.plain.board → AreAlike first second
  called_alike plan says command first second on it its plain plain_other = search (rules, same_Some, call_is_determined, plain_alike)

  started_alike : (first second : Option TreeAnswer) → HasTreeStarted setup old one first → HasTreeStarted setup old other second
      → one.plain ≡ plain_left Do.On first one.plain.board → other.plain ≡ plain_left Do.On second other.plain.board → AreAlike first second
  started_alike first second it its plain plain_other =
      let same = call_is_determined refl it.outcome its.outcome in
      let said : first ≡ second = it.is_said ∙ (ap (λ t. on_said t it.end) same.3 ∙ (ap (on_said its.taken) same.0 ∙ sym its.is_said)) in
      let board : one.plain.board ≡ other.plain.board =
      it.rests ∙ (ap (λ e. board_resting e it.board) same.0 ∙ (ap (board_resting its.end) same.2 ∙ sym its.rests)) in
      record {
        said = said;
        plain = plain_alike Do.On first second said board plain plain_other;
        shown = ap (λ (p : RecoverParts). p.watch.exhibit) same.1;
        engine = it.made ∙ (ap engine_made same.0 ∙ sym its.made);
        seals = ap (λ (p : RecoverParts). p.watch.seals) same.1;
        nodes = ap (λ (p : RecoverParts). p.watch.nodes) same.1;
        slots = ap (λ (p : RecoverParts). p.watch.slots) same.1;
        pads = it.pads ∙ sym its.pads;
        tags = it.tags ∙ sym its.tags;
        digests = ap (λ (p : RecoverParts). p.digests) same.1;
      }

  -- power is on for a read and a write
  abbrev IsLitFor : TreeCommand → Type 0
  IsLitFor (Do.Write a line) = old.plain.board.powered ≡ true
  IsLitFor (Do.Read a) = old.plain.board.powered ≡ true
  IsLitFor command = ⊤

  lit_for : (command : TreeCommand) → tree_decided setup.shape old.plain command ≡ None → IsLitFor command
  lit_for (Do.Write a line) none = lit_of old.plain.board.powered (nat_lt a (tree_lines setup.shape)) none
  lit_for (Do.Read a) none = lit_of old.plain.board.powered (nat_lt a (tree_lines setup.shape)) none
  lit_for command none = tt

  -- where the state doesn't decide
  by_call : (command : TreeCommand) (first second : Option TreeAnswer) → IsLitFor command → IsTreeCallOf setup old command one first
      → IsTreeCallOf setup old command other second → one.plain ≡ plain_left command first one.plain.board → other.plain ≡ plain_left command second other.plain.board
      → AreAlike first second
  by_call (Do.Write a line) first second on it its plain plain_other =
      called_alike (write_plan setup old.plain.board.regs a line) write_said (Do.Write a line) first second on it its plain plain_other
  by_call (Do.Read a) first second on it its plain plain_other = called_alike (read_plan setup a) read_said (Do.Read a) first second on it its plain plain_other
  by_call Do.On first second on it its plain plain_other = started_alike first second it its plain plain_other
  by_call command first second on it its plain plain_other = absurd it

  answers_alike : (decided : Option TreeAnswer) (command : TreeCommand) (first second : TreeAnswer) → (decided ≡ None → IsLitFor command) → one.shown ≡ other.shown
      → AnswersWith setup old.plain command one.plain first decided → AnswersWith setup old.plain command other.plain second decided
      → IsTreeCalled setup old command one first decided → IsTreeCalled setup old command other second decided → AreAlike (Some first) (Some second)
  answers_alike None command first second on shown it its called again = by_call command (Some first) (Some second) (on refl) called.0 again.0 called.1 again.1
  answers_alike (Some known) command first second on shown it its called again = search rules

  -- an answer's call, where an exhibit says that the state doesn't decide
  called_of : (decided : Option TreeAnswer) (command : TreeCommand) (answer : TreeAnswer) (new : SessionState) → decided ≡ None
      → IsTreeCalled setup old command new answer decided → IsTreeCalled setup old command new answer None
  called_of decided command answer new none it = subst (λ d. IsTreeCalled setup old command new answer d) none it

  state_alike : {first second : Option TreeAnswer} → AreAlike first second → one.shape ≡ other.shape → one.keys ≡ other.keys → one ≡ other
  state_alike it shape keys =
      same_state one other shape keys it.plain it.shown it.engine it.seals it.nodes it.slots it.pads it.tags it.digests

module _ (setup : Setup) (command : TreeCommand) (old one other : SessionState) where
  two_answers : (first second : TreeAnswer) → IsTreeAnswered setup old command first one → IsTreeAnswered setup old command second other
      → (first ≡ second) × (one ≡ other)
  two_answers first second it its =
      let same =
      answers_alike setup old one other (tree_decided setup.shape old.plain command) command first second (lit_for setup old one other command)
      (it.kept.shown ∙ sym its.kept.shown) it.answered its.answered it.called its.called in (
        same_Some first second same.said,
        state_alike setup old one other same (it.kept.shape ∙ sym its.kept.shape) (it.kept.keys ∙ sym its.kept.keys),
      )

  -- an answer isn't an exhibit
  not_both : (answer : TreeAnswer) (exhibit : Exhibit) → IsTreeAnswered setup old command answer one → IsEngineShown setup old command exhibit other → ⊥
  not_both answer exhibit it its =
      let called = called_of setup old one other (tree_decided setup.shape old.plain command) command answer one its.undecided it.called in
      let same =
      by_call setup old one other command (Some answer) None (lit_for setup old one other command its.undecided) called.0 its.called called.1 its.plain in
      Rattle.std.proofs.lemmas.Option.none-some answer (sym same.said)

  two_exhibits : (first second : Exhibit) → IsEngineShown setup old command first one → IsEngineShown setup old command second other
      → (first ≡ second) × (one ≡ other)
  two_exhibits first second it its =
      let same =
      by_call setup old one other command None None (lit_for setup old one other command it.undecided) it.called its.called it.plain its.plain in (
        same_Some first second (sym it.shown ∙ (same.shown ∙ its.shown)),
        state_alike setup old one other same (it.shape ∙ sym its.shape) (it.keys ∙ sym its.keys),
      )

  -- after an exhibit that exhibit is the reply
  shown_twice : (first second : Exhibit) → IsTreeShownBy setup old command first one → IsTreeShownBy setup old command second other
      → (first ≡ second) × (one ≡ other)
  shown_twice first second (inl it) (inl its) = two_exhibits first second it its
  shown_twice first second (inl it) (inr again) = absurd (Rattle.std.proofs.lemmas.Option.none-some second (sym it.not_shown ∙ again.0))
  shown_twice first second (inr again) (inl its) = absurd (Rattle.std.proofs.lemmas.Option.none-some first (sym its.not_shown ∙ again.0))
  shown_twice first second (inr it) (inr again) = (same_Some first second (sym it.0 ∙ again.0), it.1 ∙ sym again.1)

  not_shown_by : (answer : TreeAnswer) (exhibit : Exhibit) → IsTreeAnswered setup old command answer one → IsTreeShownBy setup old command exhibit other → ⊥
  not_shown_by answer exhibit it (inl its) = not_both answer exhibit it its
  not_shown_by answer exhibit it (inr again) = Rattle.std.proofs.lemmas.Option.none-some exhibit (sym it.not_shown ∙ again.0)

pub replies_are_determined : TreeRepliesAreDetermined
replies_are_determined setup command (Ok first) (Ok second) old one other it its =
    let same = two_answers setup command old one other first second it its in (ap Ok same.0, same.1)
replies_are_determined setup command (Ok first) (Err second) old one other it its =
    absurd (not_shown_by setup command old one other first second it its)
replies_are_determined setup command (Err first) (Ok second) old one other it its =
    absurd (not_shown_by setup command old other one second first its it)
replies_are_determined setup command (Err first) (Err second) old one other it its =
    let same = shown_twice setup command old one other first second it its in (ap Err same.0, same.1)

-- ---- logs

same_log_of : (command : TreeCommand) (old new : SessionState) (accesses others : List Access) → IsTreeLogged command (Some []) old (Some accesses) new
    → IsTreeLogged command (Some []) old (Some others) new → accesses ≡ others
same_log_of (Do.Write a line) old new accesses others it its =
    same_logged (tree_decided old.shape old.plain (Do.Write a line)) old.plain.board new.plain.board accesses others it its
same_log_of (Do.Read a) old new accesses others it its =
    same_logged (tree_decided old.shape old.plain (Do.Read a)) old.plain.board new.plain.board accesses others it its
same_log_of Do.On old new accesses others it its = same_logged (tree_decided old.shape old.plain Do.On) old.plain.board new.plain.board accesses others it its
same_log_of command old new accesses others it its = same_Some accesses others (it ∙ sym its)

-- the same of what a line asks for
pub same_logs : (reading : Result (Option TreeCommand) Kind) (old new : SessionState) (accesses others : List Access)
    → IsTreeLogOf reading (Some []) old (Some accesses) new → IsTreeLogOf reading (Some []) old (Some others) new → accesses ≡ others
same_logs (Ok (Some command)) old new accesses others it its = same_log_of command old new accesses others it its
same_logs (Ok None) old new accesses others it its = same_Some accesses others (it ∙ sym its)
same_logs (Err kind) old new accesses others it its = same_Some accesses others (it ∙ sym its)

pub logs_are_determined : TreeLogsAreDetermined
logs_are_determined setup command first second old one other accesses others it its log its_log = search (rules, replies_are_determined, same_log_of)

-- ---- new states

-- a board is its device, its fuse and its snapshot
same_device : (a b : BoardMemory) → device_of a ≡ device_of b → a.fuse ≡ b.fuse → a.snapshot ≡ b.snapshot → a ≡ b
same_device a b device fuse snapshot =
    same_board a b (same_Some a.lines b.lines (ap (λ (d : Device). d.lines) device)) (ap (λ (d : Device). d.regs) device)
    (ap (λ (d : Device). d.live) device) fuse snapshot (ap (λ (d : Device). d.reads) device) (ap (λ (d : Device). d.writes) device)
    (ap (λ (d : Device). d.latches) device) (ap (λ (d : Device). d.cuts) device)
    (same_Some a.accesses b.accesses (ap (λ (d : Device). d.accesses) device))

same_plain : (a b : PlainTree) → a.memory ≡ b.memory → a.counts ≡ b.counts → a.named ≡ b.named → a.tampered ≡ b.tampered → a.hurt ≡ b.hurt
    → a.board ≡ b.board → a ≡ b
same_plain a b memory counts named tampered hurt board = grind arith

same_seals : (setup : Setup) (a b : SessionState) → IsNewTree setup a → IsNewTree setup b → a.seals ≡ b.seals
same_seals setup a b new other =
    ext_get_or None a.seals b.seals (new.seal_count ∙ sym other.seal_count)
    (λ i low. let inside : i < tree_lines setup.shape = omega (arith, low, new.seal_count) in new.seals i inside ∙ sym (other.seals i inside))

pub begins_are_determined : NewTreeIsDetermined
begins_are_determined setup pads tags digests a b new other it its keys =
    let device =
    (uncut_alike (new_memory (tree_size setup.shape)).lines {old = device_of (new_memory (tree_size setup.shape))} refl new.power other.power it.follows
    its.follows).1 in
    let board = same_device a.plain.board b.plain.board device (new.fuse ∙ sym other.fuse) (new.snapshot ∙ sym other.snapshot) in
    same_state a b (new.shape ∙ sym other.shape) keys
    (same_plain a.plain b.plain (new.memory ∙ sym other.memory) (new.counts ∙ sym other.counts) (new.named ∙ sym other.named)
    (new.tampered ∙ sym other.tampered) (new.hurt ∙ sym other.hurt) board)
    (new.shown ∙ sym other.shown) (new.engine ∙ sym other.engine) (same_seals setup a b new other) (new.nodes ∙ sym other.nodes)
    (new.slots ∙ sym other.slots) (it.its_pads ∙ sym its.its_pads) (it.its_tags ∙ sym its.its_tags) (it.its_digests ∙ sym its.its_digests)
