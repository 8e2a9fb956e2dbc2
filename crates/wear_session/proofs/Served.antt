-- What each command over the session is answered, whatever its call comes to.
use Rattle.std.proofs.lemmas.Grind.{common_steps}
use Rattle.std.proofs.Common.{ℕ, ◌≡◌, ◌≤◌, inl, inr, Bool, false, List, Option, Some, None, Result, Ok, Err, refl, sym, ap, ap₂, subst, arith, rules}
use Rattle.std.proofs.lemmas.Bool.{le-ltb}
use Rattle.std.specs.Prelude.{IfOk, IfErr, IsOk, OnErr}
use Rattle.board.specs.declared.access.Access.{Access}
use Rattle.trace_text.specs.Logged.{IsLoggedBy}
use Rattle.trace_text.proofs.LogLemmas.{logged_by, still_logged}
use Rattle.wear_session.proofs.Common.{if◌then◌else◌, nat_lt, Line, IsLine, Setup, Fault, Gapped, LevelledLines, levelled_lines, Moved, Wear, WriteFault, place_of, WearAnswer, WearCommand, WearState, wear_left, wear_lines_in, wear_of, count_in, wear_setup_in, wear_of_line, wear_decided, wear_after_decided, IsWearAnswered, IsWearMemoryWanted, move_said, StoreSession, IsLineWorld, setup_in, same_setup, HasReadAt, IsLevelledWrite, IsLevelledOpening}
use Rattle.pmem_base.specs.declared.answers.Exhibit.TheVariants.{Twin}
use Rattle.pmem_base.specs.declared.faults.MemFault.{MemFault}
use Rattle.trace_text.specs.declared.talk.Halt.{Halt}
use Rattle.trace_text.specs.declared.talk.Halt.TheVariants as Stop
use Rattle.line_session.specs.declared.making.Done.{Done}
use Rattle.line_session.specs.declared.making.Done.TheVariants as Make
use Rattle.line_session.specs.declared.powering.Turned.{Turned}
use Rattle.line_session.specs.declared.powering.Turned.TheVariants as Turn
use Rattle.line_session.specs.State.{LineSession, with_fuse}
use Rattle.line_session.specs.World.{session_off}
use Rattle.line_session.specs.Made.{IsDone, IsRoomWanted, undone}
use Rattle.line_session.specs.Turned.{IsTurned, IsTurnHalt, unturned}
use Rattle.wear_session.specs.declared.commands.WearCommand.TheVariants as Do
use Rattle.wear_session.specs.declared.answers.WearAnswer.TheVariants as Say
use Rattle.wear_session.specs.Answered.{IsWearHalt}
use Rattle.wear_session.specs.Planned.{read_done_said, write_done_said, turned_said}
use Rattle.wear_session.proofs.Worlds.{WearCall, setup_of, before, IsHeld, Exit, on_before, undecided, engine_of, lines_are, off_after, levelled_still}
use Rattle.wear_session.proofs.ReadLaws as reading
use Rattle.wear_session.proofs.Writes as writing
use Rattle.wear_session.proofs.OpeningExits as opening

abbrev lines_of : LevelledLines → ℕ
lines_of store = store.gapped.lines

module _ (c : WearCall) (now : WearState) (is : before c ≡ now) where
  abbrev now_setup : Setup
  now_setup = wear_setup_in c.formulas_of now

  abbrev left : WearState
  left = wear_of (setup_in c.formulas_of c.new.state) c.every c.new

  abbrev Answered : WearCommand → WearAnswer → Type 0
  Answered command said = IsWearAnswered now_setup now command said left

  -- as contracts write it
  answered_as : (command : WearCommand) (said : WearAnswer) → IsWearAnswered (setup_of c) (before c) command said left → Answered command said
  answered_as command said it = subst (λ (w : WearState). IsWearAnswered (wear_setup_in c.formulas_of w) w command said left) is it

  still : c.new ≡ c.old → IsHeld c
  still same = rw same c.held

  still_now : c.new ≡ c.old → left ≡ now
  still_now same = rw same is

  decided_before : (command : WearCommand) (said : WearAnswer) → wear_decided (before c) command ≡ Some said → left ≡ wear_after_decided (before c) command
      → Answered command said
  decided_before command said fixed kept = search (rules, answered_as, setup_of, before)

  -- ---- power off, and a cut that is set

  pub off_served : (on : Bool) → on ≡ c.old.state.board.powered → c.new ≡ (if c.old.state.board.powered then session_off c.old else c.old)
      → (said : WearAnswer) → said ≡ (if on then Say.Ok else Say.Off) → IsHeld c × Answered Do.Off said
  off_served on on_is new_is said said_is = search rules

  pub cut_served : (n : ℕ) → c.new ≡ record c.old { state = with_fuse c.old.state n } → IsHeld c × Answered (Do.Cut n) Say.Ok
  cut_served n cut = grind (arith, common_steps, decided_before)

  -- ---- calls of the session

  module _ (world : IsLineWorld engine_of (setup_of c) c.old) where
    abbrev Logs : WearCommand → Option (Unit {0}) → Type 0
    Logs command undone =
        (log later : Option (List Access)) → IsLoggedBy undone log c.old.state.board later c.new.state.board
        → IsLoggedBy (wear_decided now command) log now.session.board later c.new.state.board

    -- what is held and answered, and the log, which goes on if a call was made
    pub record IsServed {E : Type 0} (command : WearCommand) (undone : Option (Unit {0})) (answer : Result WearAnswer E) (why : E → Type 0) : Type 0 where
      pub held : IsHeld c
      pub answered : IfOk answer (Answered command)
      pub halted : IfErr answer why
      pub logged : Logs command undone

    off : c.old.store ≡ None → c.old.state.board.powered ≡ false
    off none = (rw none at world.chip).unpowered

    decided_now : (command : WearCommand) (answer : Option WearAnswer) → wear_decided (before c) command ≡ answer → wear_decided now command ≡ answer
    decided_now command answer it = rw is at it

    board_is : now.session.board ≡ c.old.state.board
    board_is = sym (ap (λ (w : WearState). w.session.board) is)

    -- the state decides
    decided_exit : {E : Type 0} {why : E → Type 0} (command : WearCommand) (said : WearAnswer) → wear_decided (before c) command ≡ Some said
        → wear_after_decided (before c) command ≡ before c → c.new ≡ c.old → IsServed command (Some tt) (Ok said) why
    decided_exit command said fixed kept same = search (rules, still, decided_before, decided_now)

    -- the call does
    called_logs : (command : WearCommand) → wear_decided (before c) command ≡ None → Logs command None
    called_logs command none log later it = search (rules, logged_by, decided_now)

    called_exit : {E : Type 0} {why : E → Type 0} (command : WearCommand) (said : WearAnswer) → wear_decided (before c) command ≡ None
        → c.new.state.shape ≡ c.old.state.shape → c.new.state.keys ≡ c.old.state.keys → Exit c command said → IsServed command None (Ok said) why
    called_exit command said none shape keys it =
        record {
          held = it.0;
          answered = search (rules, answered_as, setup_of, before, same_setup);
          halted = tt;
          logged = called_logs command none;
        }

    off_is : (a : ℕ) → c.old.store ≡ None → wear_of_line (before c) a None ≡ Some Say.Off
    off_is a none = ap (λ b. if b then (if nat_lt a (wear_lines_in (before c)) then None else Some Say.Range) else Some Say.Off) (off none)

    range_is : (a : ℕ) (store : LevelledLines) → c.old.store ≡ Some store → store.gapped.lines ≤ a → wear_of_line (before c) a None ≡ Some Say.Range
    range_is a store there past = search (rules, lines_are, before, on_before, le-ltb)

    -- ---- a read, which needs no memory

    module _ (a : ℕ) where
      abbrev pub IsReadDone : Done Line Fault → Type 0
      IsReadDone done =
          IsDone engine_of lines_of (λ setup old new from to answer. HasReadAt setup a old.gapped new.gapped from to answer) (setup_of c) (Some a)
          (λ (s : LevelledLines). a) c.old done c.new

      abbrev pub IsReadServed : Result (Done Line Fault) MemFault → WearAnswer → Type 0
      IsReadServed done said = IsServed {E = MemFault} (Do.Read a) (undone done) (Ok said) (λ fault. ⊥)

      read_done : (done : Done Line Fault) → IsReadDone done → IsReadServed (Ok done) (read_done_said done)
      read_done Make.Off it = decided_exit (Do.Read a) Say.Off (off_is a it.0) refl it.1
      read_done Make.Range it = decided_exit (Do.Read a) Say.Range (range_is a it.0 it.1 it.2) refl it.3
      read_done (Make.Ended steps sealed answer) it =
          called_exit (Do.Read a) (read_done_said (Make.Ended steps sealed answer)) (undecided c world it.0 it.1.0 a it.1.1) it.2.shape it.2.keys
          (reading.exit c world a it.0 it.1.0 it.1.1 steps answer it.2 sealed)

      pub read_served : (done : Result (Done Line Fault) MemFault) → IfOk done IsReadDone → OnErr done (IsRoomWanted lines_of (Some a) 0 c.old)
          → (said : WearAnswer) → IfOk done (λ d. said ≡ read_done_said d) → IsReadServed done said
      read_served (Err fault) it wanted said is = let none = wanted.2 in absurd (omega (arith, none))
      read_served (Ok done) it wanted said is = rw is (read_done done it)

    -- ---- a write, or why there is none

    module _ (a : ℕ) (plain : Line) (whole : IsLine plain) (why : MemFault → Type 0)
        (wants : (fault : MemFault) → left ≡ now → IsWearMemoryWanted now (Do.Write a plain) → why fault) where
      abbrev pub IsWriteDone : Done Moved WriteFault → Type 0
      IsWriteDone done =
          IsDone engine_of lines_of (λ setup old new from to answer. IsLevelledWrite setup a plain old.gapped new.gapped from to answer) (setup_of c)
          (Some a) (λ (s : LevelledLines). place_of s.gapped.lines s.gapped.wear a) c.old done c.new

      abbrev pub IsWriteServed : Result (Done Moved WriteFault) MemFault → Result WearAnswer MemFault → Type 0
      IsWriteServed done answer = IsServed (Do.Write a plain) (undone done) answer why

      unwritten : (fault : MemFault) → c.new ≡ c.old → IsRoomWanted lines_of (Some a) 198 c.old → IsWriteServed (Err fault) (Err fault)
      unwritten fault same wanted =
          record {
            held = still same;
            answered = tt;
            halted = search (rules, still_now, decided_now, undecided);
            logged = λ log later its. rw (its, same, sym board_is) (still_logged (wear_decided now (Do.Write a plain)) log now.session.board);
          }

      write_done : (done : Result (Done Moved WriteFault) MemFault) → IfOk done IsWriteDone → OnErr done (c.new ≡ c.old)
          → OnErr done (IsRoomWanted lines_of (Some a) 198 c.old) → IsWriteServed done (write_done_said done)
      write_done (Err fault) it same wanted = unwritten fault same wanted
      write_done (Ok Make.Off) it same wanted = decided_exit (Do.Write a plain) Say.Off (off_is a it.0) refl it.1
      write_done (Ok Make.Range) it same wanted = decided_exit (Do.Write a plain) Say.Range (range_is a it.0 it.1 it.2) refl it.3
      write_done (Ok (Make.Ended steps sealed answer)) it same wanted =
          called_exit (Do.Write a plain) (move_said sealed steps answer) (undecided c world it.0 it.1.0 a it.1.1) it.2.shape it.2.keys
          (writing.exit c world a plain whole it.0 it.1.0 it.1.1 steps answer it.2 sealed it.3)

      pub write_served : (done : Result (Done Moved WriteFault) MemFault) → IfOk done IsWriteDone → OnErr done (c.new ≡ c.old)
          → OnErr done (IsRoomWanted lines_of (Some a) 198 c.old) → (answer : Result WearAnswer MemFault) → answer ≡ write_done_said done
          → IsWriteServed done answer
      write_served done it same wanted answer said = rw said (write_done done it same wanted)

    -- ---- power comes on

    dark_is : c.old.store ≡ None → wear_decided (before c) Do.On ≡ None
    dark_is none = ap (λ b. if b then Some Say.Already else None) (off none)

    abbrev pub Halts : Halt → Type 0
    Halts halt = IsWearHalt now_setup now Do.On halt left

    abbrev pub IsTurnDone : Turned Wear → Type 0
    IsTurnDone turned =
        IsTurned levelled_lines (λ (g : Gapped). g.wear) (λ engine start now. IsLevelledOpening (setup_of c) c.every engine start now) engine_of (setup_of c)
        c.old turned c.new

    -- without a store, under the same geometry and keys
    dark_left : c.new.state.shape ≡ c.old.state.shape → c.new.state.keys ≡ c.old.state.keys → c.new.store ≡ None
        → wear_left (setup_of c) c.every c.new.state 0 ≡ left
    dark_left shape keys none =
        ap₂ (λ (u : Setup) (k : ℕ). wear_left u c.every c.new.state k) (sym (same_setup c.formulas_of c.old.state c.new.state shape keys))
        (sym (ap count_in none))

    turn_done : (turned : Result (Turned Wear) Halt) → IfOk turned IsTurnDone → IfErr turned (λ halt. IsTurnHalt (setup_of c) c.old halt c.new)
        → IsServed Do.On (unturned turned) (turned_said turned) Halts
    turn_done (Ok Turn.Already) it halt = search (rules, decided_exit, on_before)
    turn_done (Ok (Turn.On steps told)) it halt =
        called_exit Do.On (Say.Opened told.start told.gap steps) (dark_is it.3) it.4.shape it.4.keys (rw it.1 (opening.on_exit c world it.3 it.5 steps it.0 it.2 it.4))
    turn_done (Ok (Turn.Cut steps)) it halt =
        called_exit Do.On (Say.Cut steps) (dark_is it.1) (elim it.2 [ inl cut ↦ cut.shape | inr opened ↦ opened.1.shape ])
        (elim it.2 [ inl cut ↦ cut.keys | inr opened ↦ opened.1.keys ]) (opening.cut_exit c world it.1 it.3 steps it.0 it.2)
    turn_done (Err Stop.Memory) it halt = search (rules, still, decided_now, dark_is, still_now, called_logs)
    turn_done (Err (Stop.Shown (Twin at major low high cipher tag))) it halt =
        let rests = halt.1.refused.rests in
        let shape : c.new.state.shape ≡ c.old.state.shape = ap (λ (s : LineSession). s.shape) rests in
        let keys : c.new.state.keys ≡ c.old.state.keys = ap (λ (s : LineSession). s.keys) rests in
        record {
          held = off_after c shape keys (levelled_still c (ap (λ (s : LineSession). s.ledger.marks) rests)) halt.2;
          answered = tt;
          halted =
              subst (λ (w : WearState). IsWearHalt (wear_setup_in c.formulas_of w) w Do.On (Stop.Shown (Twin at major low high cipher tag)) left) is
              (subst (λ (w : WearState). IsWearHalt (setup_of c) (before c) Do.On (Stop.Shown (Twin at major low high cipher tag)) w)
              (dark_left shape keys halt.2) (opening.twin_shown c world halt.0 at major low high cipher tag c.new.state halt.1));
          logged = called_logs Do.On (dark_is halt.0);
        }
    turn_done (Err other) it halt = absurd halt

    pub turn_served : (turned : Result (Turned Wear) Halt) → IfOk turned IsTurnDone → IfErr turned (λ halt. IsTurnHalt (setup_of c) c.old halt c.new)
        → (answer : Result WearAnswer Halt) → answer ≡ turned_said turned → IsServed Do.On (unturned turned) answer Halts
    turn_served turned it halt answer said = rw said (turn_done turned it halt)

-- a call that makes no mark is made
pub always_done : {V F : Type 0} (asked : Option ℕ) (old : StoreSession LevelledLines) (done : Result (Done V F) MemFault)
    → OnErr done (IsRoomWanted lines_of asked 0 old) → IsOk done
always_done asked old (Ok done) it = refl
always_done asked old (Err fault) it = let none = it.2 in absurd (omega (arith, none))
