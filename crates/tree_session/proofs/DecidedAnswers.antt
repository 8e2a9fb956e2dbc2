-- Answers that the state decides.
use Rattle.std.proofs.Common.{ℕ, ◌≡◌, ◌<◌, ◌≤◌, true, false, Bool, List, Option, Some, None, Ok, Err, refl, sym, ap, subst, ◌∙◌, rules}
use Rattle.tree_session.proofs.Common.{Result, IsErr, OnErr, nat_lt, not, is_none, is_some, if◌then◌else◌, slice_set, All, lt-ltb, le-ltb, true≢false, false≢true, Line, IsLine, line_at, shape_of, Shape, Formulas, Setup, BoardMemory, with_line_at, with_lines, restored_lines, tree_lines, tree_size, hurt_with, TreeState, TreeCommand, TreeAnswer, SessionState, tree_setup_in, IsChipStill, engine_left, parts_in, setup_in, TreeParts, plain_of_parts, state_of, IsTreeWorld, IsTreeAnswered, IsTreeMemoryWanted, tree_decided, tree_after_decided}
use Rattle.suite.specs.declared.Suite.{Ghosts as SuiteOf}
use Rattle.tree_session.specs.declared.commands.TreeCommand.TheVariants as Do
use Rattle.tree_session.specs.declared.answers.TreeAnswer.TheVariants as Say
use Rattle.tree_session.specs.declared.world.TreeWorld.TheInside.{Inside}
use Rattle.tree_session.proofs.Worlds.{rooted_open, powered_by, unpowered_by}
use Rattle.tree_session.proofs.Powers.{other_held, dark_held}
use Rattle.tree_session.proofs.TamperLaws.{changed_held}
use Rattle.tree_session.proofs.AnswerClauses.{setup_under, seen_from}

-- what a test of `is_none` says
pub none_found : {X : Type 0} (found : Option X) (none : Bool) → is_some found ≡ not none → none ≡ true → found ≡ None
none_found None none its is = refl
none_found (Some x) none its is = absurd (true≢false (its ∙ ap not is))

pub some_found : {X : Type 0} (found : Option X) (none : Bool) → is_some found ≡ not none → none ≡ false → (x : X) × (found ≡ Some x)
some_found None none its is = absurd (false≢true (its ∙ ap not is))
some_found (Some x) none its is = (x, refl)

-- and one of `is_some`
pub found_some : {X : Type 0} (found : Option X) (some : Bool) → some ≡ is_some found → some ≡ true → (x : X) × (found ≡ Some x)
found_some None some its is = absurd (false≢true (sym its ∙ is))
found_some (Some x) some its is = (x, refl)

-- what holds of an answer that is an error
from_error : {T E P : Type 0} (answer : Result T E) → IsErr answer → OnErr answer P → P
from_error (Ok value) is holds = absurd (false≢true is)
from_error (Err error) is holds = holds

pub a_snapshot : (found : Option (List Line)) → (found ≡ None → ⊥) → (kept : List Line) × (found ≡ Some kept)
a_snapshot None missing = absurd (missing refl)
a_snapshot (Some kept) missing = (kept, refl)

decided_done : (setup : Setup) (p q : TreeParts) (command : TreeCommand) (answer : TreeAnswer) → IsTreeWorld setup q → p.watch.exhibit ≡ None → q.watch.exhibit ≡ None → q.keys ≡ p.keys
    → tree_decided setup.shape (plain_of_parts setup p) command ≡ Some answer → plain_of_parts setup q ≡ tree_after_decided setup.shape (plain_of_parts setup p) command answer
    → IsChipStill (state_of setup p) command answer (state_of setup q) → IsTreeAnswered setup (state_of setup p) command answer (state_of setup q)
decided_done setup p q command answer world none none_then keys known plain chip = search (rules, rooted_open)

-- the fields of a session before a command that the state decides
pub record QuietCall : Type 0 where
  pub formulas_of : List ℕ → Formulas
  pub geometry : Shape
  pub parts : TreeParts
  pub now : SessionState
  pub is : state_of (setup_under formulas_of geometry parts.keys) parts ≡ now
  pub world : IsTreeWorld (setup_under formulas_of geometry parts.keys) parts
  pub unshown : now.shown ≡ None

abbrev pub quiet_in : {S : Type 0} (suite : SuiteOf S) (world : Inside S) (now : SessionState) → state_of (setup_in suite world) (parts_in suite world) ≡ now
    → IsTreeWorld (setup_in suite world) (parts_in suite world) → now.shown ≡ None → QuietCall
quiet_in suite world now is held unshown =
    record {
      formulas_of = suite.formulas_of;
      geometry = shape_of world.geo;
      parts = parts_in suite world;
      now = now;
      is = is;
      world = held;
      unshown = unshown;
    }

module _ (c : QuietCall) where
  abbrev pub setup : Setup
  setup = setup_under c.formulas_of c.geometry c.parts.keys

  none : c.parts.watch.exhibit ≡ None
  none = ap (λ (s : SessionState). s.shown) c.is ∙ c.unshown

  seen : (q : TreeParts) (command : TreeCommand) (answer : TreeAnswer) → q.keys ≡ c.parts.keys → IsTreeWorld setup q → q.watch.exhibit ≡ None
      → tree_decided c.geometry (plain_of_parts setup c.parts) command ≡ Some answer → plain_of_parts setup q ≡ tree_after_decided c.geometry (plain_of_parts setup c.parts) command answer
      → IsChipStill (state_of setup c.parts) command answer (state_of setup q)
      → IsTreeAnswered (tree_setup_in c.formulas_of c.now) c.now command answer (state_of setup (record q { keys = c.parts.keys }))
  seen q command answer keys world none_then known plain chip =
      seen_from c.formulas_of c.geometry c.parts q c.now c.parts.keys (λ s old new. IsTreeAnswered s old command answer new) c.is refl keys
      (decided_done setup c.parts q command answer world none none_then keys known plain chip)

  -- ---- nothing is done

  still : (command : TreeCommand) (answer : TreeAnswer) → tree_decided c.geometry (plain_of_parts setup c.parts) command ≡ Some answer
      → plain_of_parts setup c.parts ≡ tree_after_decided c.geometry (plain_of_parts setup c.parts) command answer
      → c.parts.engine ≡ engine_left command answer c.parts.engine → IsTreeAnswered (tree_setup_in c.formulas_of c.now) c.now command answer (state_of setup c.parts)
  still command answer known same engine =
      seen_from c.formulas_of c.geometry c.parts c.parts c.now c.parts.keys (λ s old new. IsTreeAnswered s old command answer new) c.is refl refl
      (decided_done setup c.parts c.parts command answer c.world none none refl known same
      (record { engine = engine; seals = refl; nodes = refl; slots = refl; pads = refl; tags = refl; digests = refl }))

  -- the state after it is the one before
  pub as_now : (command : TreeCommand) (answer : TreeAnswer) → IsTreeAnswered (tree_setup_in c.formulas_of c.now) c.now command answer (state_of setup c.parts)
      → IsTreeAnswered (tree_setup_in c.formulas_of c.now) c.now command answer c.now
  as_now command answer it = subst (λ (s : SessionState). IsTreeAnswered (tree_setup_in c.formulas_of c.now) c.now command answer s) c.is it

  -- it has the engine that it had
  with_engine : (engine : TreeState) (command : TreeCommand) (answer : TreeAnswer) → c.parts.engine ≡ Some engine
      → IsTreeAnswered (tree_setup_in c.formulas_of c.now) c.now command answer (state_of setup c.parts)
      → IsTreeAnswered (tree_setup_in c.formulas_of c.now) c.now command answer (state_of setup (record c.parts { engine = Some engine }))
  with_engine engine command answer there it =
      subst (λ (e : Option TreeState). IsTreeAnswered (tree_setup_in c.formulas_of c.now) c.now command answer (state_of setup (record c.parts { engine = e }))) there it

  lit : (engine : TreeState) → c.parts.engine ≡ Some engine → c.parts.board.powered ≡ true
  lit engine there = powered_by setup c.parts engine c.world none there

  dark : c.parts.engine ≡ None → c.parts.board.powered ≡ false
  dark there = unpowered_by setup c.parts c.world none there

  on_line_off : (a : ℕ) → c.parts.engine ≡ None
      → (if not c.parts.board.powered then Some Say.Off else if nat_lt a (tree_lines c.geometry) then None else Some Say.Range) ≡ Some Say.Off
  on_line_off a there = ap (λ (b : Bool). if not b then Some Say.Off else if nat_lt a (tree_lines c.geometry) then None else Some Say.Range) (dark there)

  on_line_past : (engine : TreeState) (a : ℕ) → c.parts.engine ≡ Some engine → tree_lines c.geometry ≤ a
      → (if not c.parts.board.powered then Some Say.Off else if nat_lt a (tree_lines c.geometry) then None else Some Say.Range) ≡ Some Say.Range
  on_line_past engine a there high =
      ap (λ (b : Bool). if not b then Some Say.Off else if nat_lt a (tree_lines c.geometry) then None else Some Say.Range) (lit engine there)
      ∙ ap (λ (b : Bool). if b then None else Some Say.Range) (le-ltb a (tree_lines c.geometry) high)

  pub write_off : (a : ℕ) (line : Line) → c.parts.engine ≡ None → IsTreeAnswered (tree_setup_in c.formulas_of c.now) c.now (Do.Write a line) Say.Off (state_of setup c.parts)
  write_off a line there = still (Do.Write a line) Say.Off (on_line_off a there) refl refl

  pub write_past : (engine : TreeState) (a : ℕ) (line : Line) → c.parts.engine ≡ Some engine → tree_lines c.geometry ≤ a
      → IsTreeAnswered (tree_setup_in c.formulas_of c.now) c.now (Do.Write a line) Say.Range (state_of setup (record c.parts { engine = Some engine }))
  write_past engine a line there high = with_engine engine (Do.Write a line) Say.Range there (still (Do.Write a line) Say.Range (on_line_past engine a there high) refl refl)

  pub read_off : (a : ℕ) → c.parts.engine ≡ None → IsTreeAnswered (tree_setup_in c.formulas_of c.now) c.now (Do.Read a) Say.Off (state_of setup c.parts)
  read_off a there = still (Do.Read a) Say.Off (on_line_off a there) refl refl

  pub read_past : (engine : TreeState) (a : ℕ) → c.parts.engine ≡ Some engine → tree_lines c.geometry ≤ a
      → IsTreeAnswered (tree_setup_in c.formulas_of c.now) c.now (Do.Read a) Say.Range (state_of setup (record c.parts { engine = Some engine }))
  read_past engine a there high = with_engine engine (Do.Read a) Say.Range there (still (Do.Read a) Say.Range (on_line_past engine a there high) refl refl)

  pub already : (engine : TreeState) → c.parts.engine ≡ Some engine → IsTreeAnswered (tree_setup_in c.formulas_of c.now) c.now Do.On Say.Already (state_of setup c.parts)
  already engine there = still Do.On Say.Already (ap (λ (b : Bool). if b then Some Say.Already else None) (lit engine there)) refl refl

  pub off_off : c.parts.engine ≡ None → IsTreeAnswered (tree_setup_in c.formulas_of c.now) c.now Do.Off Say.Off (state_of setup c.parts)
  off_off there = still Do.Off Say.Off (ap (λ (b : Bool). if b then Some Say.Ok else Some Say.Off) (dark there)) refl refl

  pub poke_past : (d : ℕ) (line : Line) → tree_size c.geometry ≤ d → IsTreeAnswered (tree_setup_in c.formulas_of c.now) c.now (Do.Poke d line) Say.Range (state_of setup c.parts)
  poke_past d line high = still (Do.Poke d line) Say.Range (ap (λ (b : Bool). if b then Some Say.Ok else Some Say.Range) (le-ltb d (tree_size c.geometry) high)) refl refl

  back_when : (d : ℕ) (b : Bool) → nat_lt d (tree_size c.geometry) ≡ b
      → (if not (nat_lt d (tree_size c.geometry)) then Some Say.Range else if is_none c.parts.board.snapshot then Some Say.NoSnap else Some Say.Ok)
      ≡ (if not b then Some Say.Range else if is_none c.parts.board.snapshot then Some Say.NoSnap else Some Say.Ok)
  back_when d b is = ap (λ (b : Bool). if not b then Some Say.Range else if is_none c.parts.board.snapshot then Some Say.NoSnap else Some Say.Ok) is

  pub back_past : (d : ℕ) → tree_size c.geometry ≤ d → IsTreeAnswered (tree_setup_in c.formulas_of c.now) c.now (Do.Back d) Say.Range (state_of setup c.parts)
  back_past d high = still (Do.Back d) Say.Range (back_when d false (le-ltb d (tree_size c.geometry) high)) refl refl

  -- without a snapshot nothing is put back
  pub back_none : (board : BoardMemory) (d : ℕ) → d < tree_size c.geometry → c.parts.board.snapshot ≡ None
      → board ≡ with_lines c.parts.board (restored_lines c.parts.board.lines c.parts.board.snapshot d)
      → IsTreeAnswered (tree_setup_in c.formulas_of c.now) c.now (Do.Back d) Say.NoSnap (state_of setup (record c.parts { board = board }))
  back_none board d low missing is =
      let same : board ≡ c.parts.board = is ∙ ap (λ (s : Option (List Line)). with_lines c.parts.board (restored_lines c.parts.board.lines s d)) missing in
      subst (λ (b : BoardMemory). IsTreeAnswered (tree_setup_in c.formulas_of c.now) c.now (Do.Back d) Say.NoSnap (state_of setup (record c.parts { board = b }))) (sym same)
      (still (Do.Back d) Say.NoSnap
      (back_when d true (lt-ltb d (tree_size c.geometry) low) ∙ ap (λ (s : Option (List Line)). if is_none s then Some Say.NoSnap else Some Say.Ok) missing) refl refl)

  -- memory is wanted for a first snapshot
  pub snap_wanted : {T E : Type 0} (answer : Result T E) → IsErr answer → OnErr answer (c.parts.board.snapshot ≡ None) → IsTreeMemoryWanted c.now Do.Snap
  snap_wanted answer error first = search (rules, from_error)

  -- ---- the fuse, a snapshot, and power

  abbrev with_board : BoardMemory → Option TreeState → TreeParts
  with_board board engine = record c.parts { board = board; engine = engine }

  module _ (board : BoardMemory) where
    pub cut_held : (n : ℕ) → board ≡ record c.parts.board { fuse = Some n } → IsTreeWorld setup (with_board board c.parts.engine)
    cut_held n is = subst (λ (b : BoardMemory). IsTreeWorld setup (with_board b c.parts.engine)) (sym is) (other_held setup c.parts c.world none (Some n) c.parts.board.snapshot)

    pub cut_seen : (n : ℕ) → board ≡ record c.parts.board { fuse = Some n } → IsTreeAnswered (tree_setup_in c.formulas_of c.now) c.now (Do.Cut n) Say.Ok (state_of setup (with_board board c.parts.engine))
    cut_seen n is =
        subst (λ (b : BoardMemory). IsTreeAnswered (tree_setup_in c.formulas_of c.now) c.now (Do.Cut n) Say.Ok (state_of setup (with_board b c.parts.engine))) (sym is)
        (seen (with_board (record c.parts.board { fuse = Some n }) c.parts.engine) (Do.Cut n) Say.Ok refl (other_held setup c.parts c.world none (Some n) c.parts.board.snapshot) none refl refl
        (record { engine = refl; seals = refl; nodes = refl; slots = refl; pads = refl; tags = refl; digests = refl }))

    pub snap_held : board ≡ record c.parts.board { snapshot = Some c.parts.board.lines } → IsTreeWorld setup (with_board board c.parts.engine)
    snap_held is =
        subst (λ (b : BoardMemory). IsTreeWorld setup (with_board b c.parts.engine)) (sym is) (other_held setup c.parts c.world none c.parts.board.fuse (Some c.parts.board.lines))

    pub snap_seen : board ≡ record c.parts.board { snapshot = Some c.parts.board.lines } → IsTreeAnswered (tree_setup_in c.formulas_of c.now) c.now Do.Snap Say.Ok (state_of setup (with_board board c.parts.engine))
    snap_seen is =
        subst (λ (b : BoardMemory). IsTreeAnswered (tree_setup_in c.formulas_of c.now) c.now Do.Snap Say.Ok (state_of setup (with_board b c.parts.engine))) (sym is)
        (seen (with_board (record c.parts.board { snapshot = Some c.parts.board.lines }) c.parts.engine) Do.Snap Say.Ok refl
        (other_held setup c.parts c.world none c.parts.board.fuse (Some c.parts.board.lines)) none refl refl
        (record { engine = refl; seals = refl; nodes = refl; slots = refl; pads = refl; tags = refl; digests = refl }))

    pub off_held : (engine : TreeState) → c.parts.engine ≡ Some engine → board ≡ record c.parts.board { powered = false; fuse = None } → IsTreeWorld setup (with_board board None)
    off_held engine there is = subst (λ (b : BoardMemory). IsTreeWorld setup (with_board b None)) (sym is) (dark_held setup c.parts c.world none engine there)

    pub off_seen : (engine : TreeState) → c.parts.engine ≡ Some engine → board ≡ record c.parts.board { powered = false; fuse = None }
        → IsTreeAnswered (tree_setup_in c.formulas_of c.now) c.now Do.Off Say.Ok (state_of setup (with_board board None))
    off_seen engine there is =
        subst (λ (b : BoardMemory). IsTreeAnswered (tree_setup_in c.formulas_of c.now) c.now Do.Off Say.Ok (state_of setup (with_board b None))) (sym is)
        (seen (with_board (record c.parts.board { powered = false; fuse = None }) None) Do.Off Say.Ok refl (dark_held setup c.parts c.world none engine there) none
        (ap (λ (b : Bool). if b then Some Say.Ok else Some Say.Off) (lit engine there)) refl
        (record { engine = refl; seals = refl; nodes = refl; slots = refl; pads = refl; tags = refl; digests = refl }))

  -- ---- tampering

  module _ (board : BoardMemory) (d : ℕ) (line : Line) (inside : d < tree_size c.geometry) (is : board ≡ with_line_at c.parts.board d line) (each : All IsLine board.lines) where
    abbrev pub changed : TreeParts
    changed = record c.parts { board = board; tampered = slice_set c.parts.tampered d true; hurt = hurt_with c.geometry c.parts.hurt d }

    held : IsTreeWorld setup changed
    held = changed_held setup c.parts board c.world none d line inside is each

    pub poke_held : (tampered hurt : List Bool) → tampered ≡ slice_set c.parts.tampered d true → hurt ≡ hurt_with c.geometry c.parts.hurt d
        → IsTreeWorld setup (record changed { tampered = tampered; hurt = hurt })
    poke_held tampered hurt t h =
        subst (λ (ts : List Bool). IsTreeWorld setup (record changed { tampered = ts; hurt = hurt })) (sym t)
        (subst (λ (hs : List Bool). IsTreeWorld setup (record changed { hurt = hs })) (sym h) held)

    pub poke_seen : (tampered hurt : List Bool) → tampered ≡ slice_set c.parts.tampered d true → hurt ≡ hurt_with c.geometry c.parts.hurt d
        → IsTreeAnswered (tree_setup_in c.formulas_of c.now) c.now (Do.Poke d line) Say.Ok (state_of setup (record changed { tampered = tampered; hurt = hurt }))
    poke_seen tampered hurt t h =
        subst (λ (ts : List Bool). IsTreeAnswered (tree_setup_in c.formulas_of c.now) c.now (Do.Poke d line) Say.Ok (state_of setup (record changed { tampered = ts; hurt = hurt }))) (sym t)
        (subst (λ (hs : List Bool). IsTreeAnswered (tree_setup_in c.formulas_of c.now) c.now (Do.Poke d line) Say.Ok (state_of setup (record changed { hurt = hs }))) (sym h)
        (subst (λ (b : BoardMemory). IsTreeAnswered (tree_setup_in c.formulas_of c.now) c.now (Do.Poke d line) Say.Ok (state_of setup (record changed { board = b }))) (sym is)
        (seen (record changed { board = with_line_at c.parts.board d line }) (Do.Poke d line) Say.Ok refl
        (subst (λ (b : BoardMemory). IsTreeWorld setup (record changed { board = b })) is held) none
        (ap (λ (b : Bool). if b then Some Say.Ok else Some Say.Range) (lt-ltb d (tree_size c.geometry) inside)) refl
        (record { engine = refl; seals = refl; nodes = refl; slots = refl; pads = refl; tags = refl; digests = refl }))))

  -- a line is put back as a snapshot has it
  module _ (board : BoardMemory) (d : ℕ) (kept : List Line) (there : c.parts.board.snapshot ≡ Some kept) (inside : d < tree_size c.geometry)
      (is : board ≡ with_lines c.parts.board (restored_lines c.parts.board.lines c.parts.board.snapshot d)) (each : All IsLine board.lines) where
    pub as_poke : board ≡ with_line_at c.parts.board d (line_at kept d)
    as_poke = is ∙ ap (λ (s : Option (List Line)). with_lines c.parts.board (restored_lines c.parts.board.lines s d)) there

    pub back_held : (tampered hurt : List Bool) → tampered ≡ slice_set c.parts.tampered d true → hurt ≡ hurt_with c.geometry c.parts.hurt d
        → IsTreeWorld setup (record (changed board d (line_at kept d) inside as_poke each) { tampered = tampered; hurt = hurt })
    back_held tampered hurt t h = poke_held board d (line_at kept d) inside as_poke each tampered hurt t h

    pub back_seen : (tampered hurt : List Bool) → tampered ≡ slice_set c.parts.tampered d true → hurt ≡ hurt_with c.geometry c.parts.hurt d
        → IsTreeAnswered (tree_setup_in c.formulas_of c.now) c.now (Do.Back d) Say.Ok
        (state_of setup (record (changed board d (line_at kept d) inside as_poke each) { tampered = tampered; hurt = hurt }))
    back_seen tampered hurt t h =
        let q = changed board d (line_at kept d) inside as_poke each in
        subst (λ (ts : List Bool). IsTreeAnswered (tree_setup_in c.formulas_of c.now) c.now (Do.Back d) Say.Ok (state_of setup (record (changed board d (line_at kept d) inside as_poke each) { tampered = ts; hurt = hurt }))) (sym t)
        (subst (λ (hs : List Bool). IsTreeAnswered (tree_setup_in c.formulas_of c.now) c.now (Do.Back d) Say.Ok (state_of setup (record (changed board d (line_at kept d) inside as_poke each) { hurt = hs }))) (sym h)
        (subst (λ (b : BoardMemory). IsTreeAnswered (tree_setup_in c.formulas_of c.now) c.now (Do.Back d) Say.Ok (state_of setup (record (changed board d (line_at kept d) inside as_poke each) { board = b }))) (sym is)
        (seen (record (changed board d (line_at kept d) inside as_poke each) { board = with_lines c.parts.board (restored_lines c.parts.board.lines c.parts.board.snapshot d) }) (Do.Back d) Say.Ok refl
        (subst (λ (b : BoardMemory). IsTreeWorld setup (record (changed board d (line_at kept d) inside as_poke each) { board = b })) is (held board d (line_at kept d) inside as_poke each)) none
        (back_when d true (lt-ltb d (tree_size c.geometry) inside) ∙ ap (λ (s : Option (List Line)). if is_none s then Some Say.NoSnap else Some Say.Ok) there) refl
        (record { engine = refl; seals = refl; nodes = refl; slots = refl; pads = refl; tags = refl; digests = refl }))))
