-- The marks of a chip rise along a write and a turn: each end and each cut has those before it, and maybe one more.
use Rattle.std.proofs.Common.{ℕ, ◌+◌, ◌++◌, ◌∷◌, [], Bool, true, false, List, Option, Some, None, Result, Ok, Err, length, refl}
use Rattle.std.specs.Prelude.{if◌then◌else◌}
use Rattle.pmem_base.specs.declared.lines.Line.{Line}
use Rattle.pmem_base.specs.declared.lines.Ctr.{Ctr}
use Rattle.pmem_base.specs.declared.commands.Posted.{Posted}
use Rattle.pmem_base.specs.declared.registers.Progress.{Progress}
use Rattle.pmem_base.specs.declared.registers.Regs.{Regs}
use Rattle.pmem_base.specs.declared.answers.Mark.{Mark}
use Rattle.pmem_base.specs.declared.answers.Mark.TheVariants.{Begin, Seal}
use Rattle.pmem_base.specs.Counts.{risen}
use Rattle.pmem_base.specs.Layout.{page_of, index_in_page}
use Rattle.pmem_base.specs.Lines.{tag_slot}
use Rattle.pmem_base.specs.Registers.{not_done}
use Rattle.pmem_base.specs.Shape.{Shape}
use Rattle.call_plan.specs.Plans.{Plan, done, stop, read, write, latch, bind, mapped, repeated}
use Rattle.call_plan.specs.Bounds.{IsOrder, Ascends, IsFront, state_at}
use Rattle.call_plan.proofs.Ascents.{ends_above, cut_is_below, ascends_from, ascends_bind, ascends_mapped, ascends_repeated, fronts}
use Rattle.commit_regs.specs.Plans.{finish_plan, group_plan}
use Rattle.line_seal.specs.Seals.{unsealed}
use Rattle.suite.specs.Formulas.{Formulas}
use Rattle.suite.specs.Setup.{Setup}
use Rattle.seal_ledger.specs.Ledger.{LedgerState}
use Rattle.meta_path.specs.Blocks.{path_at}
use Rattle.meta_path.specs.FetchPlans.{FetchParts, fetch_parts, known_plan, check_plan, place_plan, level_plan, fetch_turn, fetch_plan}
use Rattle.meta_path.specs.Plans.{room_plan}
use Rattle.pmem_engine.specs.declared.fault.Fault.{Fault}
use Rattle.pmem_engine.specs.declared.reading.Unsealed.{Unsealed}
use Rattle.pmem_engine.specs.declared.resealing.HeldLine.{HeldLine}
use Rattle.pmem_engine.specs.declared.resealing.NextSeal.{NextSeal}
use Rattle.pmem_engine.specs.Inner.{cached_block}
use Rattle.pmem_engine.specs.Committing.{next_seal_of}
use Rattle.pmem_engine.specs.Writing.{overflow_of, register_to_finish}
use Rattle.pmem_engine.specs.Plans.{Chip, with_tags, fetch_parts_of, its_counter, register_at, held_of, armed, with_seal, commit_plan, opened_plan, unseal_plan, fetch_path_plan, seal_anew_plan, reseal_plan, oldest_page_plan, turn_plan, name_plan}
use Rattle.pmem_engine.specs.SealPlans.{begin_page_plan, begin_for_plan, seal_next_plan}
use Rattle.pmem_engine.specs.WritePlans.{overflow_end, overflow_plan, plain_plan, finish_turn, finish_page_plan, finish_found_plan, finish_for_plan, write_plan}
use Rattle.pmem_engine.specs.MarkLaws.{marks_at, CutMakesAFront, KeepsMarks, CutWritesMakeFronts, CutTurnsMakeFronts, WritesKeepMarks, TurnsKeepMarks}

-- marks that are a front of others
abbrev pub Front : List Mark → List Mark → Type 0
Front marks more = IsFront marks more

pub order : IsOrder Front
order = fronts (λ (marks : List Mark). marks)

same : (marks : List Mark) → Front marks marks
same marks = order.itself marks

one_more : (marks : List Mark) (mark : Mark) → Front marks (marks ++ mark ∷ [])
one_more marks mark = record { later = mark ∷ []; all_of = refl }

-- from these marks, each end and each cut of the plan has those before it, and maybe more
pub record Rises {E T : Type 0} (err : E → List Mark) (ok : T → List Mark) (marks : List Mark) (plan : Plan E T) : Type 0 where
  pub up : Ascends Front err ok marks plan

-- ---- step by step

module _ {E T : Type 0} {err : E → List Mark} {ok : T → List Mark} where
  done_so : {marks : List Mark} {t : T} → Front marks (ok t) → Rises err ok marks (let plan : Plan E T = done t in plan)
  unfolding Ascends
  done_so more = record { up = more }

  stop_so : {marks : List Mark} {left : E} → Front marks (err left) → Rises err ok marks (let plan : Plan E T = stop left in plan)
  unfolding Ascends
  stop_so more = record { up = more }

  read_so : {marks : List Mark} {left : E} {at : ℕ} {later : Line → Plan E T} → Front marks (err left) → ((line : Line) → Rises err ok (err left) (later line))
      → Rises err ok marks (read left at later)
  unfolding Ascends
  read_so more rest = record { up = (more, λ line whole. (rest line).up) }

  latch_so : {marks : List Mark} {left : E} {regs : Regs} {later : Plan E T} → Front marks (err left) → Rises err ok (err left) later
      → Rises err ok marks (latch left regs later)
  unfolding Ascends
  latch_so more rest = record { up = (more, rest.up) }

  either : {marks : List Mark} {first second : Plan E T} (b : Bool) → Rises err ok marks first → Rises err ok marks second
      → Rises err ok marks (if b then first else second)
  either true one two = one
  either false one two = two

-- what makes no mark
still_up : {E T : Type 0} (marks : List Mark) (plan : Plan E T) → Ascends Front (λ left. marks) (λ t. marks) marks plan
unfolding Ascends
still_up marks (done t) = same marks
still_up marks (stop left) = same marks
still_up marks (read left at later) = (same marks, λ line whole. still_up marks (later line))
still_up marks (write left at line later) = (same marks, still_up marks later)
still_up marks (latch left regs later) = (same marks, still_up marks later)

still : {E T : Type 0} (marks : List Mark) (plan : Plan E T) → Rises (λ left. marks) (λ t. marks) marks plan
still marks plan = record { up = still_up marks plan }

-- one plan and then another, a plan in other words, and turns
bind_so : {E T U : Type 0} {err : E → List Mark} {ok : U → List Mark} {between : T → List Mark} {marks : List Mark} {plan : Plan E T} (next : T → Plan E U)
    → Rises err between marks plan → ((t : T) → Rises err ok (between t) (next t)) → Rises err ok marks (bind plan next)
bind_so {err = err} {ok = ok} {between = between} {marks = marks} {plan = plan} next first rest =
    record { up = ascends_bind Front err between ok order marks plan next first.up (λ t. (rest t).up) }

mapped_so : {E F T U : Type 0} (f : E → F) (h : T → U) {err : F → List Mark} {ok : U → List Mark} {marks : List Mark} {plan : Plan E T}
    → Rises (λ left. err (f left)) (λ t. ok (h t)) marks plan → Rises err ok marks (mapped f h plan)
mapped_so f h {err = err} {ok = ok} {marks = marks} {plan = plan} it = record { up = ascends_mapped Front f h err ok marks plan it.up }

from_more : {E T : Type 0} {err : E → List Mark} {ok : T → List Mark} {marks more : List Mark} {plan : Plan E T} → Front marks more
    → Rises err ok more plan → Rises err ok marks plan
from_more {err = err} {ok = ok} {marks = marks} {more = more} {plan = plan} front it =
    record { up = ascends_from Front err ok order marks more plan front it.up }

turns_so : {E T : Type 0} {err : E → List Mark} (at : T → List Mark) (turn : ℕ → T → Plan E T) (n : ℕ) (t : T)
    → ((i : ℕ) (t : T) → Rises err at (at t) (turn i t)) → Rises err at (at t) (repeated turn 0 n t)
turns_so {err = err} at turn n t each = record { up = ascends_repeated Front err at order turn 0 n t (λ i t. (each i t).up) }

-- ---- a path fetched

abbrev of_parts : {A : Type 0} → FetchParts × A → List Mark
of_parts end = end.0.ledger.marks

known : (x : ℕ) (line : Line) (at : FetchParts) → Rises of_parts of_parts at.ledger.marks (known_plan x line at)
known x line at = either _ (done_so (same at.ledger.marks)) (stop_so (same at.ledger.marks))

check : (f : Formulas) (root : List ℕ) (bank x : ℕ) (at : FetchParts) → Rises of_parts of_parts at.ledger.marks (check_plan f root bank x at)
unfolding check_plan
check f root bank x at =
    read_so (same at.ledger.marks) (λ line. either _ (known x line (fetch_parts at.cache at.ledger (risen at.digests))) (stop_so (same at.ledger.marks)))

place : (bank x : ℕ) (at : FetchParts × Line) → Rises of_parts of_parts (of_parts at) (place_plan bank x at)
unfolding place_plan
place bank x at = mapped_so _ _ (still (of_parts at) (room_plan at.0.cache bank x))

level : (f : Formulas) (root : List ℕ) (bank x : ℕ) (at : FetchParts) → Rises of_parts of_parts at.ledger.marks (level_plan f root bank x at)
unfolding level_plan
level f root bank x at =
    either _ (done_so (same at.ledger.marks)) (bind_so (place_plan bank x) (check f root bank x at) (place bank x))

fetch : (f : Formulas) (root : List ℕ) (page : ℕ) (at : FetchParts) → Rises of_parts of_parts at.ledger.marks (fetch_plan f root page at)
fetch f root page at =
    turns_so of_parts (fetch_turn f root at.cache.shape page) (at.cache.shape.levels + 1) (at, tt)
    (λ j before. level f root j (path_at at.cache.shape page j) before.0)

-- ---- parts of the engine's calls

abbrev pub of_chip : {A : Type 0} → Chip × A → List Mark
of_chip end = end.0.ledger.marks

fetch_path : (setup : Setup) (root : List ℕ) (page : ℕ) (chip : Chip) → Rises of_chip of_chip chip.ledger.marks (fetch_path_plan setup root page chip)
unfolding fetch_path_plan
fetch_path setup root page chip = mapped_so _ _ (fetch setup.formulas root page (fetch_parts_of chip))

opened : (at : ℕ) (ctr : Ctr) (cipher tags : Line) (chip : Chip) (plain : Option Line)
    → Rises of_chip of_chip chip.ledger.marks (opened_plan at ctr cipher tags chip plain)
opened at ctr cipher tags chip None = stop_so (same chip.ledger.marks)
opened at ctr cipher tags chip (Some plain) = either _ (done_so (same chip.ledger.marks)) (stop_so (same chip.ledger.marks))

unseal : (setup : Setup) (at : ℕ) (ctr : Ctr) (chip : Chip) → Rises of_chip of_chip chip.ledger.marks (unseal_plan setup at ctr chip)
unfolding unseal_plan
unseal setup at ctr chip =
    read_so (same chip.ledger.marks) (λ cipher. read_so (same chip.ledger.marks) (λ tags.
    opened at ctr cipher tags (with_tags chip (risen chip.tags)) (unsealed setup.formulas at ctr cipher (tag_slot tags at))))

-- a group makes its mark as it is armed
group : {S : Type 0} (of : S → List Mark) (armed : Regs) (before after : S) → IsFront (of before) (of after)
    → Rises (λ left. of left.0) (λ end. of end.0) (of before) (group_plan armed before after)
unfolding group_plan
group of armed before after more =
    latch_so (same (of before))
    (from_more more (mapped_so _ _ (still (of after) (finish_plan armed))))

commit : (g : Shape) (next : NextSeal) (regs : Regs) (ledger : LedgerState)
    → Rises (λ left. left.0.marks) (λ end. end.0.marks) ledger.marks (commit_plan g next regs ledger)
unfolding commit_plan
commit g next regs ledger =
    mapped_so _ _ (group (λ (l : LedgerState). l.marks) (armed g next regs) ledger (with_seal ledger next) (one_more ledger.marks (Seal next.at next.ctr next.cipher next.tag)))

seal_anew : (setup : Setup) (held : HeldLine) (left : ℕ) (regs : Regs) (before : Chip × Unsealed)
    → Rises of_chip of_chip (of_chip before) (seal_anew_plan setup held left regs before)
seal_anew setup held left regs before =
    mapped_so _ _ (commit setup.shape (next_seal_of setup.formulas held.at held.next before.1.plain before.1.tag_line) regs before.0.ledger)

reseal : (setup : Setup) (n : ℕ) (regs : Regs) (chip : Chip) → Rises of_chip of_chip chip.ledger.marks (reseal_plan setup n regs chip)
unfolding reseal_plan
reseal setup n regs chip =
    bind_so (seal_anew_plan setup (held_of (register_at regs n)) (length (not_done (register_at regs n))) regs)
    (unseal setup (held_of (register_at regs n)).at (held_of (register_at regs n)).now chip)
    (seal_anew setup (held_of (register_at regs n)) (length (not_done (register_at regs n))) regs)

-- ---- the parts of a write

overflow_so : (chip : Chip) (end : Result Bool Fault) → Rises of_chip (λ b. chip.ledger.marks) chip.ledger.marks (overflow_end chip end)
overflow_so chip (Ok b) = done_so (same chip.ledger.marks)
overflow_so chip (Err fault) = stop_so (same chip.ledger.marks)

overflow : (setup : Setup) (at : ℕ) (chip : Chip) → Rises of_chip (λ b. chip.ledger.marks) chip.ledger.marks (overflow_plan setup at chip)
unfolding overflow_plan
overflow setup at chip =
    overflow_so chip (overflow_of (cached_block setup.shape chip.engine (page_of at)) (page_of at) (index_in_page at))

plain : (setup : Setup) (regs : Regs) (posted : Posted) (chip : Chip) → Rises of_chip of_chip chip.ledger.marks (plain_plan setup regs posted chip)
unfolding plain_plan
plain setup regs posted chip =
    either _ (done_so (same chip.ledger.marks)) (mapped_so _ _ (unseal setup posted.at (its_counter setup regs posted.at chip) chip))

finish_page : (setup : Setup) (n : ℕ) (regs : Regs) (chip : Chip) → Rises of_chip of_chip chip.ledger.marks (finish_page_plan setup n regs chip)
unfolding finish_page_plan
finish_page setup n regs chip =
    turns_so of_chip (finish_turn setup n) (length (not_done (register_at regs n))) (chip, regs)
    (λ i before. mapped_so _ _ (reseal setup n before.1 before.0))

finish_found : (setup : Setup) (regs : Regs) (chip : Chip) (found : Option ℕ)
    → Rises of_chip of_chip chip.ledger.marks (finish_found_plan setup regs chip found)
unfolding finish_found_plan
finish_found setup regs chip None = done_so (same chip.ledger.marks)
finish_found setup regs chip (Some n) = finish_page setup n regs chip

finish_for : (setup : Setup) (page : ℕ) (overflows : Bool) (regs : Regs) (chip : Chip)
    → Rises of_chip of_chip chip.ledger.marks (finish_for_plan setup page overflows regs chip)
unfolding finish_for_plan
finish_for setup page overflows regs chip =
    either _ (finish_found setup regs chip (register_to_finish regs.progress.items page)) (done_so (same chip.ledger.marks))

begin_page : (setup : Setup) (page : ℕ) (regs : Regs) (chip : Chip) → Rises of_chip of_chip chip.ledger.marks (begin_page_plan setup page regs chip)
unfolding begin_page_plan
begin_page setup page regs chip = mapped_so _ _ (group (λ (c : Chip). c.ledger.marks) _ _ _ (one_more chip.ledger.marks (Begin page)))

begin_for : (setup : Setup) (page : ℕ) (overflows : Bool) (regs : Regs) (chip : Chip)
    → Rises of_chip of_chip chip.ledger.marks (begin_for_plan setup page overflows regs chip)
unfolding begin_for_plan
begin_for setup page overflows regs chip = either _ (begin_page setup page regs chip) (done_so (same chip.ledger.marks))

seal_next : (setup : Setup) (at : ℕ) (plain : Line) (regs : Regs) (chip : Chip)
    → Rises of_chip of_chip chip.ledger.marks (seal_next_plan setup at plain regs chip)
unfolding seal_next_plan
seal_next setup at plain regs chip =
    read_so (same chip.ledger.marks) (λ tags. mapped_so _ _ (group (λ (c : Chip). c.ledger.marks) _ _ _ (one_more chip.ledger.marks _)))

write_posted : (setup : Setup) (regs : Regs) (posted : Posted) (chip : Chip)
    → Rises of_chip of_chip chip.ledger.marks (write_plan setup regs posted chip)
unfolding write_plan
write_posted setup regs posted chip =
    bind_so _ (mapped_so _ _ (fetch_path setup regs.root (page_of posted.at) chip)) (λ fetched.
    bind_so _ (overflow setup posted.at fetched.0) (λ overflows.
    bind_so _ (mapped_so _ _ (plain setup regs posted fetched.0)) (λ made.
    bind_so _ (mapped_so _ _ (finish_for setup (page_of posted.at) overflows regs made.0)) (λ finished.
    bind_so _ (mapped_so _ _ (still finished.0.ledger.marks (name_plan (page_of posted.at) finished.0.engine))) (λ named.
    bind_so _ (begin_for setup (page_of posted.at) overflows finished.1 named.0) (λ begun.
    mapped_so _ _ (seal_next setup posted.at made.1 begun.1 begun.0)))))))

-- ---- the calls

oldest_page : (setup : Setup) (regs : Regs) (chip : Chip) (registers : List Progress)
    → Rises of_chip of_chip chip.ledger.marks (oldest_page_plan setup regs chip registers)
unfolding oldest_page_plan
oldest_page setup regs chip [] = done_so (same chip.ledger.marks)
oldest_page setup regs chip (register ∷ others) = mapped_so _ _ (reseal setup 0 regs chip)

module _ {A : Type 0} (chip : Chip) (plan : Plan (Chip × Fault) (Chip × A)) (it : Rises of_chip of_chip chip.ledger.marks plan) where
  marks_front : CutMakesAFront plan
  marks_front lines old a b first second told live off on cut whole =
      at_ends first second (cut_is_below Front of_chip of_chip chip.ledger.marks lines order it.up told live off on cut whole)
    where
      at_ends : (first second : Result (Chip × A) (Chip × Fault)) → Front (state_at of_chip of_chip first) (state_at of_chip of_chip second)
          → Front (marks_at first) (marks_at second)
      at_ends (Ok t) (Ok s) it = it
      at_ends (Ok t) (Err s) it = it
      at_ends (Err t) (Ok s) it = it
      at_ends (Err t) (Err s) it = it

  marks_kept : KeepsMarks chip plan
  marks_kept old new end follows = at_end end (ends_above Front of_chip of_chip chip.ledger.marks order it.up follows)
    where
      at_end : (end : Result (Chip × A) (Chip × Fault)) → Front chip.ledger.marks (state_at of_chip of_chip end) → Front chip.ledger.marks (marks_at end)
      at_end (Ok t) it = it
      at_end (Err t) it = it

pub write_front : CutWritesMakeFronts
write_front setup regs posted chip = marks_front chip (write_plan setup regs posted chip) (write_posted setup regs posted chip)

pub turn_front : CutTurnsMakeFronts
turn_front setup regs chip = marks_front chip (turn_plan setup regs chip) (mapped_so _ _ (oldest_page setup regs chip regs.progress.items))

pub write_keeps : WritesKeepMarks
write_keeps setup regs posted chip = marks_kept chip (write_plan setup regs posted chip) (write_posted setup regs posted chip)

pub turn_keeps : TurnsKeepMarks
turn_keeps setup regs chip = marks_kept chip (turn_plan setup regs chip) (mapped_so _ _ (oldest_page setup regs chip regs.progress.items))
