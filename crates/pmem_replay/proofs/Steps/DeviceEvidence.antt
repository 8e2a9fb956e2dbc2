-- What refusals and exhibits show of the device as it stands afterwards.
use Rattle.std.proofs.Common.{ℕ, ◌≡◌, ◌≢◌, ◌<◌, ◌≤◌, ◌+◌, ◌^◌, List, Option, Some, None, refl, sym, ap, subst, ◌∙◌, arith, lit<}
use Rattle.std.specs.Prelude.{All, IfSome, option_map}
use Rattle.std.proofs.Math.Nat.{pow-le-pow_right}
use Rattle.std.proofs.lemmas.Option.{same_Some, none-some}
use Rattle.pmem_base.specs.declared.lines.Line.{Line}
use Rattle.pmem_base.specs.declared.lines.Ctr.{Ctr}
use Rattle.pmem_base.specs.Shape.{Shape, IsShape}
use Rattle.pmem_base.specs.Layout as layout
use Rattle.pmem_base.specs.Lines.{IsLine, IsCtr, IsTag, line_at, tag_slot}
use Rattle.pmem_base.specs.Ranges.{IsExhibitValue}
use Rattle.pmem_base.specs.declared.answers.Exhibit.{Exhibit}
use Rattle.pmem_base.specs.declared.answers.Exhibit.TheVariants.{Clash, Forged}
use Rattle.pmem_base.specs.declared.answers.Mark.{Mark}
use Rattle.pmem_base.specs.declared.answers.Mark.TheVariants.{Seal}
use Rattle.pmem_base.proofs.LineLemmas.{IsLine-line_at}
use Rattle.pmem_base.specs.Marks.{SealOf, last_seal}
use Rattle.pmem_base.proofs.LayoutLemmas.{pages-most}
use Rattle.seal_ledger.specs.Ledger.{LedgerState, IsMark}
use Rattle.seal_ledger.proofs.MarkLemmas.{last_seal_has}
use Rattle.suite.specs.Formulas.{AreInRange}
use Rattle.suite.specs.Setup.{Setup}
use Rattle.pmem_engine.specs.Engine.{EngineState}
use Rattle.pmem_engine.specs.Faults.{IsTagRefused, IsClashShown, IsForgedShown}
use Rattle.pmem_replay.specs.World.{WorldState}
use Rattle.watched_board.specs.declared.taken.Taken.{Taken}
use Rattle.watched_board.specs.Watching.{none_taken}
use Rattle.pmem_replay.specs.During.{parts_in}
use Rattle.pmem_replay.specs.Stepped.{IsTagWrong, IsExhibitSeen}
use Rattle.pmem_replay.proofs.Steps.FaultCauses.{on_path-within}

-- places are small numbers
pub small_line : (g : Shape) → IsShape g → (a : ℕ) → a < layout.data_lines g → a < 2 ^ 32
small_line g shape a within = omega (arith, within, pages-most g.levels shape.at_most_six_levels)

pub small_position : (g : Shape) → IsShape g → (x : ℕ) → x < layout.meta_lines g → x < 2 ^ 32
small_position g shape x within =
    let most : 4 ^ (g.levels + 1) ≤ 16384 = pow-le-pow_right {n = 4} (lit< tt) {i = g.levels + 1} {j = 7} (omega (arith, shape.at_most_six_levels)) in
    omega (arith, within, most)

-- a refused metadata line has another digest than the true one
pub meta_wrong : (setup : Setup) (new : WorldState) (before : LedgerState) (x : ℕ) (line : Line)
    → line ≡ line_at new.board.lines (layout.meta_line setup.shape x) → new.ledger.truth ≡ before.truth
    → setup.formulas.digest_of x line ≢ setup.formulas.digest_of x (line_at before.truth x)
    → setup.formulas.digest_of x (line_at new.board.lines (layout.meta_line setup.shape x))
    ≢ setup.formulas.digest_of x (line_at new.ledger.truth x)
meta_wrong setup new before x line read truth other same =
    other (ap (setup.formulas.digest_of x) read ∙ same ∙ ap (λ truth. setup.formulas.digest_of x (line_at truth x)) truth)

-- a refused data line's tag isn't the one in its slot
pub tag_wrong : (setup : Setup) (new : WorldState) (after : EngineState) (taken : Taken) (a : ℕ)
    → IsTagRefused setup a (parts_in new after taken) → IsTagWrong setup new a
tag_wrong setup new after taken a refused = by_seal (last_seal new.ledger.marks a) refused.unsealed.counter
  where
    by_seal : (seal : Option SealOf) → option_map (λ s. s.ctr) seal ≡ Some refused.ctr
        → IfSome seal (λ s.
        setup.formulas.tag_of a s.ctr (line_at new.board.lines a)
        ≢ tag_slot (line_at new.board.lines (layout.tag_line setup.shape a)) a)
    by_seal None is = tt
    by_seal (Some seal) is =
        λ same.
        refused.other_tag
        (ap (λ ctr. setup.formulas.tag_of a ctr refused.cipher) (sym (same_Some seal.ctr refused.ctr is))
        ∙ ap (setup.formulas.tag_of a seal.ctr) refused.unsealed.cipher_read
        ∙ same
        ∙ ap (λ line. tag_slot line a) (sym refused.unsealed.tag_read)
        ∙ refused.unsealed.its_slot)

-- a clash shows a line of the device, and its numbers and bytes are in range
pub clash_sight : (setup : Setup) (old new : WorldState) (engine after : EngineState) (taken : Taken) (page : ℕ) (exhibit : Exhibit)
    → IsShape setup.shape → page < layout.pages setup.shape → All IsLine new.board.lines → All IsLine old.ledger.truth
    → IsClashShown setup page (parts_in old engine none_taken) (parts_in new after taken) → new.ledger.exhibit ≡ Some exhibit
    → IsExhibitValue exhibit × IsExhibitSeen setup new exhibit
clash_sight setup old new engine after taken page exhibit shape within whole truth clash its =
    let in_tree = on_path-within setup.shape page clash.x within clash.fetched.on_path in
    subst (λ e. IsExhibitValue e × IsExhibitSeen setup new e)
    (same_Some (Clash clash.x clash.line (line_at old.ledger.truth clash.x)) exhibit (sym clash.exhibit ∙ its)) (
      (
        small_position setup.shape shape clash.x in_tree,
        subst IsLine (sym clash.fetched.read) (IsLine-line_at new.board.lines (layout.meta_line setup.shape clash.x) whole),
        IsLine-line_at old.ledger.truth clash.x truth,
      ),
      clash.fetched.read,
    )

-- the counter of a last seal is in its range
pub seal_counter : (g : Shape) (marks : List Mark) (a : ℕ) (ctr : Ctr) → All (IsMark g) marks → option_map (λ s. s.ctr) (last_seal marks a) ≡ Some ctr → IsCtr ctr
seal_counter g marks a ctr each is = by_seal (last_seal marks a) refl is
  where
    by_seal : (seal : Option SealOf) → last_seal marks a ≡ seal → option_map (λ s. s.ctr) seal ≡ Some ctr → IsCtr ctr
    by_seal None there is = absurd (none-some ctr is)
    by_seal (Some seal) there is =
        let mark : IsMark g (Seal a seal.ctr seal.cipher seal.tag) =
        last_seal_has (IsMark g) marks a seal each there in
        subst IsCtr (same_Some seal.ctr ctr is) mark.1

pub forged_sight_by : (setup : Setup) (new : WorldState) (after : EngineState) (taken : Taken) (a : ℕ) (exhibit : Exhibit)
    → IsShape setup.shape → AreInRange setup.formulas → a < layout.data_lines setup.shape → All IsLine new.board.lines
    → (forged : IsForgedShown setup a (parts_in new after taken)) → new.ledger.exhibit ≡ Some exhibit → IsCtr forged.ctr
    → IsExhibitValue exhibit × IsExhibitSeen setup new exhibit
forged_sight_by setup new after taken a exhibit shape in_range within whole forged its counter =
    let cipher_whole : IsLine forged.cipher =
    subst IsLine (sym forged.unsealed.cipher_read) (IsLine-line_at new.board.lines a whole) in
    subst (λ e. IsExhibitValue e × IsExhibitSeen setup new e)
    (same_Some (Forged a forged.ctr forged.cipher forged.tag) exhibit (sym forged.exhibit ∙ its)) (
      (
        small_line setup.shape shape a within,
        counter,
        cipher_whole,
        subst IsTag forged.right_tag (in_range.tags a forged.ctr forged.cipher counter cipher_whole),
      ),
      (
        forged.unsealed.cipher_read,
        sym forged.unsealed.its_slot ∙ ap (λ line. tag_slot line a) forged.unsealed.tag_read,
      ),
    )

-- a forged seal shows a line and a slot of the device, and its numbers and bytes are in range
pub forged_sight : (setup : Setup) (new : WorldState) (after : EngineState) (taken : Taken) (a : ℕ) (exhibit : Exhibit)
    → IsShape setup.shape → AreInRange setup.formulas → a < layout.data_lines setup.shape → All IsLine new.board.lines
    → All (IsMark setup.shape) new.ledger.marks
    → IsForgedShown setup a (parts_in new after taken) → new.ledger.exhibit ≡ Some exhibit
    → IsExhibitValue exhibit × IsExhibitSeen setup new exhibit
forged_sight setup new after taken a exhibit shape in_range within whole marks forged its =
    forged_sight_by setup new after taken a exhibit shape in_range within whole forged its
    (seal_counter setup.shape new.ledger.marks a forged.ctr marks forged.unsealed.counter)
