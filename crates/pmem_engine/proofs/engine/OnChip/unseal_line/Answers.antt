-- Both lines were read; the tag is another one, or the audit stops, or the line is unsealed.
use Rattle.std.proofs.Common.{◌≡◌, ◌≢◌, Ok, Err, refl, sym, ap, subst, ◌∙◌, rules}
use Rattle.pmem_base.specs.declared.answers.Exhibit.TheVariants.{Forged}
use Rattle.pmem_base.specs.Lines.{tag_slot}
use Rattle.pmem_base.specs.Layout as layout
use Rattle.suite.specs.Setup.{Setup}
use Rattle.board.specs.Steps.{HasRead}
use Rattle.seal_ledger.specs.Notes.{HasExhibit}
use Rattle.pmem_engine.specs.Parts.{parts_with, setup_with_at}
use Rattle.pmem_engine.specs.Inner.{HasUnsealed}
use Rattle.pmem_base.specs.declared.lines.Line.{Line}
use Rattle.pmem_base.specs.Marks.{last_seal}
use Rattle.line_seal.specs.Seals.{unsealed}
use Rattle.call_plan.specs.Following.{Follows}
use Rattle.call_plan.proofs.Steps.{ended_err}
use Rattle.pmem_engine.specs.Engine.{ChipState}
use Rattle.pmem_engine.specs.declared.fault.LineFault.TheVariants as AtLine
use Rattle.seal_ledger.specs.Notes.{shown}
use Rattle.pmem_engine.specs.Plans.{Chip, chip_with_at, unseal_plan}
use Rattle.seal_ledger.proofs.NoteLemmas.{shown_is, last_cipher, other_cipher}
use Rattle.pmem_engine.proofs.PlannedCalls.Chips.{same_chip}
use Rattle.pmem_engine.proofs.PlannedCalls.UnsealPlans.{unread, half_read, not_unsealed, is_unsealed, is_shown}
use Rattle.pmem_engine.proofs.engine.OnChip.unseal_line.Given.{Over}
use Rattle.pmem_engine.proofs.engine.OnChip.unseal_line.Goals.{After-tag_at-tag}
use Rattle.pmem_engine.proofs.CheckedReads.UnsealedLines.{HasReadBoth, read_both, refused, stopped, opened, right_tag}
use Rattle.pmem_engine.proofs.engine.OnChip.unseal_line.Goals as goal

module _ (g : Over) (c : After-tag_at-tag g) where
  abbrev setup : Setup
  setup = setup_with_at g.S.Suite c.args.self.now c.args.suite.now

  abbrev chip : Chip
  chip = chip_with_at g.S.Suite g.A.Audit c.args.self.now c.args.suite.now c.args.audit.now

  abbrev tags : Line
  tags = c.in_ok-tag_line.tag_line

  second : HasRead (g.B.Board.device c.read_line.new.self) (layout.tag_line setup.shape c.args.at) tags (g.B.Board.device c.read_line-2.new.self)
  second =
      subst (λ n. HasRead (g.B.Board.device c.read_line.new.self) n tags (g.B.Board.device c.read_line-2.new.self))
      (c.tag_line.ensures.value ∙ ap (λ (e : ChipState). layout.tag_line e.shape c.args.at) c.self.view_is) c.in_ok-tag_line.ensures.ok

  slot : c.tag_at-tag.result ≡ tag_slot tags c.args.at
  slot = c.tag_at-tag.ensures

  both : HasReadBoth setup c.args.at c.in_ok-cipher.cipher tags (g.B.Board.device c.args.board.now) (g.B.Board.device c.read_line-2.new.self)
  both =
      read_both setup c.args.at c.in_ok-cipher.cipher tags (g.B.Board.device c.args.board.now) (g.B.Board.device c.read_line.new.self)
      (g.B.Board.device c.read_line-2.new.self) c.in_ok-cipher.ensures.ok second

-- ---- the plan

pub returns-in_err-cipher-clause-plan : goal.returns-in_err-cipher-clause-plan
returns-in_err-cipher-clause-plan g c = search (rules, ended_err, unread)

pub returns-in_err-tag_line-clause-plan : goal.returns-in_err-tag_line-clause-plan
returns-in_err-tag_line-clause-plan g c =
    ended_err c.from_residual-in_err-tag_line.result c.from_residual-in_err-tag_line.ensures.1
    (half_read (setup_with_at g.S.Suite c.args.self.now c.args.suite.now) c.args.at c.args.ctr
    (chip_with_at g.S.Suite g.A.Audit c.args.self.now c.args.suite.now c.args.audit.now) c.in_ok-cipher.ensures.ok c.is_whole.ensures
    c.in_err-tag_line.ensures.cut c.in_err-tag_line.ensures.only_off)

pub returns-in-None-clause-plan : goal.returns-in-None-clause-plan
returns-in-None-clause-plan g c =
    let here = (goal.at.returns-in-None-clause-plan g c).After-tag_at-tag in
    subst (λ (end : Chip). Follows (unseal_plan (setup g here) c.args.at c.args.ctr (chip g here)) (g.B.Board.device c.args.board.now)
    (g.B.Board.device c.read_line-2.new.self) (Err (end, AtLine.Tag c.args.at)))
    (sym (same_chip c.args.self.now (refl {a = (chip g here).ledger}) c.unseal.ensures.tags c.unseal.ensures.digests))
    (not_unsealed (setup g here) c.args.at c.args.ctr (chip g here) c.in_ok-cipher.ensures.ok c.is_whole.ensures (second g here) c.is_whole-2.ensures
    (ap (unsealed (setup g here).formulas c.args.at c.args.ctr c.in_ok-cipher.cipher) (sym (slot g here)) ∙ sym c.in-None.ensures.value))

pub returns-in-Stop-clause-plan : goal.returns-in-Stop-clause-plan
returns-in-Stop-clause-plan g c =
    let here = (goal.at.returns-in-Stop-clause-plan g c).After-tag_at-tag in
    let ledger = (chip g here).ledger in
    let cipher : Line = c.in_ok-cipher.cipher in
    subst (λ (end : Chip). Follows (unseal_plan (setup g here) c.args.at c.args.ctr (chip g here)) (g.B.Board.device c.args.board.now)
    (g.B.Board.device c.read_line-2.new.self) (Err (end, AtLine.Shown)))
    (sym (same_chip c.args.self.now
    (shown_is ledger (g.A.Audit.ledger c.note_unseal.new.self) (Forged c.args.at c.args.ctr cipher c.tag_at-tag.result) c.in-Stop.ensures.cipher.1
    ∙ ap (λ tag. shown ledger (Forged c.args.at c.args.ctr cipher tag)) (slot g here)) c.unseal.ensures.tags c.unseal.ensures.digests))
    (is_shown (setup g here) c.args.at c.args.ctr (chip g here) c.in_ok-cipher.ensures.ok c.is_whole.ensures (second g here) c.is_whole-2.ensures
    c.in-Some.plain (ap (unsealed (setup g here).formulas c.args.at c.args.ctr cipher) (sym (slot g here)) ∙ sym c.in-Some.ensures.value)
    (other_cipher (last_seal ledger.marks c.args.at) cipher c.in-Stop.ensures.cipher.0 c.requires.sealed))

pub returns-in-On-clause-plan : goal.returns-in-On-clause-plan
returns-in-On-clause-plan g c =
    let here = (goal.at.returns-in-On-clause-plan g c).After-tag_at-tag in
    let cipher : Line = c.in_ok-cipher.cipher in
    subst (λ (end : Chip). Follows (unseal_plan (setup g here) c.args.at c.args.ctr (chip g here)) (g.B.Board.device c.args.board.now)
    (g.B.Board.device c.read_line-2.new.self) (Ok (end, record { plain = c.in-Some.plain; tag_line = tags g here })))
    (sym (same_chip c.args.self.now c.in-On.ensures.cipher.1 c.unseal.ensures.tags c.unseal.ensures.digests))
    (is_unsealed (setup g here) c.args.at c.args.ctr (chip g here) c.in_ok-cipher.ensures.ok c.is_whole.ensures (second g here) c.is_whole-2.ensures
    c.in-Some.plain (ap (unsealed (setup g here).formulas c.args.at c.args.ctr cipher) (sym (slot g here)) ∙ sym c.in-Some.ensures.value)
    (last_cipher (last_seal (chip g here).ledger.marks c.args.at) cipher c.in-On.ensures.cipher.0))

-- ---- the relation

pub returns-in-None-clause-unsealed : goal.returns-in-None-clause-unsealed
returns-in-None-clause-unsealed g c =
    let here = (goal.at.returns-in-None-clause-unsealed g c).After-tag_at-tag in
    refused (setup g here) c.args.self.now (chip g here).ledger c.args.at c.args.ctr c.in_ok-cipher.cipher (tags g here)
    (g.B.Board.device c.args.board.now) (g.B.Board.device c.read_line-2.new.self) (chip g here).tags (chip g here).digests
    (g.S.Suite.tags c.unseal.new.suite) (g.S.Suite.digests c.unseal.new.suite) (both g here) c.unseal.ensures.tags c.unseal.ensures.digests
    c.requires.line
    (subst (λ tag. (setup g here).formulas.tag_of c.args.at c.args.ctr c.in_ok-cipher.cipher ≢ tag) (slot g here) (c.in-None.ensures.none.0 refl))

pub returns-in-Stop-clause-unsealed : goal.returns-in-Stop-clause-unsealed
returns-in-Stop-clause-unsealed g c =
    let here = (goal.at.returns-in-Stop-clause-unsealed g c).After-tag_at-tag in
    let right =
    right_tag (setup g here).formulas c.args.at c.args.ctr c.in_ok-cipher.cipher c.tag_at-tag.result (tag_slot (tags g here) c.args.at)
    c.in-Some.plain (slot g here) (sym c.in-Some.ensures.value) in
    stopped (setup g here) c.args.self.now (chip g here).ledger c.args.at c.args.ctr c.in_ok-cipher.cipher (tags g here)
    (g.B.Board.device c.args.board.now) (g.B.Board.device c.read_line-2.new.self) (chip g here).tags (chip g here).digests
    (g.S.Suite.tags c.unseal.new.suite) (g.S.Suite.digests c.unseal.new.suite) (both g here) c.unseal.ensures.tags c.unseal.ensures.digests
    (g.A.Audit.ledger c.note_unseal.new.self) c.requires.line c.requires.sealed right.0 c.in-Stop.ensures.cipher.0
    (subst
    (λ tag. HasExhibit (chip g here).ledger (g.A.Audit.ledger c.note_unseal.new.self) (Forged c.args.at c.args.ctr c.in_ok-cipher.cipher tag))
    (slot g here) c.in-Stop.ensures.cipher.1)

pub returns-in-On-clause-unsealed : goal.returns-in-On-clause-unsealed
returns-in-On-clause-unsealed g c =
    let here = (goal.at.returns-in-On-clause-unsealed g c).After-tag_at-tag in
    let right =
    right_tag (setup g here).formulas c.args.at c.args.ctr c.in_ok-cipher.cipher c.tag_at-tag.result (tag_slot (tags g here) c.args.at)
    c.in-Some.plain (slot g here) (sym c.in-Some.ensures.value) in
    subst
    (λ ledger. HasUnsealed (setup g here) c.args.at c.args.ctr
    (parts_with c.args.self.now (g.B.Board.device c.args.board.now) (chip g here).ledger (chip g here).tags (chip g here).digests)
    (parts_with c.args.self.now (g.B.Board.device c.read_line-2.new.self) ledger (g.S.Suite.tags c.unseal.new.suite)
    (g.S.Suite.digests c.unseal.new.suite))
    (Ok (record { plain = c.in-Some.plain; tag_line = tags g here })))
    (sym c.in-On.ensures.cipher.1)
    (opened (setup g here) c.args.self.now (chip g here).ledger c.args.at c.args.ctr c.in_ok-cipher.cipher (tags g here)
    (g.B.Board.device c.args.board.now) (g.B.Board.device c.read_line-2.new.self) (chip g here).tags (chip g here).digests
    (g.S.Suite.tags c.unseal.new.suite) (g.S.Suite.digests c.unseal.new.suite) (both g here) c.unseal.ensures.tags c.unseal.ensures.digests
    c.in-Some.plain c.requires.line right.1 right.0 c.requires.sealed c.in-On.ensures.cipher.0)
