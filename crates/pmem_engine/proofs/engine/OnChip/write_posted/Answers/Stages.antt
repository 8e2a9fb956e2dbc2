-- What holds after each part of a posted write, and how far it has come along its plan.
use Rattle.std.proofs.Common.{◌≡◌, ◌≤◌, ◌+◌, [], ◌++◌, length, Ok, refl, sym, ap, subst₂, ◌∙◌, arith}
use Rattle.std.proofs.lemmas.List.{length-append}
use Rattle.pmem_base.specs.declared.lines.Ctr.{Ctr}
use Rattle.pmem_base.specs.declared.commands.Posted.{Posted}
use Rattle.pmem_base.specs.declared.registers.Regs.{Regs}
use Rattle.pmem_base.specs.Layout.{page_of, index_in_page}
use Rattle.board.specs.Device.{Device}
use Rattle.call_plan.specs.Plans.{Plan}
use Rattle.split_counters.specs.Blocks.{unpacked}
use Rattle.bonsai_tree.specs.Positions.{counter_position}
use Rattle.meta_path.specs.Blocks.{line_in}
use Rattle.suite.specs.Setup.{Setup}
use Rattle.seal_ledger.specs.Notes.{HasRoom}
use Rattle.pmem_engine.specs.declared.fault.Fault.{Fault}
use Rattle.pmem_engine.specs.Engine.{ChipState}
use Rattle.pmem_engine.specs.Parts.{Parts, parts_with_at, setup_with_at}
use Rattle.pmem_engine.specs.Inner.{cached_block, HasNamedPath}
use Rattle.pmem_engine.specs.Writing.{overflow_of, HasMadePlain, HasFinishedFor, HasBegunFor}
use Rattle.pmem_engine.specs.Plans.{Chip, chip_with_at}
use Rattle.pmem_engine.proofs.PlannedCalls.PostedPlans.{to_overflow, to_plain, to_finish, to_name, to_begin, to_seal, HasCome, is_fetched, is_known, is_made, is_finished, is_named, is_begun}
use Rattle.pmem_engine.proofs.PostedWrites.WritePremises.{IsAmid, amid_after, amid_finished, room_finished, amid_begun}
use Rattle.pmem_engine.proofs.engine.OnChip.write_posted.Given.{Over}
use Rattle.pmem_engine.proofs.engine.OnChip.write_posted.Goals.{In_ok-fetch, In_ok-overflows, In_ok-plain, In_ok-finish_for, In_ok-name_path, In_ok-begin_for}

-- the parts at a moment of the call
abbrev pub at : (g : Over) → ChipState → g.row.B.Denot → g.row.S.Denot → g.row.A.Denot → Parts
at g = parts_with_at g.B.Board g.S.Suite g.A.Audit

-- a fact of one shape and formulas is one of the same
pub moved : (R : Setup → Type 0) (a b : Setup) → a.shape ≡ b.shape → a.formulas ≡ b.formulas → R a → R b
moved R a b shape formulas = subst₂ (λ s f. R (record { shape = s; formulas = f })) shape formulas

-- ---- after the fetch

module _ (g : Over) (c : In_ok-fetch g) where
  pub amid1 : IsAmid (setup_with_at g.S.Suite c.args.self.now c.args.suite.now) (at g c.fetch.new.self c.fetch.new.board c.fetch.new.suite c.fetch.new.audit)
  amid1 =
      amid_after _ [] (at g c.args.self.now c.args.board.now c.args.suite.now c.args.audit.now) _ (record { its_shape = refl; usable = c.requires.usable })
      c.in_ok-fetch.ensures.fetched.done

-- ---- after the line's overflow is known

module _ (g : Over) (c : In_ok-overflows g) (amid : IsAmid (setup_with_at g.S.Suite c.args.self.now c.args.suite.now) (at g c.fetch.new.self c.fetch.new.board c.fetch.new.suite c.fetch.new.audit)) where
  pub over : overflow_of (cached_block c.args.self.now.shape c.fetch.new.self (page_of c.args.write.now.at)) (page_of c.args.write.now.at)
      (index_in_page c.args.write.now.at) ≡ Ok c.in_ok-overflows.overflows
  over =
      ap (λ shape. overflow_of (cached_block shape c.fetch.new.self (page_of c.args.write.now.at)) (page_of c.args.write.now.at)
      (index_in_page c.args.write.now.at)) (sym amid.its_shape)
      ∙ sym c.in_ok-overflows.ensures.exactly

-- ---- after the plain line is made

module _ (g : Over) (c : In_ok-plain g) (amid : IsAmid (setup_with_at g.S.Suite c.args.self.now c.args.suite.now) (at g c.fetch.new.self c.fetch.new.board c.fetch.new.suite c.fetch.new.audit)) where
  pub made_plain : HasMadePlain (setup_with_at g.S.Suite c.args.self.now c.args.suite.now) c.args.write.now (at g c.fetch.new.self c.fetch.new.board c.fetch.new.suite c.fetch.new.audit) (at g c.fetch.new.self c.plain_after.new.board c.plain_after.new.suite c.plain_after.new.audit) (Ok c.in_ok-plain.plain)
  made_plain =
      moved (λ s. HasMadePlain s c.args.write.now (at g c.fetch.new.self c.fetch.new.board c.fetch.new.suite c.fetch.new.audit) (at g c.fetch.new.self c.plain_after.new.board c.plain_after.new.suite c.plain_after.new.audit) (Ok c.in_ok-plain.plain))
      (setup_with_at g.S.Suite c.fetch.new.self c.fetch.new.suite) _ amid.its_shape (ap g.S.Suite.formulas_of c.fetch.ensures.keys) c.in_ok-plain.ensures.made

  pub amid2 : IsAmid (setup_with_at g.S.Suite c.args.self.now c.args.suite.now) (at g c.fetch.new.self c.plain_after.new.board c.plain_after.new.suite c.plain_after.new.audit)
  amid2 = amid_after _ [] (at g c.fetch.new.self c.fetch.new.board c.fetch.new.suite c.fetch.new.audit) _ amid made_plain.done

-- ---- after a page is finished

module _ (g : Over) (c : In_ok-finish_for g) (amid : IsAmid (setup_with_at g.S.Suite c.args.self.now c.args.suite.now) (at g c.fetch.new.self c.fetch.new.board c.fetch.new.suite c.fetch.new.audit))
    (amid2 : IsAmid (setup_with_at g.S.Suite c.args.self.now c.args.suite.now) (at g c.fetch.new.self c.plain_after.new.board c.plain_after.new.suite c.plain_after.new.audit)) where
  pub finished : HasFinishedFor c.in_ok-overflows.overflows (setup_with_at g.S.Suite c.args.self.now c.args.suite.now) (page_of c.args.write.now.at) (at g c.fetch.new.self c.plain_after.new.board c.plain_after.new.suite c.plain_after.new.audit) (at g c.fetch.new.self c.finish_for.new.board c.finish_for.new.suite c.finish_for.new.audit) (Ok tt)
  finished =
      moved (λ s. HasFinishedFor c.in_ok-overflows.overflows s (page_of c.args.write.now.at) (at g c.fetch.new.self c.plain_after.new.board c.plain_after.new.suite c.plain_after.new.audit) (at g c.fetch.new.self c.finish_for.new.board c.finish_for.new.suite c.finish_for.new.audit) (Ok tt))
      (setup_with_at g.S.Suite c.fetch.new.self c.plain_after.new.suite) _ amid.its_shape
      (ap g.S.Suite.formulas_of (c.plain_after.ensures.keys ∙ c.fetch.ensures.keys)) c.in_ok-finish_for.ensures.finished

  pub amid3 : IsAmid (setup_with_at g.S.Suite c.args.self.now c.args.suite.now) (at g c.fetch.new.self c.finish_for.new.board c.finish_for.new.suite c.finish_for.new.audit)
  amid3 = amid_finished _ (page_of c.args.write.now.at) (at g c.fetch.new.self c.plain_after.new.board c.plain_after.new.suite c.plain_after.new.audit) _ c.in_ok-overflows.overflows amid2 finished

  pub room_left : (same1 : (g.A.Audit.ledger c.fetch.new.audit).marks ≡ (g.A.Audit.ledger c.args.audit.now).marks ++ [])
      (same2 : (g.A.Audit.ledger c.plain_after.new.audit).marks ≡ (g.A.Audit.ledger c.fetch.new.audit).marks ++ [])
      → HasRoom (g.A.Audit.ledger c.finish_for.new.audit) (g.A.Audit.capacity c.args.audit.now) 2
  room_left same1 same2 =
      let room : length (g.A.Audit.ledger c.plain_after.new.audit).marks + 66 ≤ g.A.Audit.capacity c.args.audit.now =
      omega (
        arith,
        ap length same1,
        length-append (g.A.Audit.ledger c.args.audit.now).marks [],
        ap length same2,
        length-append (g.A.Audit.ledger c.fetch.new.audit).marks [],
        c.requires.room,
      ) in
      room_finished _ (page_of c.args.write.now.at) (at g c.fetch.new.self c.plain_after.new.board c.plain_after.new.suite c.plain_after.new.audit) (at g c.fetch.new.self c.finish_for.new.board c.finish_for.new.suite c.finish_for.new.audit) c.in_ok-overflows.overflows (g.A.Audit.capacity c.args.audit.now) 2 room finished

-- ---- after the path is named

module _ (g : Over) (c : In_ok-name_path g) (amid : IsAmid (setup_with_at g.S.Suite c.args.self.now c.args.suite.now) (at g c.fetch.new.self c.fetch.new.board c.fetch.new.suite c.fetch.new.audit))
    (amid3 : IsAmid (setup_with_at g.S.Suite c.args.self.now c.args.suite.now) (at g c.fetch.new.self c.finish_for.new.board c.finish_for.new.suite c.finish_for.new.audit)) where
  pub named : HasNamedPath (setup_with_at g.S.Suite c.args.self.now c.args.suite.now) (page_of c.args.write.now.at) (at g c.fetch.new.self c.finish_for.new.board c.finish_for.new.suite c.finish_for.new.audit) (at g c.name_path.new.self c.name_path.new.board c.finish_for.new.suite c.finish_for.new.audit) (Ok tt)
  named =
      c.in_ok-name_path.ensures.named _ (g.A.Audit.ledger c.finish_for.new.audit) (g.S.Suite.tags c.finish_for.new.suite)
      (g.S.Suite.digests c.finish_for.new.suite) (sym amid.its_shape)

  pub amid4 : IsAmid (setup_with_at g.S.Suite c.args.self.now c.args.suite.now) (at g c.name_path.new.self c.name_path.new.board c.finish_for.new.suite c.finish_for.new.audit)
  amid4 = amid_after _ [] (at g c.fetch.new.self c.finish_for.new.board c.finish_for.new.suite c.finish_for.new.audit) _ amid3 named.done

  -- its block is the one that was fetched
  pub same_block : cached_block c.name_path.new.self.shape c.name_path.new.self (page_of c.args.write.now.at)
      ≡ cached_block c.fetch.new.self.shape c.fetch.new.self (page_of c.args.write.now.at)
  same_block =
      ap (λ shape. unpacked (line_in shape c.name_path.new.self.cache shape.levels (counter_position shape (page_of c.args.write.now.at))))
      (amid4.its_shape ∙ sym amid.its_shape)
      ∙ ap (λ cache. unpacked (line_in c.fetch.new.self.shape cache c.fetch.new.self.shape.levels
      (counter_position c.fetch.new.self.shape (page_of c.args.write.now.at)))) c.name_path.ensures.cache

-- ---- after the page is begun

module _ (g : Over) (c : In_ok-begin_for g) (amid4 : IsAmid (setup_with_at g.S.Suite c.args.self.now c.args.suite.now) (at g c.name_path.new.self c.name_path.new.board c.finish_for.new.suite c.finish_for.new.audit)) where
  pub begun : HasBegunFor c.in_ok-overflows.overflows (setup_with_at g.S.Suite c.args.self.now c.args.suite.now) (page_of c.args.write.now.at) (at g c.name_path.new.self c.name_path.new.board c.finish_for.new.suite c.finish_for.new.audit) (at g c.begin_for.new.self c.begin_for.new.board c.begin_for.new.suite c.begin_for.new.audit) (Ok tt)
  begun =
      moved (λ s. HasBegunFor c.in_ok-overflows.overflows s (page_of c.args.write.now.at) (at g c.name_path.new.self c.name_path.new.board c.finish_for.new.suite c.finish_for.new.audit) (at g c.begin_for.new.self c.begin_for.new.board c.begin_for.new.suite c.begin_for.new.audit) (Ok tt))
      (setup_with_at g.S.Suite c.name_path.new.self c.finish_for.new.suite) _ amid4.its_shape
      (ap g.S.Suite.formulas_of (c.finish_for.ensures.keys ∙ c.plain_after.ensures.keys ∙ c.fetch.ensures.keys)) c.in_ok-begin_for.ensures.begun

  pub amid5 : IsAmid (setup_with_at g.S.Suite c.args.self.now c.args.suite.now) (at g c.begin_for.new.self c.begin_for.new.board c.begin_for.new.suite c.begin_for.new.audit)
  amid5 = amid_begun _ (page_of c.args.write.now.at) (at g c.name_path.new.self c.name_path.new.board c.finish_for.new.suite c.finish_for.new.audit) _ c.in_ok-overflows.overflows amid4 begun

-- ---- how far the write has come along its plan

-- the chip at a moment of the call, and the device
abbrev pub chip : (g : Over) → ChipState → g.row.S.Denot → g.row.A.Denot → Chip
chip g = chip_with_at g.S.Suite g.A.Audit

abbrev pub device : (g : Over) → g.row.B.Denot → Device
device g = g.B.Board.device

pub same_setup : (a b : Setup) → a.shape ≡ b.shape → a.formulas ≡ b.formulas → a ≡ b
same_setup a b shape formulas = moved (λ s. a ≡ s) a b shape formulas refl

-- the call began so, and this is left of it
module _ (g : Over) (self : ChipState) (board : g.row.B.Denot) (suite : g.row.S.Denot) (audit : g.row.A.Denot) (write : Posted) where
  abbrev pub HasComeTo : g.row.B.Denot → (Setup → Regs → Posted → Plan (Chip × Fault) (Chip × Ctr)) → Type 0
  HasComeTo now rest =
      HasCome (setup_with_at g.S.Suite self suite) (device g board).regs write (chip g self suite audit) (device g board)
      (rest (setup_with_at g.S.Suite self suite) (device g board).regs write) (device g now)

module _ (g : Over) (c : In_ok-fetch g) where
  pub come1 : HasComeTo g c.args.self.now c.args.board.now c.args.suite.now c.args.audit.now c.args.write.now c.fetch.new.board
      (λ setup regs write. to_overflow setup regs write (chip g c.fetch.new.self c.fetch.new.suite c.fetch.new.audit, tt))
  come1 = is_fetched _ _ c.args.write.now _ _ _ c.in_ok-fetch.ensures.plan

module _ (g : Over) (c : In_ok-overflows g) (amid : IsAmid (setup_with_at g.S.Suite c.args.self.now c.args.suite.now) (at g c.fetch.new.self c.fetch.new.board c.fetch.new.suite c.fetch.new.audit))
    (come : HasComeTo g c.args.self.now c.args.board.now c.args.suite.now c.args.audit.now c.args.write.now c.fetch.new.board
    (λ setup regs write. to_overflow setup regs write (chip g c.fetch.new.self c.fetch.new.suite c.fetch.new.audit, tt))) where
  pub come2 : HasComeTo g c.args.self.now c.args.board.now c.args.suite.now c.args.audit.now c.args.write.now c.fetch.new.board
      (λ setup regs write. to_plain setup regs write (chip g c.fetch.new.self c.fetch.new.suite c.fetch.new.audit, tt) c.in_ok-overflows.overflows)
  come2 = is_known _ _ c.args.write.now _ _ _ come _ (over g c amid)

module _ (g : Over) (c : In_ok-plain g) (amid : IsAmid (setup_with_at g.S.Suite c.args.self.now c.args.suite.now) (at g c.fetch.new.self c.fetch.new.board c.fetch.new.suite c.fetch.new.audit))
    (regs : (device g c.fetch.new.board).regs ≡ (device g c.args.board.now).regs)
    (come : HasComeTo g c.args.self.now c.args.board.now c.args.suite.now c.args.audit.now c.args.write.now c.fetch.new.board
    (λ setup regs write. to_plain setup regs write (chip g c.fetch.new.self c.fetch.new.suite c.fetch.new.audit, tt) c.in_ok-overflows.overflows)) where
  pub come3 : HasComeTo g c.args.self.now c.args.board.now c.args.suite.now c.args.audit.now c.args.write.now c.plain_after.new.board
      (λ setup regs write. to_finish setup regs write c.in_ok-overflows.overflows
      (chip g c.fetch.new.self c.plain_after.new.suite c.plain_after.new.audit, c.in_ok-plain.plain))
  come3 =
      is_made _ _ c.args.write.now _ _ _ _ come _ _ (same_setup _ _ amid.its_shape (ap g.S.Suite.formulas_of c.fetch.ensures.keys)) regs _ _
      c.in_ok-plain.ensures.plan

module _ (g : Over) (c : In_ok-finish_for g) (amid : IsAmid (setup_with_at g.S.Suite c.args.self.now c.args.suite.now) (at g c.fetch.new.self c.fetch.new.board c.fetch.new.suite c.fetch.new.audit))
    (regs : (device g c.plain_after.new.board).regs ≡ (device g c.args.board.now).regs)
    (come : HasComeTo g c.args.self.now c.args.board.now c.args.suite.now c.args.audit.now c.args.write.now c.plain_after.new.board
    (λ setup regs write. to_finish setup regs write c.in_ok-overflows.overflows
    (chip g c.fetch.new.self c.plain_after.new.suite c.plain_after.new.audit, c.in_ok-plain.plain))) where
  pub come4 : HasComeTo g c.args.self.now c.args.board.now c.args.suite.now c.args.audit.now c.args.write.now c.finish_for.new.board
      (λ setup regs write. to_name setup regs write c.in_ok-overflows.overflows c.in_ok-plain.plain
      (chip g c.fetch.new.self c.finish_for.new.suite c.finish_for.new.audit, (device g c.finish_for.new.board).regs))
  come4 =
      is_finished _ _ c.args.write.now _ _ _ _ _ come _ _
      (same_setup _ _ amid.its_shape (ap g.S.Suite.formulas_of (c.plain_after.ensures.keys ∙ c.fetch.ensures.keys))) regs _ c.in_ok-finish_for.ensures.plan

module _ (g : Over) (c : In_ok-name_path g)
    (come : HasComeTo g c.args.self.now c.args.board.now c.args.suite.now c.args.audit.now c.args.write.now c.finish_for.new.board
    (λ setup regs write. to_name setup regs write c.in_ok-overflows.overflows c.in_ok-plain.plain
    (chip g c.fetch.new.self c.finish_for.new.suite c.finish_for.new.audit, (device g c.finish_for.new.board).regs))) where
  pub come5 : HasComeTo g c.args.self.now c.args.board.now c.args.suite.now c.args.audit.now c.args.write.now c.name_path.new.board
      (λ setup regs write. to_begin setup regs write c.in_ok-overflows.overflows c.in_ok-plain.plain
      (device g c.finish_for.new.board).regs
      (chip g c.name_path.new.self c.finish_for.new.suite c.finish_for.new.audit, tt))
  come5 = is_named _ _ c.args.write.now _ _ _ _ _ come _ c.in_ok-name_path.ensures.plan

module _ (g : Over) (c : In_ok-begin_for g) (amid4 : IsAmid (setup_with_at g.S.Suite c.args.self.now c.args.suite.now) (at g c.name_path.new.self c.name_path.new.board c.finish_for.new.suite c.finish_for.new.audit))
    (regs : (device g c.name_path.new.board).regs ≡ (device g c.finish_for.new.board).regs)
    (come : HasComeTo g c.args.self.now c.args.board.now c.args.suite.now c.args.audit.now c.args.write.now c.name_path.new.board
    (λ setup regs write. to_begin setup regs write c.in_ok-overflows.overflows c.in_ok-plain.plain
    (device g c.finish_for.new.board).regs
    (chip g c.name_path.new.self c.finish_for.new.suite c.finish_for.new.audit, tt))) where
  pub come6 : HasComeTo g c.args.self.now c.args.board.now c.args.suite.now c.args.audit.now c.args.write.now c.begin_for.new.board
      (λ setup regs write. to_seal setup regs write c.in_ok-plain.plain
      (chip g c.begin_for.new.self c.begin_for.new.suite c.begin_for.new.audit, (device g c.begin_for.new.board).regs))
  come6 =
      is_begun _ _ c.args.write.now _ _ _ _ _ _ come _ _
      (same_setup _ _ amid4.its_shape (ap g.S.Suite.formulas_of (c.finish_for.ensures.keys ∙ c.plain_after.ensures.keys ∙ c.fetch.ensures.keys))) regs _
      c.in_ok-begin_for.ensures.plan
