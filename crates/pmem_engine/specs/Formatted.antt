-- The registers and the ledger once a device is formatted.
use Rattle.std.specs.Prelude.{ℕ, ◌≡◌, ◌<◌, [], map, IsTrue, IsNone, All}
use Rattle.std.specs.List.{range_with_len}
use Rattle.pmem_base.specs.declared.registers.Regs.{Regs}
use Rattle.pmem_base.specs.declared.answers.Mark.{Mark}
use Rattle.pmem_base.specs.Shape.{Shape, is_loss}
use Rattle.pmem_base.specs.Layout as layout
use Rattle.pmem_base.specs.Lines.{IsLine, zero_line, line_at}
use Rattle.pmem_base.specs.Registers.{IsGroup}
use Rattle.split_counters.specs.declared.Block.{Block}
use Rattle.split_counters.specs.Blocks.{zero_minors, packed}
use Rattle.bonsai_tree.specs.Positions.{counter_position}
use Rattle.bonsai_tree.specs.Nodes.{IsHashTree}
use Rattle.seal_ledger.specs.Ledger.{LedgerState}
use Rattle.suite.specs.Setup.{Setup}
use Rattle.plain_model.specs.Asked.{seal_mark}

-- the first seal of a line: zeros, under the first major and 0
abbrev pub first_seal : Setup → ℕ → Mark
first_seal setup a = seal_mark setup.formulas a (record { major = setup.shape.major; minor = 0 }) zero_line

-- each page's first block
abbrev pub first_block : Shape → Block
first_block g = record { major = g.major; minors = zero_minors }

-- each line sealed once in order, all blocks the first one, and no page open
pub record IsFormatted (setup : Setup) (regs : Regs) (ledger : LedgerState) : Type 0 where
  pub marks : ledger.marks ≡ map (first_seal setup) (range_with_len 0 (layout.data_lines setup.shape))
  pub data_lines : ledger.data_lines ≡ layout.data_lines setup.shape
  pub tree : IsHashTree setup.shape setup.formulas ledger.truth
  pub whole : All IsLine ledger.truth
  pub blocks :
      (page : ℕ) → page < layout.pages setup.shape
      → line_at ledger.truth (counter_position setup.shape page) ≡ packed (first_block setup.shape)
  pub root : regs.root ≡ setup.formulas.digest_of 0 (line_at ledger.truth 0)
  pub progress : regs.progress.items ≡ []
  pub group : IsGroup (layout.device_lines setup.shape) regs.group.items
  pub loss : IsTrue (is_loss regs.loss)
  pub exhibit : IsNone ledger.exhibit
