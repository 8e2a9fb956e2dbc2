-- The counter of a line whose page's path is cached.
use Rattle.std.proofs.Common.{rules, ℕ, ◌≡◌, ◌<◌, Some}
use Rattle.std.specs.Prelude.{option_map}
use Rattle.pmem_base.specs.declared.registers.Regs.{Regs}
use Rattle.pmem_base.specs.Layout as layout
use Rattle.pmem_base.specs.Layout.{page_of}
use Rattle.pmem_base.specs.Marks.{last_seal}
use Rattle.page_reencrypt.specs.Registers.{counter_of}
use Rattle.bonsai_tree.proofs.PathPositions.{path_of-block}
use Rattle.seal_ledger.specs.Ledger.{LedgerState}
use Rattle.meta_path.specs.Blocks.{IsPathCached, AreCachedTrue}
use Rattle.meta_path.proofs.KeepLaws.{line_in-true}
use Rattle.suite.specs.Setup.{Setup}
use Rattle.pmem_engine.specs.Engine.{ChipState}
use Rattle.pmem_engine.specs.Truth.{true_block}
use Rattle.pmem_engine.specs.Invariants.{IsTrusted}
use Rattle.pmem_engine.specs.Inner.{cached_block}

pub cached_true : (setup : Setup) (engine : ChipState) (regs : Regs) (ledger : LedgerState) → IsTrusted setup engine regs ledger
    → AreCachedTrue engine.cache ledger.truth
cached_true setup engine regs ledger trusted = search rules

-- the counter block that is cached is the true one
pub cached_block-true : (setup : Setup) (engine : ChipState) (regs : Regs) (ledger : LedgerState) (page : ℕ)
    → IsTrusted setup engine regs ledger → IsPathCached setup.shape engine.cache page
    → cached_block engine.shape engine page ≡ true_block setup.shape ledger.truth page
cached_block-true setup engine regs ledger page trusted cached = search (rules, path_of-block, line_in-true, cached_true)

-- the counter under it and the registers is that of the line's last seal
pub counter-last : (setup : Setup) (engine : ChipState) (regs : Regs) (ledger : LedgerState) (a : ℕ)
    → a < layout.data_lines setup.shape → IsTrusted setup engine regs ledger
    → IsPathCached setup.shape engine.cache (page_of a)
    → option_map (λ seal. seal.ctr) (last_seal ledger.marks a)
    ≡ Some (counter_of regs.progress.items (cached_block engine.shape engine (page_of a)) a)
counter-last setup engine regs ledger a within trusted cached = search (rules, cached_block-true)
