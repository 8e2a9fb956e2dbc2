-- What contracts see of a `Ledger`.
use Rattle.std.specs.Prelude.{ℕ, length, vec_capacity}
use Rattle.seal_ledger.specs.declared.ledger.Ledger.{Ledger}
use Rattle.seal_ledger.specs.Ledger.{LedgerState}

abbrev pub ledger_of : Ledger → LedgerState
ledger_of ledger =
    record {
      marks = ledger.marks.items;
      truth = ledger.truth.items;
      data_lines = length ledger.ciphers.items;
      exhibit = ledger.exhibit;
    }

-- how many marks there is room for in all
abbrev pub capacity_of : Ledger → ℕ
capacity_of ledger = vec_capacity ledger.marks
