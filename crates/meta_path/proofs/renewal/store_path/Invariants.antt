use Rattle.std.proofs.Common.{◌≡◌, ℕ, take}
use Rattle.meta_path.specs.Storing.{IsPathOf, IsStoredTo, HasMetaLines}
use Rattle.meta_path.proofs.renewal.store_path.Given as goal

abbrev pub invariant-levels : goal.invariant-levels
invariant-levels g l =
    let shape = l.fn.cache.shape in
    let lines = l.fn.path.lines.items in
    record {
      stored :
          (page : ℕ) → IsPathOf shape page lines → IsStoredTo shape page l.fn.grouped lines l.bank l.fn.cache l.cache;
      told : HasMetaLines (take l.bank lines) (g.A.Audit.ledger l.fn.audit) (g.A.Audit.ledger l.audit);
      capacity : g.A.Audit.capacity l.audit ≡ g.A.Audit.capacity l.fn.audit;
    }
