-- A write of a whole line.
use Rattle.std.proofs.Common.{rules}
use Rattle.std.proofs.lemmas.List.{drop_all}
use Rattle.std.specs.Prelude.{ℕ}
use Rattle.pmem_base.specs.declared.lines.Line.{Line}
use Rattle.pmem_base.specs.Lines.{IsLine}
use Rattle.pmem_base.specs.Ranges.{IsU32, IsPosted}
use Rattle.pmem_engine.specs.CallFacts.{whole_write}

-- a whole line is posted
pub whole_posted : (at : ℕ) (line : Line) → IsU32 at → IsLine line → IsPosted (whole_write at line)
whole_posted at line range whole = search (rules, drop_all)
