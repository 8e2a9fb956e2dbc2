-- How many device lines recovery reads: the shadow lines, each doubted block, the lines of its page that are tried
-- with their tag lines, the children that aren't doubted of each doubted node, and the top line.
use Rattle.std.specs.Prelude.{ℕ, ◌+◌, ◌-◌, ◌*◌, List, filter, is_some, sum_by, if◌then◌else◌, ⊤}
use Rattle.std.specs.List.{range_with_len}
use Rattle.pmem_base.specs.declared.lines.Line.{Line}
use Rattle.pmem_base.specs.declared.registers.Progress.{Progress}
use Rattle.pmem_base.specs.declared.registers.Regs.{Regs}
use Rattle.pmem_base.specs.Shape.{Shape}
use Rattle.pmem_base.specs.Layout as layout
use Rattle.pmem_base.specs.Layout.{level_start, page_of, index_in_page}
use Rattle.board.specs.Counts.{RisesBy}
use Rattle.bonsai_tree.specs.Positions.{counter_position}
use Rattle.page_reencrypt.specs.Registers.{register_held}
use Rattle.pmem_recovery.specs.declared.entries.MadeEntry.{MadeEntry}
use Rattle.pmem_recovery.specs.declared.faults.RecFault.{RecFault}
use Rattle.pmem_recovery.specs.declared.faults.RecFault.TheVariants.{NoCounter, Root, Twin}
use Rattle.pmem_recovery.specs.Named.{doubts, count_doubted}
use Rattle.pmem_recovery.specs.Upward.{line_made}

-- the sum of a number over the doubted positions from a on and below b
abbrev pub sum_doubted : Shape → List Line → (ℕ → ℕ) → ℕ → ℕ → ℕ
sum_doubted g shadow f a b = sum_by f (filter (λ x. doubts g shadow x) (range_with_len a (b - a)))

-- for line a: it and its tag line, or none if a register holds it
abbrev pub line_reads : List Progress → ℕ → ℕ
line_reads registers a = if is_some (register_held registers a) then 0 else 2

-- for the first n lines of a page
unfoldable pub page_reads : List Progress → ℕ → ℕ → ℕ
page_reads registers page n = sum_by (λ i. line_reads registers (64 * page + i)) (range_with_len 0 n)

-- for a doubted counter block: the block, and those of its page's lines
abbrev pub block_reads : Shape → Regs → ℕ → ℕ
block_reads g regs x = 1 + page_reads regs.progress.items (x - counter_position g 0) 64

-- for a line that may have been made: none if it was
abbrev pub unmade_reads : List MadeEntry → ℕ → ℕ
unmade_reads made x = if is_some (line_made made x) then 0 else 1

-- for the first n children of position x
unfoldable pub children_reads : List MadeEntry → ℕ → ℕ → ℕ
children_reads made x n = sum_by (λ i. unmade_reads made (4 * x + 1 + i)) (range_with_len 0 n)

-- for a position that counts only if it isn't doubted
abbrev pub undoubted_reads : Shape → List Line → ℕ → ℕ
undoubted_reads g shadow x = if doubts g shadow x then 0 else 1

-- for a doubted node: the node, and its children that aren't doubted
unfoldable pub node_reads : Shape → List Line → ℕ → ℕ
node_reads g shadow x = 1 + sum_by (λ i. undoubted_reads g shadow (4 * x + 1 + i)) (range_with_len 0 4)

-- all reads of a recovery whose trials go through
abbrev pub all_reads : Shape → List Line → Regs → ℕ
all_reads g shadow regs =
    layout.shadow_lines g
    + sum_doubted g shadow (block_reads g regs) (level_start g.levels) (layout.meta_lines g)
    + sum_doubted g shadow (node_reads g shadow) 0 (level_start g.levels)
    + undoubted_reads g shadow 0

-- the most reads with that many blocks doubted: the shadow lines, each doubted counter block with the lines of its
-- page and their tag lines, each doubted node with its children, and the top line
abbrev pub doubted_reads : Shape → List Line → ℕ
doubted_reads g shadow =
    layout.shadow_lines g
    + 129 * count_doubted g shadow (level_start g.levels) (layout.meta_lines g)
    + 5 * count_doubted g shadow 0 (level_start g.levels)
    + 1

-- the reads of the trials up to and with line a, whose page is doubted: the doubted blocks of the pages before and their
-- lines, its page's block, and the lines of its page
abbrev pub reads_to : Shape → List Line → Regs → ℕ → ℕ
reads_to g shadow regs a =
    sum_doubted g shadow (block_reads g regs) (level_start g.levels) (counter_position g (page_of a))
    + 1 + page_reads regs.progress.items (page_of a) (index_in_page a + 1)

-- the reads of a recovery that stops: up to and with the first line that hasn't one minor, or all of them
abbrev pub IsReadUntil : Shape → List Line → Regs → RecFault → ℕ → ℕ → Type 0
IsReadUntil g shadow regs (NoCounter at) before after =
    RisesBy (layout.shadow_lines g + reads_to g shadow regs at) before after
IsReadUntil g shadow regs (Twin at major low high cipher tag) before after =
    RisesBy (layout.shadow_lines g + reads_to g shadow regs at) before after
IsReadUntil g shadow regs (Root kept found) before after = RisesBy (all_reads g shadow regs) before after
IsReadUntil g shadow regs fault before after = ⊤
