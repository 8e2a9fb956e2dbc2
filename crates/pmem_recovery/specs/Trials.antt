-- The trials of recovery, over a device's lines with the armed group redone.
use Rattle.std.specs.Prelude.{ℕ, zero, suc, if◌then◌else◌, ◌<◌, ◌+◌, ◌-◌, ◌*◌, ◌/◌, ◌==◌, Bool, true, not, List, [], ◌∷◌, length, filter, find, slice_index, ◌≡◌, Option, Some, None, option_map}
use Rattle.std.specs.List.{range_with_len, flat_map}
use Rattle.pmem_base.specs.declared.lines.Line.{Line}
use Rattle.pmem_base.specs.declared.lines.Ctr.{Ctr}
use Rattle.pmem_base.specs.declared.registers.Progress.{Progress}
use Rattle.pmem_base.specs.declared.registers.Regs.{Regs}
use Rattle.pmem_base.specs.Shape.{Shape}
use Rattle.pmem_base.specs.Layout as layout
use Rattle.pmem_base.specs.Layout.{page_of, index_in_page}
use Rattle.pmem_base.specs.Lines.{line_at, tag_slot, same_bytes}
use Rattle.split_counters.specs.declared.Block.{Block}
use Rattle.pmem_base.specs.Marks.{last_seal}
use Rattle.split_counters.specs.Blocks.{unpacked, minor_of}
use Rattle.seal_ledger.specs.Ledger.{LedgerState}
use Rattle.pmem_engine.specs.Truth.{true_block}
use Rattle.bonsai_tree.specs.Positions.{counter_position}
use Rattle.page_reencrypt.specs.Registers.{register_held}
use Rattle.suite.specs.Setup.{Setup}
use Rattle.pmem_engine.specs.Invariants.{stored_meta, is_doubted}

-- the minors that a stored one may stand for: up to the end of its window of the stop-loss number
abbrev pub window_of : ℕ → ℕ → List ℕ
window_of minor loss = range_with_len minor ((minor / loss) * loss + loss - minor)

-- the counter block of a page as the device has it
abbrev pub stored_block : Shape → List Line → ℕ → Block
stored_block g lines page = unpacked (stored_meta g lines (counter_position g page))

-- whether the tag of line a's device line under a counter is the one in its slot
abbrev pub is_tag_met : Setup → List Line → ℕ → Ctr → Bool
is_tag_met setup lines a ctr =
    same_bytes (setup.formulas.tag_of a ctr (line_at lines a))
    (tag_slot (line_at lines (layout.tag_line setup.shape a)) a)

-- the stored minor alone for a line that a register holds, else those of its window that fit
abbrev pub minors_tried : Setup → List Line → ℕ → ℕ → Option Progress → Block → List ℕ
minors_tried setup lines loss a (Some register) stored =
    slice_index stored.minors (index_in_page a) ∷ []
minors_tried setup lines loss a None stored =
    filter (λ minor. is_tag_met setup lines a (record { major = stored.major; minor = minor }))
    (window_of (slice_index stored.minors (index_in_page a)) loss)

-- the minors that line a may have, if its counter block is doubted
abbrev pub tried_minors : Setup → List Line → Regs → ℕ → List ℕ
tried_minors setup lines regs a =
    minors_tried setup lines regs.loss a (register_held regs.progress.items a)
    (stored_block setup.shape lines (page_of a))

-- the minors that are tried for line a if its counter block is doubted: those of its window, or none if a register holds it
abbrev pub candidates : ℕ → Option Progress → ℕ → List ℕ
candidates loss (Some register) minor = []
candidates loss None minor = window_of minor loss

abbrev pub candidates_of : Shape → List Line → Regs → ℕ → List ℕ
candidates_of g lines regs a =
    candidates regs.loss (register_held regs.progress.items a)
    (slice_index (stored_block g lines (page_of a)).minors (index_in_page a))

-- how many minors are tried for line a
unfoldable pub trials_of : Shape → List Line → Regs → ℕ → ℕ
trials_of g lines regs a =
    if is_doubted g lines (counter_position g (page_of a)) then length (candidates_of g lines regs a) else 0

-- and for the lines below a
unfoldable pub trials_below : Shape → List Line → Regs → ℕ → ℕ
trials_below g lines regs zero = 0
trials_below g lines regs (suc a) = trials_below g lines regs a + trials_of g lines regs a

-- the pages whose counter block is doubted, upwards
abbrev pub doubted_pages : Shape → List Line → List ℕ
doubted_pages g lines =
    filter (λ page. is_doubted g lines (counter_position g page)) (range_with_len 0 (layout.pages g))

-- the lines that are tried, by pages and lines upwards
abbrev pub lines_tried : Shape → List Line → List ℕ
lines_tried g lines = flat_map (λ page. range_with_len (64 * page) 64) (doubted_pages g lines)

-- the first of them that doesn't have exactly one minor
abbrev pub first_undecided : Setup → List Line → Regs → Option ℕ
first_undecided setup lines regs =
    find (λ a. not (length (tried_minors setup lines regs a) == 1)) (lines_tried setup.shape lines)

-- the minor of line a in its page's counter block on the device, and in the true one
abbrev pub stored_minor : Shape → List Line → ℕ → ℕ
stored_minor g lines a = minor_of (stored_block g lines (page_of a)) (index_in_page a)

abbrev pub true_minor : Shape → List Line → ℕ → ℕ
true_minor g truth a = minor_of (true_block g truth (page_of a)) (index_in_page a)

-- a twin is of line a's last seal: its cipher, tag and major, and both minors of its minor's window
pub record IsTwinOfLastSeal (loss : ℕ) (ledger : LedgerState) (a major low high : ℕ) (cipher : Line) (tag : List ℕ) : Type 0 where
  pub its_cipher : option_map (λ seal. seal.cipher) (last_seal ledger.marks a) ≡ Some cipher
  pub its_tag : option_map (λ seal. seal.tag) (last_seal ledger.marks a) ≡ Some tag
  pub its_major : option_map (λ seal. seal.ctr.major) (last_seal ledger.marks a) ≡ Some major
  pub low_in_window :
      option_map (λ seal. seal.ctr.minor / loss) (last_seal ledger.marks a) ≡ Some (low / loss)
  pub high_in_window :
      option_map (λ seal. seal.ctr.minor / loss) (last_seal ledger.marks a) ≡ Some (high / loss)

-- each line of the doubted pages below this one has one minor
pub record AreDecided (setup : Setup) (lines : List Line) (regs : Regs) (below : ℕ) : Type 0 where
  pub each :
      (page : ℕ) → page < below → is_doubted setup.shape lines (counter_position setup.shape page) ≡ true
      → (i : ℕ) → i < 64 → length (tried_minors setup lines regs (64 * page + i)) ≡ 1
