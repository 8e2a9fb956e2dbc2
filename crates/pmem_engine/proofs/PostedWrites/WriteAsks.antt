-- Which marks a write asks for, from its page's counter block and the registers.
use Rattle.std.proofs.Common.{rules, ℕ, ◌≡◌, ◌<◌, ◌≤◌, ◌+◌, ◌-◌, ◌^◌, ◌++◌, Bool, true, false, cond, List, [], ◌∷◌, length, Option, Some, None, Result, Ok, Err, refl, sym, ap, ap₂, ◌∙◌, arith}
use Rattle.std.specs.Prelude.{◌==◌, nat_lt, nat_le, option_map, slice_get, slice_index_or, position, is_some}
use Rattle.std.proofs.lemmas.Bool.{true≢false, cond-true, cond-false, lt-ltb}
use Rattle.std.proofs.lemmas.Option.{slice_get-get_or, slice_get_cases}
use Rattle.std.proofs.lemmas.List.Folds.{find_at}
use Rattle.pmem_base.specs.declared.lines.Line.{Line}
use Rattle.pmem_base.specs.declared.lines.Ctr.{Ctr}
use Rattle.pmem_base.specs.declared.commands.Posted.{Posted}
use Rattle.pmem_base.specs.declared.registers.Progress.{Progress}
use Rattle.pmem_base.specs.declared.answers.Mark.{Mark}
use Rattle.pmem_base.specs.declared.answers.Mark.TheVariants.{Begin}
use Rattle.pmem_base.specs.Layout as layout
use Rattle.pmem_base.specs.Layout.{page_of, index_in_page}
use Rattle.pmem_base.specs.Lines.{line_at}
use Rattle.pmem_base.specs.Registers.{empty_progress}
use Rattle.pmem_base.specs.WaitingWrites.{put_write}
use Rattle.split_counters.specs.declared.Block.{Block}
use Rattle.split_counters.specs.Blocks.{block_counter, minor_of}
use Rattle.page_reencrypt.specs.Registers.{register_of, register_held}
use Rattle.meta_path.specs.Blocks.{IsPathCached}
use Rattle.suite.specs.Setup.{Setup}
use Rattle.plain_model.specs.State.{Memory}
use Rattle.plain_model.specs.View.{counter_at, open_page, is_left}
use Rattle.plain_model.specs.Asked.{Moment, seal_mark, next_major, first_of, page_to_finish, finishing_marks_of, marks_of_write}
use Rattle.pmem_engine.specs.declared.fault.Fault.{Fault}
use Rattle.pmem_engine.specs.declared.fault.Fault.TheVariants as Fail
use Rattle.pmem_engine.specs.Truth.{true_block}
use Rattle.pmem_engine.specs.Invariants.{register_page}
use Rattle.pmem_engine.specs.Parts.{Parts, regs_of, AreTrusted}
use Rattle.pmem_engine.specs.CallFacts.{moment_in}
use Rattle.pmem_engine.specs.Resealing.{register_in}
use Rattle.pmem_engine.specs.Inner.{cached_block}
use Rattle.pmem_engine.specs.Sealing.{next_counter_of}
use Rattle.pmem_engine.specs.Writing.{overflow_of, reseals_of, register_to_finish, register_found}
use Rattle.pmem_engine.proofs.CheckedReads.LineCounters.{cached_block-true}
use Rattle.pmem_engine.proofs.Laws.TrueLines.{view-open_page}
use Rattle.pmem_engine.proofs.Laws.AskedCounters.{view-is_left, view-first_page, view-page_count, asked-free, asked-held}
use Rattle.pmem_engine.proofs.Laws.FreshSeals.{held-minor}

-- ---- which page is finished

-- the register found is the one at its place
register_at_place : (registers : List Progress) (page : ℕ)
    → option_map register_page (register_of registers page)
    ≡ option_map (λ n. register_page (slice_index_or registers n empty_progress)) (position (λ register. register.page == page) registers)
register_at_place registers page = search (rules, cond-true, cond-false, lt-ltb, slice_get-get_or, slice_get_cases, find_at)

first_at_place : (registers : List Progress) → 4 ≤ length registers
    → option_map register_page (slice_get registers 0) ≡ Some (register_page (slice_index_or registers 0 empty_progress))
first_at_place [] four = absurd (omega (arith, four))
first_at_place (register ∷ registers) four = refl

-- the marks of finishing register n
abbrev pub marks_of_finish : Setup → Memory → Parts → Option ℕ → List Mark
marks_of_finish setup memory parts None = []
marks_of_finish setup memory parts (Some n) =
    reseals_of setup.formulas (moment_in setup memory parts) (register_in parts n)

-- ---- an overflow's cases

abbrev over_by : Bool → Bool → ℕ → Result Bool Fault
over_by low used page = cond low (Ok false) (cond used (Err (Fail.Spent page)) (Ok true))

over_by-false : (low used : Bool) (page : ℕ) → over_by low used page ≡ Ok false → low ≡ true
over_by-false v0 used page e = search rules

over_by-true : (low used : Bool) (page : ℕ) → over_by low used page ≡ Ok true → (low ≡ false) × (used ≡ false)
over_by-true v0 used page e = search rules

over_by-err : (low used : Bool) (page : ℕ) (fault : Fault) → over_by low used page ≡ Err fault
    → (low ≡ false) × (used ≡ true) × (fault ≡ Fail.Spent page)
over_by-err v0 used page fault e = search rules

-- ---- the marks of a write whose page's path is cached

module _ (setup : Setup) (memory : Memory) (write : Posted) (parts : Parts) (within : write.at < layout.data_lines setup.shape)
    (trusted : AreTrusted setup parts) (cached : IsPathCached setup.shape parts.engine.cache (page_of write.at)) where
  abbrev page : ℕ
  page = page_of write.at

  abbrev block : Block
  block = cached_block setup.shape parts.engine page

  abbrev registers : List Progress
  registers = (regs_of parts).progress.items

  abbrev now : Moment
  now = moment_in setup memory parts

  abbrev last : Ctr
  last = counter_at now.view write.at

  abbrev plain : Line
  plain = put_write (line_at memory write.at) write

  abbrev asked : Option (List Mark)
  asked = marks_of_write setup.formulas now write

  abbrev low : Bool
  low = nat_lt (minor_of block (index_in_page write.at)) 127

  abbrev used : Bool
  used = block.major == 2 ^ 64 - 1

  block_true : block ≡ true_block setup.shape parts.ledger.truth page
  block_true =
      ap (λ g. cached_block g parts.engine page) (sym trusted.its_shape)
      ∙ cached_block-true setup parts.engine (regs_of parts) parts.ledger page trusted cached

  left_is : is_left now.view write.at ≡ is_some (register_held registers write.at)
  left_is = view-is_left setup (regs_of parts) parts.ledger trusted.anchored write.at

  -- the open page to finish is the register's
  finish_is : page_to_finish now.view (open_page now.view page)
      ≡ option_map (λ n. register_page (register_in parts n)) (register_to_finish registers page)
  finish_is =
      ap (page_to_finish now.view)
      (view-open_page setup (regs_of parts) parts.ledger trusted.anchored page ∙ register_at_place registers page)
      ∙ go (position (λ register. register.page == page) registers)
    where
      oldest : (b : Bool) → nat_le 4 (length registers) ≡ b
          → cond b (first_of now.view.open_pages) None
          ≡ option_map (λ n. register_page (register_in parts n)) (cond b (Some 0) None)
      oldest false is = refl
      oldest true is =
          view-first_page setup (regs_of parts) parts.ledger trusted.anchored ∙ first_at_place registers (grind (arith, is))

      go : (found : Option ℕ)
          → page_to_finish now.view (option_map (λ n. register_page (slice_index_or registers n empty_progress)) found)
          ≡ option_map (λ n. register_page (register_in parts n)) (register_found found (length registers))
      go (Some n) = refl
      go None =
          ap (λ n. cond (nat_le 4 n) (first_of now.view.open_pages) None)
          (view-page_count setup (regs_of parts) parts.ledger trusted.anchored)
          ∙ oldest (nat_le 4 (length registers)) refl

  finish_marks : finishing_marks_of setup.formulas now (page_to_finish now.view (open_page now.view page))
      ≡ marks_of_finish setup memory parts (register_to_finish registers page)
  finish_marks = search (rules, finish_is)

  abbrev asked_by : Bool → Bool → Bool → Option (List Mark)
  asked_by left small full =
      cond left (Some (seal_mark setup.formulas write.at (next_major last 1) plain ∷ []))
      (cond small (Some (seal_mark setup.formulas write.at (record last { minor = last.minor + 1 }) plain ∷ []))
      (cond full None
      (Some
      (finishing_marks_of setup.formulas now (page_to_finish now.view (open_page now.view page))
      ++ Begin page ∷ seal_mark setup.formulas write.at (next_major last 1) plain ∷ []))))

  -- a line that a register holds is sealed under the next major and 1, which is its next counter
  held_asked : (register : Progress) → register_held registers write.at ≡ Some register
      → asked ≡ Some (seal_mark setup.formulas write.at (next_counter_of setup.shape parts.engine write.at) plain ∷ [])
  held_asked register held =
      cond-true (is_left now.view write.at) _ _ (left_is ∙ ap is_some held)
      ∙ ap (λ ctr. Some (seal_mark setup.formulas write.at ctr plain ∷ []))
      (asked-held setup (regs_of parts) parts.ledger trusted.anchored write.at 1 register within held
      ∙ ap₂ (λ (b : Block) (n : ℕ). record { major = b.major; minor = n }) (sym block_true)
      (ap (λ n. n + 1)
      (sym (held-minor setup (regs_of parts) parts.ledger write.at register trusted.anchored held)
      ∙ ap (λ b. minor_of b (index_in_page write.at)) (sym block_true))))

  held_low : (register : Progress) → register_held registers write.at ≡ Some register → low ≡ true
  held_low register held = search (rules, held-minor, block_true)

  -- a line that none holds has the counter of its page's block
  free_last : register_held registers write.at ≡ None → last ≡ block_counter block (index_in_page write.at)
  free_last free =
      asked-free setup (regs_of parts) parts.ledger trusted.anchored write.at within free
      ∙ ap (λ b. block_counter b (index_in_page write.at)) (sym block_true)

  free_asked : register_held registers write.at ≡ None → asked ≡ asked_by false low used
  free_asked free = search (rules, cond-false, left_is, free_last)

  -- one seal
  pub asked_seal : overflow_of block page (index_in_page write.at) ≡ Ok false
      → asked ≡ Some (seal_mark setup.formulas write.at (next_counter_of setup.shape parts.engine write.at) plain ∷ [])
  asked_seal over = go (register_held registers write.at) refl
    where
      go : (held : Option Progress) → register_held registers write.at ≡ held
          → asked ≡ Some (seal_mark setup.formulas write.at (next_counter_of setup.shape parts.engine write.at) plain ∷ [])
      go (Some register) held = held_asked register held
      go None free =
          free_asked free ∙ ap (λ small. asked_by false small used) (over_by-false low used page over)
          ∙ ap (λ (ctr : Ctr). Some (seal_mark setup.formulas write.at (record ctr { minor = ctr.minor + 1 }) plain ∷ []))
          (free_last free)

  -- a page finished, a begin, and a seal under the next major and 1; no register holds the line
  pub asked_begin : overflow_of block page (index_in_page write.at) ≡ Ok true
      → asked
      ≡ Some
      (marks_of_finish setup memory parts (register_to_finish registers page)
      ++ Begin page ∷ seal_mark setup.formulas write.at (record { major = block.major + 1; minor = 1 }) plain ∷ [])
  asked_begin over = go (register_held registers write.at) refl
    where
      go : (held : Option Progress) → register_held registers write.at ≡ held
          → asked
          ≡ Some
          (marks_of_finish setup memory parts (register_to_finish registers page)
          ++ Begin page ∷ seal_mark setup.formulas write.at (record { major = block.major + 1; minor = 1 }) plain ∷ [])
      go (Some register) held =
          absurd (true≢false (sym (held_low register held) ∙ (over_by-true low used page over).0))
      go None free =
          free_asked free
          ∙ ap₂ (λ small full. asked_by false small full) (over_by-true low used page over).0 (over_by-true low used page over).1
          ∙ ap₂ (λ front ctr. Some (front ++ Begin page ∷ seal_mark setup.formulas write.at ctr plain ∷ [])) finish_marks
          (ap (λ ctr. next_major ctr 1) (free_last free))

  pub free_at_overflow : overflow_of block page (index_in_page write.at) ≡ Ok true → register_held registers write.at ≡ None
  free_at_overflow over = go (register_held registers write.at) refl
    where
      go : (held : Option Progress) → register_held registers write.at ≡ held → held ≡ None
      go None free = refl
      go (Some register) held =
          absurd (true≢false (sym (held_low register held) ∙ (over_by-true low used page over).0))

  -- none where the counter is used up
  pub asked_none : (fault : Fault) → overflow_of block page (index_in_page write.at) ≡ Err fault → asked ≡ None
  asked_none fault over = go (register_held registers write.at) refl
    where
      go : (held : Option Progress) → register_held registers write.at ≡ held → asked ≡ None
      go (Some register) held =
          absurd (true≢false (sym (held_low register held) ∙ (over_by-err low used page fault over).0))
      go None free =
          free_asked free
          ∙ ap₂ (λ small full. asked_by false small full) (over_by-err low used page fault over).0
          (over_by-err low used page fault over).1

-- the one fault of an overflow
pub overflow_fault : (block : Block) (page i : ℕ) (fault : Fault) → overflow_of block page i ≡ Err fault → fault ≡ Fail.Spent page
overflow_fault block page i fault over = search rules
