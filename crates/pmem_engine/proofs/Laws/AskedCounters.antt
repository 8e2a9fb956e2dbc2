-- The counters and lines that the view asks for are those of the registers and the true blocks.
use Rattle.std.proofs.Common.{rules, ℕ, ◌≡◌, ◌<◌, ◌+◌, false, cond, List, [], ◌∷◌, length, map, Some, None, refl, sym, ap, ◌∙◌}
use Rattle.std.specs.Prelude.{◌==◌, ◌||◌}
use Rattle.std.specs.List.{list_any, slice_get}
use Rattle.std.specs.Option.{option_map, is_some}
use Rattle.std.proofs.lemmas.List.{length-map}
use Rattle.pmem_base.specs.declared.lines.Ctr.{Ctr}
use Rattle.pmem_base.specs.declared.registers.Progress.{Progress}
use Rattle.pmem_base.specs.declared.registers.Regs.{Regs}
use Rattle.pmem_base.specs.Layout.{data_lines, page_of, index_in_page}
use Rattle.page_reencrypt.proofs.DoneBits.{is_left-not_done}
use Rattle.split_counters.specs.Blocks.{block_counter}
use Rattle.page_reencrypt.specs.Registers.{is_holding, register_held}
use Rattle.page_reencrypt.proofs.Holding.{is_some-held, old_major-unpacked}
use Rattle.seal_ledger.specs.Ledger.{LedgerState}
use Rattle.suite.specs.Setup.{Setup}
use Rattle.plain_model.specs.View.{view_of, counter_at, is_left, is_left_in}
use Rattle.plain_model.specs.Asked.{next_major, first_of}
use Rattle.pmem_engine.specs.Truth.{true_block}
use Rattle.pmem_engine.specs.Invariants.{register_page, IsAnchored}
use Rattle.pmem_engine.specs.Sealed.{sealed_counter}
use Rattle.pmem_engine.proofs.Laws.FreshSeals.{free-true_counter, held-true_counter, held-next_major}
use Rattle.pmem_engine.proofs.Laws.TrueLines.{view-counter}

left_register : (a : ℕ) (register : Progress) → cond (register.page == page_of a) (is_left_in (register_page register) (index_in_page a)) false ≡ is_holding register a
left_register a register = search (rules, is_left-not_done)

left_registers : (registers : List Progress) (a : ℕ) → list_any (λ opened. cond (opened.page == page_of a) (is_left_in opened (index_in_page a)) false) (map register_page registers) ≡ list_any (λ register. is_holding register a) registers
left_registers [] a = refl
left_registers (register ∷ registers) a =
    ap (λ t. t || list_any (λ opened. cond (opened.page == page_of a) (is_left_in opened (index_in_page a)) false) (map register_page registers)) (left_register a register)
    ∙ ap (λ t. is_holding register a || t) (left_registers registers a)

first-registers : (registers : List Progress) → first_of (map register_page registers) ≡ option_map register_page (slice_get registers 0)
first-registers [] = refl
first-registers (register ∷ registers) = refl

module _ (setup : Setup) (regs : Regs) (ledger : LedgerState) (anchored : IsAnchored setup regs ledger) where
  -- the view has a line left exactly where a register holds it
  pub view-is_left : (a : ℕ) → is_left (view_of setup.shape ledger.marks) a ≡ is_some (register_held regs.progress.items a)
  view-is_left a =
      ap (λ pages. list_any (λ opened. cond (opened.page == page_of a) (is_left_in opened (index_in_page a)) false) pages) anchored.open_pages
      ∙ (left_registers regs.progress.items a ∙ sym (is_some-held regs.progress.items a))

  -- the view's oldest open page is the first register, and there are as many
  pub view-first_page : first_of (view_of setup.shape ledger.marks).open_pages ≡ option_map register_page (slice_get regs.progress.items 0)
  view-first_page = ap first_of anchored.open_pages ∙ first-registers regs.progress.items

  pub view-page_count : length (view_of setup.shape ledger.marks).open_pages ≡ length regs.progress.items
  view-page_count = ap length anchored.open_pages ∙ length-map regs.progress.items register_page

  -- a free line's last minor and major are those of its page's block
  pub asked-free : (a : ℕ) → a < data_lines setup.shape → register_held regs.progress.items a ≡ None → counter_at (view_of setup.shape ledger.marks) a ≡ block_counter (true_block setup.shape ledger.truth (page_of a)) (index_in_page a)
  asked-free a inside free = view-counter setup regs ledger anchored a inside ∙ free-true_counter setup.shape regs.progress.items ledger.truth a free

  -- a held line's next major is the true one
  pub asked-held : (a minor : ℕ) (register : Progress) → a < data_lines setup.shape → register_held regs.progress.items a ≡ Some register → next_major (counter_at (view_of setup.shape ledger.marks) a) minor ≡ sealed_counter setup.shape ledger.truth a minor
  asked-held a minor register inside held =
      ap (λ (ctr : Ctr). next_major ctr minor) (view-counter setup regs ledger anchored a inside ∙ held-true_counter setup regs ledger a register anchored held)
      ∙ ap (λ (n : ℕ). record { major = n; minor = minor }) (ap (λ n. n + 1) (sym (old_major-unpacked register)) ∙ held-next_major setup regs ledger a register anchored held)
