-- The open pages of the view of a chip that is anchored, and the mark of a turn.
use Rattle.std.proofs.Common.{ℕ, ◌≡◌, ◌<◌, ◌≤◌, ◌+◌, ◌*◌, List, [], ◌∷◌, length, map, sym, subst, arith}
use Rattle.std.specs.Prelude.{All, MatchOption, slice_get}
use Rattle.std.proofs.lemmas.List.Elements.{All-head, All-tail, All-cons, All-nil}
use Rattle.pmem_base.specs.declared.answers.Place.{Place}
use Rattle.pmem_base.specs.declared.registers.Progress.{Progress}
use Rattle.pmem_base.specs.declared.registers.Regs.{Regs}
use Rattle.pmem_base.specs.Shape.{Shape}
use Rattle.pmem_base.specs.Layout as layout
use Rattle.pmem_base.specs.Registers.{IsProgress}
use Rattle.pmem_engine.proofs.PostedWrites.WritePremises.{few_left}
use Rattle.page_reencrypt.proofs.DoneBits.{not_done-small}
use Rattle.seal_ledger.specs.Ledger.{LedgerState}
use Rattle.suite.specs.Setup.{Setup}
use Rattle.plain_model.specs.View.{OpenPage, view_of}
use Rattle.plain_model.specs.Asked.{first_of}
use Rattle.plain_model.specs.Fits.{IsLowestLeft}
use Rattle.pmem_engine.specs.Invariants.{IsAnchored, register_page}

-- an open page is one of the memory, and its lines not done are lines of a page
pub record IsWholePage (g : Shape) (opened : OpenPage) : Type 0 where
  pub its_page : opened.page < layout.pages g
  pub places : All (λ i. i < 64) opened.left
  pub count : length opened.left ≤ 64

whole_registers : (g : Shape) (registers : List Progress) → All (IsProgress g) registers → All (IsWholePage g) (map register_page registers)
whole_registers g [] each = All-nil (IsWholePage g)
whole_registers g (register ∷ registers) each =
    All-cons (IsWholePage g) (register_page register) (map register_page registers)
    (record {
      its_page = (All-head (IsProgress g) register registers each).its_page;
      places = not_done-small register;
      count = few_left register;
    })
    (whole_registers g registers (All-tail (IsProgress g) register registers each))

-- so are all open pages
pub whole_pages : (setup : Setup) (regs : Regs) (ledger : LedgerState) → IsAnchored setup regs ledger
    → All (IsWholePage setup.shape) (view_of setup.shape ledger.marks).open_pages
whole_pages setup regs ledger anchored =
    subst (λ pages. All (IsWholePage setup.shape) pages) (sym anchored.open_pages)
    (whole_registers setup.shape regs.progress.items anchored.valid_regs.each_page)

-- the lowest line not done of the oldest page is a data line
pub lowest_within : (g : Shape) (pages : List OpenPage) (b : ℕ) → All (IsWholePage g) pages → IsLowestLeft (first_of pages) (Place.Line b)
    → b < layout.data_lines g
lowest_within g [] b whole lowest = absurd lowest
lowest_within g (opened ∷ pages) b whole lowest =
    let its = All-head (IsWholePage g) opened pages whole in
    go opened.left its.places lowest its.its_page
  where
    go : (left : List ℕ) → All (λ i. i < 64) left → MatchOption (slice_get left 0) ⊥ (λ i. b ≡ 64 * opened.page + i)
        → opened.page < layout.pages g → b < layout.data_lines g
    go [] small it page = absurd it
    go (i ∷ left) small it page = omega (arith, it, All-head (λ i. i < 64) i left small, page)
