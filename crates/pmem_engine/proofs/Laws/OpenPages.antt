-- The open pages of the view are the registers, also once a line is done or a page begins.
use Rattle.std.proofs.Common.{rules, ℕ, ◌≡◌, ◌+◌, Bool, cond, List, [], ◌∷◌, length, map, refl, ap, ◌∙◌}
use Rattle.std.specs.Prelude.{not, ◌==◌, nat_lt}
use Rattle.std.specs.List.{filter}
use Rattle.std.proofs.lemmas.Bool.{cases_Bool}
use Rattle.pmem_base.specs.declared.registers.Progress.{Progress}
use Rattle.pmem_base.specs.Layout.{index_in_page}
use Rattle.pmem_base.specs.Registers.{not_done, with_done, old_major}
use Rattle.page_reencrypt.proofs.DoneBits.{not_done-with_done}
use Rattle.page_reencrypt.specs.Registers.{register_with_done, registers_with_done}
use Rattle.page_reencrypt.proofs.Holding.{old_major-same}
use Rattle.plain_model.specs.View.{OpenPage, page_with_done, pages_with_done}
use Rattle.pmem_engine.specs.Invariants.{register_page}

page-with_done : (a : ℕ) (register : Progress) → register_page (with_done register (index_in_page a)) ≡ record (register_page register) { left = filter (λ i. not (i == index_in_page a)) (not_done register) }
page-with_done a register =
    ap (λ (n : ℕ). record { page = register.page; major = n + 1; left = not_done (with_done register (index_in_page a)) }) (old_major-same (with_done register (index_in_page a)) register refl)
    ∙ ap (λ (xs : List ℕ). record { page = register.page; major = old_major register + 1; left = xs }) (not_done-with_done register (index_in_page a))

page_with_done-register : (a : ℕ) (register : Progress) → page_with_done a (register_page register) ≡ register_page (register_with_done a register)
page_with_done-register a register = search (rules, cases_Bool, page-with_done)

map_cond : (t : Bool) (register : Progress) (rest : List Progress) → cond t (register_page register ∷ map register_page rest) (map register_page rest) ≡ map register_page (cond t (register ∷ rest) rest)
map_cond v0 register rest = search rules

pub pages_with_done-registers : (registers : List Progress) (a : ℕ) → pages_with_done (map register_page registers) a ≡ map register_page (registers_with_done registers a)
pages_with_done-registers [] a = refl
pages_with_done-registers (register ∷ registers) a =
    let new = register_with_done a register in
    let rest = registers_with_done registers a in
    let later = pages_with_done (map register_page registers) a in
    ap (λ (page : OpenPage). cond (nat_lt 0 (length page.left)) (page ∷ later) later) (page_with_done-register a register)
    ∙ (ap (λ pages. cond (nat_lt 0 (length (not_done new))) (register_page new ∷ pages) pages) (pages_with_done-registers registers a)
    ∙ map_cond (nat_lt 0 (length (not_done new))) new rest)
