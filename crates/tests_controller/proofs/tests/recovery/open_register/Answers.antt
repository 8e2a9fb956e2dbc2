use Rattle.std.proofs.Common.{◌≡◌, length, refl, sym, subst, arith}
use Rattle.pmem_base.specs.declared.registers.Progress.{Progress}
use Rattle.pmem_base.specs.Geo.{shape_of}
use Rattle.pmem_base.specs.Lines.{zero_line}
use Rattle.pmem_base.specs.Registers.{IsProgress, old_major, not_done, places_of_page}
use Rattle.tests_controller.proofs.tests.recovery.open_register.Goals as goal

its_major : old_major (record { page = 0; old = zero_line; done = 35 }) ≡ 0
unfolding old_major zero_line
its_major = refl

lines_left : length (not_done (record { page = 0; old = zero_line; done = 35 })) ≡ 61
unfolding not_done places_of_page
lines_left = refl

pub returns : goal.returns
returns g =
    subst (λ (p : Progress). IsProgress (shape_of g.args.geo.now) (record { page = p.page; old = p.old; done = 35 })) (sym g.default.ensures)
    (record { its_page = omega (arith, g.pages-pages.ensures.least, g.pages-pages.ensures.value); can_roll = omega (arith, its_major); some_left = omega (arith, lines_left) })
