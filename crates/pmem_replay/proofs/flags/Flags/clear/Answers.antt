-- A new epoch clears all flags.
use Rattle.std.proofs.Common.{vec_len, arith, ◌≡◌, length, sym, ap, ◌∙◌}
use Rattle.plain_model.specs.State.{no_flags}
use Rattle.pmem_replay.proofs.Boards.StampLemmas.{length-flags, flags-later, stamped-later, flags-empty}
use Rattle.pmem_replay.proofs.flags.Flags.clear.Goals as goal

pub invariant_of-self : goal.invariant_of-self
invariant_of-self c = stamped-later c.self.inside.stamps.items c.self.inside.epoch c.self.inside.count c.self.invariant

pub returns-then-self-lt4294967295 : goal.returns-then-self-lt4294967295
returns-then-self-lt4294967295 c =
    flags-later c.self.inside.stamps.items c.self.inside.epoch c.self.inside.count c.self.invariant
    ∙ ap no_flags (sym (length-flags c.self.inside.stamps.items c.self.inside.epoch) ∙ ap length c.self.view_is)

pub returns-else-self-lt4294967295 : goal.returns-else-self-lt4294967295
returns-else-self-lt4294967295 c =
    let count : vec_len c.self.inside.stamps ≡ length c.args.self.now =
    omega (arith, length-flags c.self.inside.stamps.items c.self.inside.epoch, ap length c.self.view_is) in
    flags-empty c.fill.new.self.items (vec_len c.self.inside.stamps) (c.fill.ensures.items (λ y zero. zero))
    ∙ ap no_flags count
