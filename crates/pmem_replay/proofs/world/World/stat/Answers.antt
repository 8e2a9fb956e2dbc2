-- The counts since formatting ended.
use Rattle.std.proofs.Common.{ℕ, arith, ap, ◌∙◌, ◌-◌}
use Rattle.pmem_base.specs.declared.answers.Stat.{Stat}
use Rattle.pmem_replay.proofs.Table.TableChanges.{stat-ok}
use Rattle.pmem_replay.proofs.Table.PeekLaws.{all_told}
use Rattle.pmem_base.specs.Geo.{shape_of}
use Rattle.board.specs.MemBoard.{memory_of}
use Rattle.seal_ledger.specs.View.{capacity_of, ledger_of}
use Rattle.pmem_base.specs.declared.commands.Command.TheVariants as Do
use Rattle.pmem_replay.specs.World.{WorldParts, AreExact}
use Rattle.pmem_replay.proofs.Steps.PartsOfWorld.{held, setup_in, going_in, seen_still}
use Rattle.pmem_replay.proofs.world.World.stat.Goals as goal

pub returns : goal.returns
returns g c =
    let formulas_of = g.S.Suite.formulas_of in
    let inside = c.self.inside in
    let geo = shape_of inside.geo in
    let p : WorldParts =
    held (g.S.Suite.keys inside.suite) (memory_of inside.board) (ledger_of inside.ledger) (capacity_of inside.ledger) inside.engine (g.S.Suite.tags inside.suite)
    (g.S.Suite.digests inside.suite) inside.ports inside.tampered inside.dirtied inside.steps inside.start inside.shown in
    let going = going_in formulas_of geo p c.args.self.now c.self.view_is c.requires c.self.invariant in
    let counted = c.counts_of-now.ensures in
    let told = λ (exact : AreExact (memory_of inside.board)).
    c.steps_told-writes.ensures.exact (omega (arith, exact.writes, ap (λ (s : Stat). s.writes) counted))
    (omega (arith, exact.latches, ap (λ (s : Stat). s.latches) counted)) in
    seen_still formulas_of geo p c.args.self.now (Do.Stat) _ c.self.view_is
    (stat-ok (setup_in formulas_of geo p) p going _ (record { reads = omega arith; writes = omega arith; latches = omega arith; tags = omega arith; digests = omega arith })
    (record {
      reads = c.saturating_sub.ensures ∙ ap (λ (s : Stat). s.reads - inside.start.reads) c.counts_of-now.ensures;
      writes = λ exact. ap (λ (t : ℕ × ℕ). t.0) (told exact) ∙ ap (λ (s : Stat). s.writes - inside.start.writes) counted;
      latches = λ exact. ap (λ (t : ℕ × ℕ). t.1) (told exact) ∙ ap (λ (s : Stat). s.latches - inside.start.latches) counted;
      all_steps =
          all_told (memory_of inside.board) c.counts_of-now.result inside.steps c.steps_told-writes.result (ap (λ (s : Stat). s.writes) counted)
          (ap (λ (s : Stat). s.latches) counted) c.steps_told-writes.ensures.all_writes c.steps_told-writes.ensures.all_latches;
      tags = c.saturating_sub-2.ensures ∙ ap (λ (s : Stat). s.tags - inside.start.tags) c.counts_of-now.ensures;
      digests = c.saturating_sub-3.ensures ∙ ap (λ (s : Stat). s.digests - inside.start.digests) c.counts_of-now.ensures;
    }))
