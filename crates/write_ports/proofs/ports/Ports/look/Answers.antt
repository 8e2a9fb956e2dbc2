-- What the port's queue shows.
use Rattle.std.proofs.Common.{◌≡◌, ◌<◌, ◌^◌, [], get_or, subst, ap, ◌∙◌, arith}
use Rattle.std.specs.Prelude.{◌==◌}
use Rattle.std.proofs.lemmas.List.{get_or_default}
use Rattle.std.proofs.lemmas.List.Elements.{All-filter, All-get_or}
use Rattle.pmem_base.specs.declared.commands.Posted.{Posted}
use Rattle.pmem_base.specs.Ranges.{IsPosted}
use Rattle.pmem_base.specs.WaitingWrites.{queue_of, writes_to}
use Rattle.write_ports.specs.Queues.{IsQueue}
use Rattle.write_ports.specs.Seen.{IsSight}
use Rattle.write_ports.proofs.WriteLemmas.{overlaid-sight, cover_line_from_mask, mask_from_cover_line}
use Rattle.write_ports.proofs.ports.Ports.look.Goals as goal

pub returns-clause-over : goal.returns-clause-over
returns-clause-over c =
    let queues = c.self.inside.queues in
    let same : get_or queues c.from.result c.index-self-from.result ≡ queue_of c.args.self.now c.args.port =
    get_or_default queues c.from.result c.index-self-from.result [] (omega arith)
    ∙ ap (λ n. get_or queues n []) c.from.ensures
    ∙ ap (λ qs. get_or qs c.args.port []) c.self.view_is in
    let sight : IsSight (writes_to (queue_of c.args.self.now c.args.port) c.args.at) c.look.result =
    subst (λ queue. IsSight (writes_to queue c.args.at) c.look.result) same c.look.ensures in
    let waiting : IsQueue (queue_of c.args.self.now c.args.port) =
    subst IsQueue same
    (All-get_or IsQueue queues c.from.result c.index-self-from.result (omega arith) c.self.invariant.each) in
    λ line long.
    overlaid-sight line (writes_to (queue_of c.args.self.now c.args.port) c.args.at) c.look.result long
    (All-filter (λ (write : Posted). write.at == c.args.at) IsPosted (queue_of c.args.self.now c.args.port) waiting.posted)
    sight

pub returns-clause-full : goal.returns-clause-full
returns-clause-full c =
    let queues = c.self.inside.queues in
    let same : get_or queues c.from.result c.index-self-from.result ≡ queue_of c.args.self.now c.args.port =
    get_or_default queues c.from.result c.index-self-from.result [] (omega arith)
    ∙ ap (λ n. get_or queues n []) c.from.ensures
    ∙ ap (λ qs. get_or qs c.args.port []) c.self.view_is in
    let sight : IsSight (writes_to (queue_of c.args.self.now c.args.port) c.args.at) c.look.result =
    subst (λ queue. IsSight (writes_to queue c.args.at) c.look.result) same c.look.ensures in
    let small : c.look.result.mask < 2 ^ 64 = omega arith in (
      cover_line_from_mask (writes_to (queue_of c.args.self.now c.args.port) c.args.at) c.look.result sight,
      mask_from_cover_line (writes_to (queue_of c.args.self.now c.args.port) c.args.at) c.look.result sight small,
    )
