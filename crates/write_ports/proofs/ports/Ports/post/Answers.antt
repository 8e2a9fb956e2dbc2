-- The port's queue takes the write.
use Rattle.std.proofs.Common.{◌≡◌, ◌<◌, [], List, length, get_or, sym, ap, subst, ◌∙◌, arith}
use Rattle.std.specs.Prelude.{slice_set, OnOk}
use Rattle.std.proofs.lemmas.List.{length-set, get_or_default}
use Rattle.std.proofs.lemmas.List.Elements.{All-set, All-get_or}
use Rattle.pmem_base.specs.declared.commands.Posted.{Posted}
use Rattle.pmem_base.specs.WaitingWrites.{queue_of, queue_posted}
use Rattle.write_ports.specs.Queues.{IsQueue, ShowsPosted}
use Rattle.write_ports.proofs.PostLemmas.{queue_after, shows_after}
use Rattle.write_ports.proofs.ports.Ports.post.Goals as goal

pub invariant_of-self : goal.invariant_of-self
invariant_of-self c =
    let queues = c.self.inside.queues in
    let small : c.from.result < length queues = omega (arith, c.from.ensures, c.self.invariant.eight, c.requires.port) in
    record {
      eight = length-set queues c.from.result _ ∙ c.self.invariant.eight;
      each =
          All-set IsQueue queues c.from.result _
          (queue_after c.post.result c.args.combines (get_or queues c.from.result c.index-self-from.result) c.post.new.self c.args.write.now
          c.post.ensures.full c.post.ensures.ok c.post.ensures.err
          (All-get_or IsQueue queues c.from.result c.index-self-from.result small c.self.invariant.each) c.requires.write)
          c.self.invariant.each;
    }

pub returns-clause-shows : goal.returns-clause-shows
returns-clause-shows c =
    let queues = c.self.inside.queues in
    let small : c.args.port < length queues = omega (arith, c.self.invariant.eight, c.requires.port) in
    let same : get_or queues c.from.result c.index-self-from.result ≡ queue_of queues c.args.port =
    get_or_default queues c.from.result c.index-self-from.result [] (omega (arith, c.from.ensures, small))
    ∙ ap (λ n. get_or queues n []) c.from.ensures in
    subst (λ (qs : List (List Posted)). OnOk c.post.result (ShowsPosted qs (slice_set queues c.from.result c.post.new.self) c.args.port c.args.write.now))
    c.self.view_is
    (shows_after c.post.result c.args.combines queues c.from.result c.args.port c.post.new.self c.args.write.now c.from.ensures small c.requires.write
    (c.self.invariant.each c.args.port [] small)
    (subst (λ queue. OnOk c.post.result (c.post.new.self ≡ queue_posted c.args.combines queue c.args.write.now)) same c.post.ensures.ok))
