use Rattle.pmem_base.specs.Geo.{shape_of}
use Rattle.call_plan.proofs.Steps.{answered_err}
use Rattle.pmem_recovery.proofs.TrialPlans.{sealed_unread, sealed_half_read, sealed_read}
use Rattle.pmem_recovery.proofs.counters.read_sealed.Goals as goal

pub returns-in_err-cipher : goal.returns-in_err-cipher
returns-in_err-cipher g c =
    record {
      plan =
          answered_err c.from_residual.result c.from_residual.ensures.1
          (sealed_unread (shape_of c.args.geo.now) c.args.at c.in_err-cipher.ensures.cut c.in_err-cipher.ensures.only_off);
    }

pub returns-in_err-tags : goal.returns-in_err-tags
returns-in_err-tags g c =
    record {
      plan =
          answered_err c.from_residual-in_err-tags.result c.from_residual-in_err-tags.ensures.1
          (sealed_half_read (shape_of c.args.geo.now) c.args.at c.in_ok-cipher.ensures.ok c.is_whole.ensures c.in_err-tags.ensures.cut c.in_err-tags.ensures.only_off);
    }

pub returns : goal.returns
returns g c =
    record {
      plan =
          sealed_read (shape_of c.args.geo.now) c.args.at c.in_ok-cipher.ensures.ok c.is_whole.ensures c.tag_at.result
          (rw c.tag_line.ensures.value at c.in_ok-tags.ensures.ok)
          c.is_whole-2.ensures c.tag_at.ensures;
    }
