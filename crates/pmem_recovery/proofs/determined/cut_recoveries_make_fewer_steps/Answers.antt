use Rattle.std.proofs.Common.{◌≡◌, ◌≤◌, ◌+◌, ◌-◌, inl, inr, ℕ, true, false, Some, Ok, Err, refl, sym, ap, ◌∙◌, arith}
use Rattle.std.proofs.lemmas.Bool.{cases_lt}
use Rattle.board.specs.Device.{Device}
use Rattle.call_plan.specs.Plans.{ended}
use Rattle.call_plan.specs.Following.{Follows}
use Rattle.call_plan.specs.Runs.{BurnsFuse}
use Rattle.call_plan.proofs.Determined.{determined_by_fuse}
use Rattle.call_plan.proofs.Keeping.{Grows, follows_grows, on_and_off}
use Rattle.suite.specs.Setup.{Setup}
use Rattle.pmem_recovery.specs.declared.faults.RecFault.TheVariants.{Memory, Cut, NoCounter, Root, Twin}
use Rattle.call_effects.specs.SuiteStates.{SuiteState}
use Rattle.pmem_recovery.specs.Plans.{counts_of, recover_plan}
use Rattle.pmem_recovery.specs.Recovered.{Answer, PowerAfter, PlanAfter}
use Rattle.pmem_recovery.specs.Determined.{IsGoneThrough}
use Rattle.pmem_recovery.proofs.determined.cut_recoveries_make_fewer_steps.Goals as goal

power_on : (answer : Answer) (old new : Device) → IsGoneThrough answer → PowerAfter answer old new → old.live ≡ true → new.live ≡ true
power_on (Ok done) old new gone p live = p.live live
power_on (Err Memory) old new gone p live = absurd gone
power_on (Err Cut) old new gone p live = absurd gone
power_on (Err (NoCounter at)) old new gone p live = p.live live
power_on (Err (Root kept found)) old new gone p live = p.live live
power_on (Err (Twin at major low high cipher tag)) old new gone p live = p.live live

its_plan : (setup : Setup) (answer : Answer) (old new : Device) (suite last : SuiteState) → IsGoneThrough answer → PlanAfter setup answer old new suite last
    → Follows (recover_plan setup old.regs (counts_of suite)) old new (ended answer (counts_of last))
its_plan setup (Ok done) old new suite last gone p = p
its_plan setup (Err Memory) old new suite last gone p = absurd gone
its_plan setup (Err Cut) old new suite last gone p = absurd gone
its_plan setup (Err (NoCounter at)) old new suite last gone p = p
its_plan setup (Err (Root kept found)) old new suite last gone p = p
its_plan setup (Err (Twin at major low high cipher tag)) old new suite last gone p = p

-- else both burn one fuse, and are the same
module _ (old a b : Device) (off : a.live ≡ false) (on : b.live ≡ true) (grows : Grows old a) where
  abbrev taken : ℕ
  taken = a.writes + a.latches - (old.writes + old.latches)

  cut_burns : BurnsFuse (Some taken) old a
  cut_burns =
      record {
        lasting = λ lit. on_and_off a.live lit off;
        spent = λ dark. (taken, refl, let w = grows.writes in let l = grows.latches in omega arith);
      }

  uncut_burns : b.writes + b.latches ≤ a.writes + a.latches → BurnsFuse (Some taken) old b
  uncut_burns few =
      record {
        lasting = λ lit. let w = grows.writes in let l = grows.latches in omega arith;
        spent = λ dark. on_and_off b.live on dark;
      }

pub returns : goal.returns
returns c = λ setup lines ledger other old a b suite left last answer told live below_a below_b cut its gone.
    let on : b.live ≡ true = power_on answer old b gone its.power live in
    let plan : Follows (recover_plan setup old.regs (counts_of suite)) old b (ended answer (counts_of last)) = its_plan setup answer old b suite last gone its.plan in
    let first : Follows (recover_plan setup old.regs (counts_of suite)) old a (Err (counts_of left, Cut)) = cut.plan in
    let grows : Grows old a = follows_grows first in
    elim (cases_lt (a.writes + a.latches) (b.writes + b.latches)) [
      | inl fewer ↦ fewer
      | inr few ↦
          let same = determined_by_fuse (Some (taken old a b cut.power.off on grows)) lines told live below_a below_b (cut_burns old a b cut.power.off on grows)
          (uncut_burns old a b cut.power.off on grows few) first plan in
          on_and_off b.live on (ap (λ (d : Device). d.live) (sym same.1) ∙ cut.power.off)
    ]
