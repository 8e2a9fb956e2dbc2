-- Two parts of a call, one after the other, are one part: what holds of each holds of both.
use Rattle.std.proofs.lemmas.Grind.{common_steps}
use Rattle.std.proofs.Common.{rules, ℕ, ◌≡◌, ◌++◌, ◌⊎◌, List, [], IsTrue, sym, ap, ◌∙◌, arith}
use Rattle.std.proofs.lemmas.Bool.{or_cases}
use Rattle.std.proofs.lemmas.List.{append_assoc, length-append}
use Rattle.std.proofs.lemmas.List.Folds.{list_any-append}
use Rattle.pmem_base.specs.declared.answers.Mark.{Mark}
use Rattle.suite.specs.Setup.{Setup}
use Rattle.call_effects.proofs.PowerLaws.{power_chained, going_uncut, going_unshown}
use Rattle.pmem_engine.specs.Parts.{Parts, regs_of}
use Rattle.call_effects.specs.Outcomes.{Outcome, going}
use Rattle.pmem_engine.specs.Outcomes.{is_sealed_by, is_seal_of, KeepsPlaces, KeepsMeta, KeepsMetaWhere, CallEffect, OneLossEffect, KeepsCounters, NeverFalls}

-- ---- marks of both

pub sealed_by_either : (made more : List Mark) (a : ℕ) → IsTrue (is_sealed_by (made ++ more) a)
    → IsTrue (is_sealed_by made a) ⊎ IsTrue (is_sealed_by more a)
sealed_by_either made more a it =
    or_cases (is_sealed_by made a) (is_sealed_by more a) (sym (list_any-append (is_seal_of a) made more) ∙ it)

-- ---- places

places_chained : (setup : Setup) (made more : List Mark) (old mid new : Parts)
    → KeepsPlaces setup made old mid → KeepsPlaces setup more mid new → KeepsPlaces setup (made ++ more) old new
places_chained setup made more old mid new first second = grind (arith, common_steps)

metadata_chained : (setup : Setup) (made more : List Mark) (old mid new : Parts)
    → KeepsMeta setup made old mid → KeepsMeta setup more mid new → KeepsMeta setup (made ++ more) old new
metadata_chained setup made more old mid new first second = grind (arith, common_steps)

metadata_where : (setup : Setup) (outcome : Outcome) (made more : List Mark) (old mid new : Parts)
    → KeepsMeta setup made old mid → KeepsMetaWhere setup outcome more mid new
    → KeepsMetaWhere setup outcome (made ++ more) old new
metadata_where setup outcome made more old mid new first second = search (rules, metadata_chained)

-- ---- counts

never_falls : (old mid new : ℕ) → NeverFalls old mid → NeverFalls mid new → NeverFalls old new
never_falls old mid new first second within = search rules

-- ---- parts of a call

pub gone_chained : (setup : Setup) (outcome : Outcome) (made more : List Mark) (old mid new : Parts)
    → CallEffect setup going made old mid → CallEffect setup outcome more mid new
    → CallEffect setup outcome (made ++ more) old new
gone_chained setup outcome made more old mid new first second = search (rules, append_assoc, length-append, places_chained, metadata_where, power_chained, going_uncut, going_unshown, never_falls)

counters_chained : (setup : Setup) (old mid new : Parts)
    → KeepsCounters setup old mid → KeepsCounters setup mid new → KeepsCounters setup old new
counters_chained setup old mid new first second = λ page within it. second page within (first page within it)

-- a part that goes on, and then another
pub done_chained : (setup : Setup) (outcome : Outcome) (made more : List Mark) (old mid new : Parts)
    → OneLossEffect setup going made old mid → OneLossEffect setup outcome more mid new
    → OneLossEffect setup outcome (made ++ more) old new
done_chained setup outcome made more old mid new first second =
    record {
      gone = gone_chained setup outcome made more old mid new first.gone second.gone;
      loss = second.loss ∙ first.loss;
      counters =
          λ was. counters_chained setup old mid new (first.counters was) (second.counters (first.gone.trusted was));
    }

-- a part that goes on leaves no group armed where none was
pub still_unarmed : (setup : Setup) (made : List Mark) (old new : Parts) → CallEffect setup going made old new
    → (regs_of old).group.items ≡ [] → (regs_of new).group.items ≡ []
still_unarmed setup made old new gone no_group =
    ap (λ group. group.items) (gone.group going_uncut) ∙ no_group
