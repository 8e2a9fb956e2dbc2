-- The page's register is marked, or goes; where the page has none, no line is marked.
use Rattle.std.proofs.Common.{get_or, [], rules}
use Rattle.std.proofs.lemmas.List.{length-set}
use Rattle.pmem_base.specs.declared.registers.Progress.{Progress}
use Rattle.meta_cache.proofs.ListLemmas.{refill_same}
use Rattle.page_reencrypt.proofs.AtPlace.{registers_with_done-marked, registers_with_done-removed, registers_with_done-closed}
use Rattle.pmem_engine.proofs.resealing.done_in.Goals as goal

-- what a read past the registers' end gives
abbrev no_register : Progress
no_register = record { page = 0; old = record { 0 = [] }; done = 0 }

pub returns-in-Some-mark-clause-progress : goal.returns-in-Some-mark-clause-progress
returns-in-Some-mark-clause-progress c = search (rules, refill_same, length-set, registers_with_done-marked, get_or)

pub returns-in-None-clause-progress : goal.returns-in-None-clause-progress
returns-in-None-clause-progress c = search (rules, registers_with_done-removed, get_or)

pub returns-in_default-clause-progress : goal.returns-in_default-clause-progress
returns-in_default-clause-progress c = search (rules, registers_with_done-closed)
