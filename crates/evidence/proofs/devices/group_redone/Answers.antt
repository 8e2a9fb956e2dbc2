use Rattle.std.specs.Prelude.{All, take}
use Rattle.std.proofs.lemmas.List.Elements.{All-take}
use Rattle.commit_regs.specs.Groups.{Writes}
use Rattle.commit_regs.proofs.GroupLemmas.{redone-redone, redone-redone_same, Writes-get_or}
use Rattle.evidence.proofs.devices.group_redone.Goals as goal

pub returns-clause-again : goal.returns-clause-again
returns-clause-again c = redone-redone_same

pub returns-clause-after_a_part : goal.returns-clause-after_a_part
returns-clause-after_a_part c group n lines =
    let each : All (λ entry. Writes entry.0 group) group = λ i d l. Writes-get_or group i d l in
    redone-redone group (take n group) lines (All-take (λ entry. Writes entry.0 group) n group each)
