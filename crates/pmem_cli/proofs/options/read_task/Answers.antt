use Rattle.std.proofs.Common.{◌-◌, ◌∙◌, length, take, drop, map, string_bytes, sym, ap}
use Rattle.pmem_cli.specs.Words.{task_of}
use Rattle.pmem_cli.proofs.WordLemmas.{one_first, asks_session}
use Rattle.pmem_cli.proofs.options.read_task.Goals as goal

pub returns-in_default-as_str-clause-task : goal.returns-in_default-as_str-clause-task
returns-in_default-as_str-clause-task c =
    let all = c.args.words.now in
    let word = string_bytes {Z = Rattle.std.proofs.Common.Global} c.name-item.result in
    let rest = map (string_bytes {Z = Rattle.std.proofs.Common.Global}) (take (length all - 1) (drop 1 all)) in
    let none = c.in_default-as_str in
    let is = c.as_str.ensures.value in
    let cut = one_first all c.name-item.result c.in-len1-up.len_at_least c.name-item.is in
    (rw c.as_str-in_default-as_str.ensures.value at c.read_session.ensures.task)
    ∙ sym (asks_session word rest (rw is at none.not-run) (rw is at none.not-check) (rw is at none.not-make) (rw is at none.not-sample))
    ∙ sym (ap (λ words. task_of (map (string_bytes {Z = Rattle.std.proofs.Common.Global}) words)) cut)
