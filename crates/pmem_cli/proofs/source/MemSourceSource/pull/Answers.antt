use Rattle.std.proofs.Common.{◌∙◌, ◌+◌, ◌++◌, ap, sym, take, drop, arith}
use Rattle.std.specs.Prelude.{Some}
use Rattle.std.proofs.lemmas.List.{drop_all}
use Rattle.pmem_cli.specs.Memory.{MemoryInput}
use Rattle.pmem_cli.proofs.PieceLemmas.{gives_front, given_further}
use Rattle.pmem_cli.proofs.source.MemSourceSource.pull.Goals as goal

pub returns-clause-gives : goal.returns-clause-gives
returns-clause-gives c =
    let items = c.self.inside.bytes.items in
    let at = c.self.inside.at in
    let n = c.copy_front-count.result in
    let to = c.copy_front-count.new.to in
    let left = ap (λ (input : MemoryInput). input.left) c.self.view_is in
    let given = ap (λ (input : MemoryInput). input.given) c.self.view_is in
    let copied = c.copy_front-count.ensures.copied ∙ ap (take n) (c.split_at.ensures.back ∙ ap (drop at) c.as_slice-2.ensures.value) in
    record {
      given = given_further items to at n copied ∙ ap (λ l. l ++ take n to) given;
      left = sym left ∙ gives_front items to at n copied;
    }

pub returns-clause-end : goal.returns-clause-end
returns-clause-end c =
    let items = c.self.inside.bytes.items in
    let at = c.self.inside.at in
    let n = c.copy_front-count.result in
    λ zero room. ap Some (drop_all (at + n) items
    (omega (arith, c.split_at.ensures.back_len, c.as_slice-2.ensures.len, c.copy_front-count.ensures.count)))
