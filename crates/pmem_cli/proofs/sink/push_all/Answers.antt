use Rattle.std.proofs.Common.{◌≡◌, ◌∙◌, ℕ, List, ◌++◌, take, drop, sym, ap, append_assoc, take-append-drop}
use Rattle.std.proofs.KnownBytes.{Appends-trans}
use Rattle.pmem_cli.proofs.sink.push_all.Goals as goal

moved : (all done rest : List ℕ) (n : ℕ) → all ≡ done ++ rest → all ≡ (done ++ take n rest) ++ drop n rest
moved all done rest n e = e ∙ ap (λ l. done ++ l) (sym (take-append-drop n rest)) ∙ sym (append_assoc done (take n rest) (drop n rest))

pub pushes-preserved : goal.pushes-preserved
pushes-preserved g c =
    let (done, split, appended, kept) = c.pushes.invariant in
    let rest = c.pushes.rest.now in
    let n = c.in_ok-count.count in
    (done ++ take n rest, rw c.split_at.ensures.back (moved _ done rest n split), Appends-trans _ _ _ _ _ appended c.in_ok-count.ensures.bytes, c.in_ok-count.ensures.cause.kept ∙ kept)
