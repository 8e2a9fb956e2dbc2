use Rattle.std.proofs.Common.{arith, ◌≡◌, ℕ, List, ◌+◌, ◌*◌, ◌++◌, replicate, ap, ◌∙◌, subst}
use Rattle.std.proofs.lemmas.List.{replicate-append-replicate}
use Rattle.sha2.specs.Hashers.{Holds256}
use Rattle.cipher_rate.proofs.work.hashed.Goals as goal

pub loop-made-preserved : goal.loop-made-preserved
loop-made-preserved c =
    let so-far : List ℕ = replicate (64 * c.loop-made.made) 0 in
    let more : so-far ++ c.as_slice.result.now ≡ replicate (64 * (c.loop-made.made + 1)) 0 =
    ap (λ block. so-far ++ block) c.as_slice.ensures
    ∙ replicate-append-replicate (64 * c.loop-made.made) 64 0
    ∙ ap (λ n. replicate n 0) (omega arith) in
    record { taken = subst (λ message. Holds256 c.update.new.self message) more (c.update.ensures so-far c.loop-made.invariant.taken) }
