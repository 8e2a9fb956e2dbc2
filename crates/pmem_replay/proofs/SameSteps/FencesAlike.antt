-- Two outcomes of one fence: drain by drain they are the same.
use Rattle.std.proofs.Common.{ℕ, ◌≡◌, ◌+◌, true, inl, inr, List, [], ◌∷◌, None, sym, subst, ◌∙◌, Some}
use Rattle.pmem_base.specs.declared.commands.Posted.{Posted}
use Rattle.pmem_base.specs.declared.answers.Answer.{Answer}
use Rattle.pmem_base.specs.declared.answers.Answer.TheVariants as Say
use Rattle.suite.specs.Setup.{Setup}
use Rattle.pmem_replay.specs.Stepped.{EndsWrites, HasSameParts, HasFenced}
use Rattle.pmem_replay.specs.Determined.{AreSameParts}
use Rattle.pmem_replay.specs.World.{WorldState}
use Rattle.pmem_replay.proofs.SameSteps.CallsAlike.{calls_alike, drain_says_one}

-- the write that ends a fence decides its answer
ends_alike : (n spent : ℕ) (one x y : Answer) → EndsWrites (Some n) spent one x → EndsWrites (Some n) spent one y → x ≡ y
ends_alike n spent (Say.Refused None place steps) x y is its = is ∙ sym its
ends_alike n spent (Say.Spent None page steps) x y is its = is ∙ sym its
ends_alike n spent (Say.CutKept None steps) x y is its = is ∙ sym its
ends_alike n spent (Say.CutLost None steps) x y is its = is ∙ sym its
ends_alike n spent (Say.Shown exhibit) x y is its = is ∙ sym its
ends_alike n spent one x y is its = absurd is

same_count : (k n : ℕ) → Say.Drained k ≡ Say.Drained n → k ≡ n
same_count k n same = cc

kept_alike : (old other a b : WorldState) → AreSameParts old other → HasSameParts old a → HasSameParts other b → AreSameParts a b
kept_alike old other a b same it its =
    record {
      board = it.board ∙ same.board ∙ sym its.board;
      engine = it.engine ∙ same.engine ∙ sym its.engine;
      ledger = it.ledger ∙ same.ledger ∙ sym its.ledger;
      tags = it.tags ∙ same.tags ∙ sym its.tags;
      digests = it.digests ∙ same.digests ∙ sym its.digests;
    }

pub fences_alike : (setup : Setup) (queue : List Posted) (n spent : ℕ) (old other a b : WorldState) (x y : Answer) → AreSameParts old other
    → old.board.powered ≡ true → HasFenced setup queue n spent old x a → HasFenced setup queue n spent other y b → (x ≡ y) × AreSameParts a b
fences_alike setup [] n spent old other a b x y same on it its = (it.1 ∙ sym its.1, kept_alike old other a b same it.0 its.0)
fences_alike setup (write ∷ later) n spent old other a b x y same on (inl s) (inl t) =
    let one = calls_alike (drain_says_one write) old other a b s.0 t.0 same on s.1 t.1 in
    (ends_alike n spent s.0 x y s.2 (subst (λ (o : Answer). EndsWrites (Some n) spent o y) (sym one.0) t.2), one.1)
fences_alike setup (write ∷ later) n spent old other a b x y same on (inl s) (inr t) =
    let one = calls_alike (drain_says_one write) old other a t.1 s.0 (Say.Drained t.0) same on s.1 t.2 in
    absurd (subst (λ (o : Answer). EndsWrites (Some n) spent o x) one.0 s.2)
fences_alike setup (write ∷ later) n spent old other a b x y same on (inr s) (inl t) =
    let one = calls_alike (drain_says_one write) old other s.1 b (Say.Drained s.0) t.0 same on s.2 t.1 in
    absurd (subst (λ (o : Answer). EndsWrites (Some n) spent o y) (sym one.0) t.2)
fences_alike setup (write ∷ later) n spent old other a b x y same on (inr s) (inr t) =
    let one = calls_alike (drain_says_one write) old other s.1 t.1 (Say.Drained s.0) (Say.Drained t.0) same on s.2 t.2 in
    let count = same_count s.0 t.0 one.0 in
    fences_alike setup later (n + 1) (spent + s.0) s.1 t.1 a b x y one.1 s.2.power s.3
    (subst (λ (k : ℕ). HasFenced setup later (n + 1) (spent + k) t.1 y b) (sym count) t.3)
