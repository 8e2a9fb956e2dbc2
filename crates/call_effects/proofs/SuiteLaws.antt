-- A suite's counts, one call after another.
use Rattle.std.proofs.Common.{ℕ, ◌≡◌, ◌+◌, refl, ap, ◌∙◌, sym}
use Rattle.pmem_base.specs.Counts.{risen_times}
use Rattle.pmem_base.proofs.CountLemmas.{risen_times-add}
use Rattle.call_effects.specs.SuiteStates.{SuiteState, SuiteRise}

pub SuiteRise-none : (old : SuiteState) → SuiteRise 0 0 0 old old
SuiteRise-none old = record { its_keys = refl; its_pads = refl; its_tags = refl; its_digests = refl }

pub SuiteRise-then : (a b c d e f : ℕ) (old mid new : SuiteState) → SuiteRise a b c old mid → SuiteRise d e f mid new → SuiteRise (a + d) (b + e) (c + f) old new
SuiteRise-then a b c d e f old mid new x y =
    record {
      its_keys = y.its_keys ∙ x.its_keys;
      its_pads = y.its_pads ∙ ap (risen_times d) x.its_pads ∙ sym (risen_times-add a d old.pads);
      its_tags = y.its_tags ∙ ap (risen_times e) x.its_tags ∙ sym (risen_times-add b e old.tags);
      its_digests = y.its_digests ∙ ap (risen_times f) x.its_digests ∙ sym (risen_times-add c f old.digests);
    }

pub SuiteRise-as : (a b c d e f : ℕ) (old new : SuiteState) → a ≡ d → b ≡ e → c ≡ f → SuiteRise a b c old new → SuiteRise d e f old new
SuiteRise-as a b c d e f old new p q r x =
    record {
      its_keys = x.its_keys;
      its_pads = x.its_pads ∙ ap (λ n. risen_times n old.pads) p;
      its_tags = x.its_tags ∙ ap (λ n. risen_times n old.tags) q;
      its_digests = x.its_digests ∙ ap (λ n. risen_times n old.digests) r;
    }
