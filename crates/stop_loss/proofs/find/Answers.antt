use Rattle.std.proofs.Common.{ℕ, List, ◌≡◌, ◌-◌, refl, ap, ◌∙◌, arith}
use Rattle.pmem_base.specs.Counts.{risen_times}
use Rattle.stop_loss.proofs.Trying.{HasTried-none, HasTried-more, HasTried-all, result_within, tries-more, tries-all, risen_times-min}
use Rattle.stop_loss.proofs.find.Goals as goal

pub loop-minor-init : goal.loop-minor-init
loop-minor-init g c =
    let none : 0 ≡ c.args.window.0 - c.args.window.0 = omega arith in (
      HasTried-none _ c.args.at c.args.major c.args.cipher.now c.args.tag.now c.args.window.0 c.args.window.1,
      ap (λ n. risen_times n (g.S.Suite.tags c.args.suite.now)) none,
      refl,
      refl,
      refl,
    )

pub loop-minor-preserved : goal.loop-minor-preserved
loop-minor-preserved g c =
    let tried = c.loop-minor.invariant in
    let made = c.tag-trial.ensures in
    let keys = tried.2 in (
      HasTried-more (g.S.Suite.formulas_of (g.S.Suite.keys c.args.suite.now)) c.args.at c.args.major c.args.cipher.now c.args.tag.now c.args.window.0 c.args.window.1 c.loop-minor.minor c.loop-minor.found c.tag-trial.result c.is_same.result c.after_trial-found.result tried.0 (omega arith)
          (made.tag ∙ ap (λ (k : List ℕ). (g.S.Suite.formulas_of k).tag_of c.args.at (record { major = c.args.major; minor = c.loop-minor.minor }) c.args.cipher.now) keys)
          c.is_same.ensures c.after_trial-found.ensures,
      made.tags ∙ tries-more c.args.window.0 c.loop-minor.minor (g.S.Suite.tags c.args.suite.now) (g.S.Suite.tags c.loop-minor.suite) tried.0.from_first tried.1,
      made.keys ∙ keys,
      made.pads ∙ tried.3,
      made.digests ∙ tried.4,
    )

pub returns-clause-found : goal.returns-clause-found
returns-clause-found g c =
    HasTried-all _ c.args.at c.args.major c.args.cipher.now c.args.tag.now c.args.window.0 c.args.window.1 c.loop-minor.minor c.loop-minor.found c.loop-minor.invariant.0 (omega arith)

pub returns-clause-tries : goal.returns-clause-tries
returns-clause-tries g c =
    tries-all c.args.window.0 c.args.window.1 c.loop-minor.minor (g.S.Suite.tags c.args.suite.now) (g.S.Suite.tags c.loop-minor.suite) c.loop-minor.invariant.0.from_first c.loop-minor.invariant.0.to_last (omega arith) c.loop-minor.invariant.1

pub returns-clause-count : goal.returns-clause-count
returns-clause-count g c small = returns-clause-tries g c ∙ risen_times-min _ (g.S.Suite.tags c.args.suite.now) small

pub returns-clause-inside : goal.returns-clause-inside
returns-clause-inside g c =
    result_within (g.S.Suite.formulas_of (g.S.Suite.keys c.args.suite.now)) c.args.at c.args.major c.args.cipher.now c.args.tag.now c.args.window.0 c.args.window.1 c.loop-minor.found (returns-clause-found g c)
