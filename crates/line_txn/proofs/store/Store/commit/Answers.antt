-- The engine is down, or the calls of a commit are made, and what they make of the lines.
use Rattle.std.proofs.Common.{◌∙◌, refl, sym}
use Rattle.line_txn.proofs.Common.{guarded_up, guarded_down}
use Rattle.line_txn.proofs.Commits.{left_logged, commit_trusted, commit_sound, spent_undecided}
use Rattle.line_txn.proofs.store.Store.commit.Goals as goal

pub commit_lines-requires-clause-up : goal.commit_lines-requires-clause-up
commit_lines-requires-clause-up g c = sym c.is_down.ensures ∙ c.if-is_down.false

pub returns-then-is_down-clause-committed : goal.returns-then-is_down-clause-committed
returns-then-is_down-clause-committed g c =
    guarded_down _ _ _ _ _ (sym c.is_down.ensures ∙ c.if-is_down.true)
    (c.refused.ensures.answer, record { its_lines = refl; its_targets = refl; its_page = refl })

pub returns-clause-committed : goal.returns-clause-committed
returns-clause-committed g c =
    guarded_up _ _ _ _ _ _ _ (sym c.is_down.ensures ∙ c.if-is_down.false) c.commit_lines.ensures.down
    (record {
      committed = c.commit_lines.ensures.committed;
      plan = c.commit_lines.ensures.plan;
      logged =
          λ trusted lines had.
          left_logged _ _ lines _ _ _ _ _
          (record {
            size = c.args.self.now.its_lines;
            low = c.args.self.now.few_lines;
            below = c.requires.targets;
            lines = c.commit_lines.ensures.whole;
          })
          had trusted c.commit_lines.ensures.committed;
      trusted = commit_trusted _ _ _ _ _ _ _ c.commit_lines.ensures.committed;
      sound = commit_sound _ _ _ _ _ _ _ c.commit_lines.ensures.committed;
    })

pub returns-clause-spent : goal.returns-clause-spent
returns-clause-spent g c = spent_undecided _ _ _ _ _ _ _ c.commit_lines.ensures.committed
