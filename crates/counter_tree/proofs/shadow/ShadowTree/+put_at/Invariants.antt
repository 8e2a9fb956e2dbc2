use Rattle.counter_tree.proofs.shadow.ShadowTree.+put_at.Given as goal

-- proposed from what the function passes where it calls itself
abbrev pub decreases-put_at : goal.decreases-put_at
decreases-put_at g l = l.level
