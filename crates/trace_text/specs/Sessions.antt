-- What a command's persist steps do to the fuse and to the count of cuts, whatever else a session's state holds. A fuse is how many more
-- steps are done before power is cut, if a cut is set.
use Rattle.std.specs.Prelude.{ℕ, ◌≡◌, ◌≤◌, ◌-◌, Option, Some, None, option_map, IfSome}
use Rattle.pmem_base.specs.Counts.{HasRisen}

-- the fuse has that many steps left
abbrev pub Lasts : Option ℕ → ℕ → Type 0
Lasts fuse steps = IfSome fuse (λ left. steps ≤ left)

-- the fuse after that many steps
abbrev pub burnt : Option ℕ → ℕ → Option ℕ
burnt fuse steps = option_map (λ left. left - steps) fuse

-- steps were done, no more than the fuse had left, and nothing was cut
pub record HasBurnt (steps : ℕ) (fuse fuse_after : Option ℕ) (cuts cuts_after : ℕ) : Type 0 where
  pub lasting : Lasts fuse steps
  pub rest : fuse_after ≡ burnt fuse steps
  pub uncut : cuts_after ≡ cuts

-- power was cut as the steps had used the fuse up, which is cleared
pub record HasRunOut (steps : ℕ) (fuse fuse_after : Option ℕ) (cuts cuts_after : ℕ) : Type 0 where
  pub at_end : fuse ≡ Some steps
  pub cleared : fuse_after ≡ None
  pub cut : HasRisen cuts cuts_after
