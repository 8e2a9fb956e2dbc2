-- The calls of a suite by which an exhibit is tried.
use Rattle.std.specs.Prelude.{ℕ, nat_lt, nat_le, Bool, ◌&&◌, if◌then◌else◌}
use Rattle.pmem_base.specs.declared.answers.Exhibit.{Exhibit}
use Rattle.pmem_base.specs.declared.answers.Exhibit.TheVariants.{Clash, Forged, Twin}
use Rattle.pmem_base.specs.Counts.{risen}
use Rattle.pmem_base.specs.Lines.{same_bytes}

-- whether two minors are in order and in their range
abbrev pub are_minors : ℕ → ℕ → Bool
are_minors low high = nat_lt low high && nat_le high 127

-- the count of digests afterwards: two are made for two lines that differ, and else none
abbrev pub digests_after : Exhibit → ℕ → ℕ
digests_after (Clash x first second) count =
    if same_bytes first.0 second.0 then count else risen (risen count)
digests_after exhibit count = count

-- the count of tags afterwards: one is made for a forged line, and two for two minors in order
abbrev pub tags_after : Exhibit → ℕ → ℕ
tags_after (Forged at ctr cipher tag) count = risen count
tags_after (Twin at major low high cipher tag) count =
    if are_minors low high then risen (risen count) else count
tags_after exhibit count = count
