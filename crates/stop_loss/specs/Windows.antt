-- The minors that a stored minor may stand for.
use Rattle.std.specs.Prelude.{ℕ, ◌≡◌, ◌≤◌, ◌↔◌, ◌+◌, ◌-◌, ◌*◌, ◌/◌, List}
use Rattle.std.specs.List.{range_with_len}

-- the minors from a first one to a last one, both included
abbrev pub minors_within : ℕ → ℕ → List ℕ
minors_within first last = range_with_len first (last + 1 - first)

-- the stored minor, and the greatest one with its quotient by the stop-loss number
abbrev pub window_ends : ℕ → ℕ → ℕ × ℕ
window_ends stored loss = (stored, (stored / loss) * loss + loss - 1)

-- the minors of that window
abbrev pub window_minors : ℕ → ℕ → List ℕ
window_minors stored loss = range_with_len stored ((stored / loss) * loss + loss - stored)

-- the minors of a window are those from the stored one up that have its quotient
abbrev pub HoldsCandidates : ℕ → ℕ → ℕ × ℕ → Type 0
HoldsCandidates stored loss window =
    (minor : ℕ)
    → ((window.0 ≤ minor) × (minor ≤ window.1))
    ↔ ((stored ≤ minor) × (minor / loss ≡ stored / loss))
