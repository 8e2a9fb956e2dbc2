-- How a session answers: by how a call's plan ended, and by what the call left.
use Rattle.std.specs.Prelude.{ℕ, ◌≡◌, Bool, List, length, drop, Result, if◌then◌else◌}
use Rattle.std.specs.List.{list_any}
use Rattle.pmem_base.specs.declared.answers.Mark.{Mark}
use Rattle.engine_lines.specs.Writes.{is_own_seal}
use Rattle.line_session.specs.State.{LineSession}

-- a call's steps and its end, between two sessions
abbrev pub CallRelation : Type 0 → Type 0 → Type 1
CallRelation F A = ℕ → Result A F → LineSession → LineSession → Type 0

-- What is answered after a call, and what else is kept of it, is a function of the call's steps, of its end and of the session that it
-- left.
pub record IsAnsweredBy {F A W : Type 0} (calls : CallRelation F A) (says : LineSession → ℕ → Result A F → W) (said : W) (old new : LineSession) :
    Type 0 where
  pub steps : ℕ
  pub end : Result A F
  pub called : calls steps end old new
  pub is_said : said ≡ says new steps end

-- ---- words for what is answered

-- what is there while power is on, and what without
abbrev pub while_on : {X : Type 0} → LineSession → X → X → X
while_on session kept without = if session.board.powered then kept else without

-- whether a write's own seal of the line is among the marks since these
abbrev pub is_sealed_since : ℕ → List Mark → LineSession → Bool
is_sealed_since line marks session = list_any (is_own_seal line) (drop (length marks) session.ledger.marks)
