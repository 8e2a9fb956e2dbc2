-- That an answer to C is the only one.
use Rattle.std.specs.Prelude.{ℕ, ◌≡◌, ◌≢◌, List}
use Rattle.pmem_c.specs.Answered.{HasAnswered}

-- the program ran, memory never ended, and the words were a task
pub record IsWholeAnswer (words trace : List ℕ) (status : ℕ) (put : List ℕ) : Type 0 where
  pub answered : HasAnswered words trace status put
  pub had_memory : status ≢ 1
  pub a_task : status ≢ 2
  pub whole : status ≢ 4

abbrev pub AnswerIsDetermined : Type 0
AnswerIsDetermined =
    (words trace : List ℕ) (a b : ℕ) (put_a put_b : List ℕ) → IsWholeAnswer words trace a put_a → IsWholeAnswer words trace b put_b → (a ≡ b) × (put_a ≡ put_b)
