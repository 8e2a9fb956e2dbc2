-- The session that C asks for by words.
use Rattle.std.specs.Prelude.{ℕ, ◌≡◌, ◌⊎◌, List, All, IsUtf8, MatchOption}
use Rattle.pmem_cli.specs.Words.{task_of}
use Rattle.any_session.specs.declared.kinds.AnySession.{AnySession}
use Rattle.any_session.specs.Opened.{IsOpened, IsSession}
use Rattle.pmem_c.specs.Words.{words_of}

-- the words are a task, and this is the session that the program begins with for it
abbrev pub IsOpenedBy : List ℕ → AnySession → Type 0
IsOpenedBy words any = MatchOption (task_of (words_of words)) ⊥ (λ task. IsOpened task any)

-- the words are those of a session
abbrev pub AreSessionWords : List ℕ → Type 0
AreSessionWords words = All IsUtf8 (words_of words) × MatchOption (task_of (words_of words)) ⊥ IsSession

-- no session is opened: because memory ran out (1), or since the words are not those of one (2)
abbrev pub IsUnopened : List ℕ → ℕ → Type 0
IsUnopened words status = (status ≡ 1) ⊎ ((status ≡ 2) × ¬ AreSessionWords words)
