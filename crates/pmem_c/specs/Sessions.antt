-- What calls from C do to the session that a handle holds.
use Rattle.std.specs.Prelude.{ℕ, ◌≡◌, ◌+◌, true, false, List, [], Option, Some, None, is_some, if◌then◌else◌}
use Rattle.plain_model.specs.Run.{kind_number}
use Rattle.any_session.specs.declared.Told.{Told}
use Rattle.any_session.specs.declared.Told.TheVariants.{Skipped, Replied, NoMemory, Faulty, Over}
use Rattle.any_session.specs.Kinds.{IsTold}
use Rattle.pmem_c.specs.declared.Pmem.{Pmem}
use Rattle.pmem_c.specs.declared.session.Session.{Session}
use Rattle.pmem_c.specs.Opened.{IsOpenedBy, IsUnopened}

-- a handle that these calls wrote: it is open if and only if it holds a session
abbrev pub IsHandle : Pmem → Type 0
IsHandle pmem = pmem.is_open ≡ is_some pmem.handle.held

-- ---- a line told

-- 0: it was answered, or skipped; else why not, or how the session ended
abbrev pub status_of_told : Told → ℕ
status_of_told Skipped = 0
status_of_told (Replied over false) = 4
status_of_told (Replied true true) = 6
status_of_told (Replied false true) = 0
status_of_told NoMemory = 1
status_of_told (Faulty kind) = 50 + kind_number kind
status_of_told Over = 66

pub record HasToldLine (old : Session) (line : List ℕ) (status : ℕ) (new : Session) : Type 0 where
  pub told : Told
  pub its_status : status ≡ status_of_told told
  pub is_told : IsTold old.any line told new.reply.items new.any

-- a closed handle gets no line, and an open one stays open
abbrev pub HasToldHeld : Option Session → List ℕ → ℕ → Option Session → Type 0
HasToldHeld None line status new = (status ≡ 64) × (new ≡ None)
HasToldHeld (Some old) line status (Some new) = HasToldLine old line status new
HasToldHeld (Some old) line status None = ⊥

-- the text of the last reply
abbrev pub reply_held : Option Session → List ℕ
reply_held None = []
reply_held (Some session) = session.reply.items

-- ---- opened and closed

-- An open handle stays as it was. A closed one holds the session of these words, or is closed still.
abbrev pub HasOpened : Option Session → List ℕ → ℕ → Option Session → Type 0
HasOpened (Some old) words status new = (status ≡ 65) × (new ≡ Some old)
HasOpened None words status (Some new) = (status ≡ 0) × IsOpenedBy words new.any × (new.reply.items ≡ [])
HasOpened None words status None = IsUnopened words status

abbrev pub HasClosed : Option Session → ℕ → Option Session → Type 0
HasClosed old status new = (status ≡ (if is_some old then 0 else 64)) × (new ≡ None)
