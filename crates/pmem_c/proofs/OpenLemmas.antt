-- A handle that was open, a closed one that was opened, or stays closed.
use Rattle.std.proofs.Common.{◌≡◌, ℕ, List, [], true, false, refl, sym}
use Rattle.std.specs.Prelude.{Option, Some, None, is_some}
use Rattle.std.proofs.lemmas.Bool.{true≢false}
use Rattle.pmem_c.specs.declared.session.Session.{Session}
use Rattle.pmem_c.specs.Opened.{IsOpenedBy, IsUnopened}
use Rattle.pmem_c.specs.Sessions.{HasOpened}

pub stays_open : (held : Option Session) (words : List ℕ) → is_some held ≡ true → HasOpened held words 65 held
stays_open (Some session) words is_open = (refl, refl)
stays_open None words is_open = absurd (true≢false (sym is_open))

pub stays_closed : (held : Option Session) (words : List ℕ) (status : ℕ) → is_some held ≡ false → IsUnopened words status → HasOpened held words status held
stays_closed None words status is_closed unopened = unopened
stays_closed (Some session) words status is_closed unopened = absurd (true≢false is_closed)

-- a session is held
pub is_opened : (held : Option Session) (words : List ℕ) (session : Session) → is_some held ≡ false
    → IsOpenedBy words session.any → session.reply.items ≡ [] → HasOpened held words 0 (Some session)
is_opened None words session is_closed opened empty = (refl, opened, empty)
is_opened (Some other) words session is_closed opened empty = absurd (true≢false is_closed)
