-- What a refusal and an exhibit of the engine rest on: lines and tags as the call read them.
use Rattle.std.specs.Prelude.{ℕ, ◌≡◌, ◌≢◌, false, List, Some, option_map, IfSome, IsTrue}
use Rattle.pmem_base.specs.declared.lines.Line.{Line}
use Rattle.pmem_base.specs.declared.lines.Ctr.{Ctr}
use Rattle.pmem_base.specs.declared.answers.Exhibit.TheVariants.{Clash, Forged}
use Rattle.pmem_base.specs.Layout as layout
use Rattle.pmem_base.specs.Lines.{line_at, tag_slot}
use Rattle.pmem_base.specs.Marks.{last_seal}
use Rattle.bonsai_tree.specs.Positions.{is_on_path, level_of}
use Rattle.board.specs.Steps.{Tells}
use Rattle.meta_cache.specs.Banks.{is_cached}
use Rattle.suite.specs.Setup.{Setup}
use Rattle.pmem_engine.specs.Parts.{Parts}

-- a position of the page's path that wasn't cached before, and the line that was read there: the
-- device holds it now and held it before the call
pub record IsFetchedLine (setup : Setup) (page x : ℕ) (line : Line) (old new : Parts) : Type 0 where
  pub on_path : IsTrue (is_on_path setup.shape page x)
  pub uncached : is_cached setup.shape old.engine.cache (level_of x) x ≡ false
  pub before : Tells old.device.lines (layout.meta_line setup.shape x) line
  pub read : Tells new.device.lines (layout.meta_line setup.shape x) line

-- the line read at x has another digest than the true one
pub record IsMetaRefused (setup : Setup) (page x : ℕ) (old new : Parts) : Type 0 where
  pub line : Line
  pub fetched : IsFetchedLine setup page x line old new
  pub other_digest :
      setup.formulas.digest_of x line ≢ setup.formulas.digest_of x (line_at old.ledger.truth x)

-- the exhibit is a line read at x that isn't the true one, though their digests are equal
pub record IsClashShown (setup : Setup) (page : ℕ) (old new : Parts) : Type 0 where
  pub x : ℕ
  pub line : Line
  pub fetched : IsFetchedLine setup page x line old new
  pub exhibit : new.ledger.exhibit ≡ Some (Clash x line (line_at old.ledger.truth x))
  pub same_digest :
      setup.formulas.digest_of x line ≡ setup.formulas.digest_of x (line_at old.ledger.truth x)
  pub other_line : line ≢ line_at old.ledger.truth x

-- data line a and its tag, as read under the counter of the line's last seal
pub record IsUnsealedLine (setup : Setup) (a : ℕ) (ctr : Ctr) (cipher : Line) (tag : List ℕ)
    (new : Parts) : Type 0 where
  pub counter : option_map (λ seal. seal.ctr) (last_seal new.ledger.marks a) ≡ Some ctr
  pub cipher_read : Tells new.device.lines a cipher
  pub tag_line : Line
  pub tag_read : Tells new.device.lines (layout.tag_line setup.shape a) tag_line
  pub its_slot : tag_slot tag_line a ≡ tag

-- the tag of the line read isn't the one in its slot
pub record IsTagRefused (setup : Setup) (a : ℕ) (new : Parts) : Type 0 where
  pub ctr : Ctr
  pub cipher : Line
  pub tag : List ℕ
  pub unsealed : IsUnsealedLine setup a ctr cipher tag new
  pub other_tag : setup.formulas.tag_of a ctr cipher ≢ tag

-- the exhibit is a cipher with its right tag that isn't that of the line's last seal
pub record IsForgedShown (setup : Setup) (a : ℕ) (new : Parts) : Type 0 where
  pub ctr : Ctr
  pub cipher : Line
  pub tag : List ℕ
  pub unsealed : IsUnsealedLine setup a ctr cipher tag new
  pub exhibit : new.ledger.exhibit ≡ Some (Forged a ctr cipher tag)
  pub right_tag : setup.formulas.tag_of a ctr cipher ≡ tag
  pub other_cipher : IfSome (last_seal new.ledger.marks a) (λ seal. cipher ≢ seal.cipher)
