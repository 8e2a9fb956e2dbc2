-- The ciphers of the last seals, as marks are appended.
use Rattle.std.proofs.Common.{ℕ, ◌≡◌, ◌<◌, List, [], ◌∷◌, ◌++◌, length, replicate, get_or, Option, Some, None, inl, inr, sym, ap, subst, ◌∙◌, arith}
use Rattle.std.specs.Prelude.{IfSome, slice_set}
use Rattle.std.proofs.lemmas.Bool.{cases_eq}
use Rattle.std.proofs.lemmas.List.{length-set, get_or-set_same, get_or-set_other, get_or-replicate, get_or_default, length-replicate}
use Rattle.pmem_base.specs.declared.lines.Line.{Line}
use Rattle.pmem_base.specs.declared.lines.Ctr.{Ctr}
use Rattle.pmem_base.specs.declared.answers.Mark.{Mark}
use Rattle.pmem_base.specs.declared.answers.Mark.TheVariants.{Begin, Seal}
use Rattle.pmem_base.specs.Lines.{line_at, zero_line}
use Rattle.pmem_base.specs.Marks.{SealOf, last_seal}
use Rattle.pmem_base.proofs.LineLemmas.{All-zero_lines}
use Rattle.seal_ledger.specs.Ciphers.{cipher_or_zero, AreLastCiphers}
use Rattle.seal_ledger.proofs.MarkLemmas.{last_seal-begun, last_seal-sealed, last_seal-other}

-- a begin leaves every cipher
pub AreLastCiphers-begun : (marks : List Mark) (ciphers : List Line) (page : ℕ)
    → AreLastCiphers marks ciphers → AreLastCiphers (marks ++ Begin page ∷ []) ciphers
AreLastCiphers-begun marks ciphers page h = λ a inside. h a inside ∙ sym (ap cipher_or_zero (last_seal-begun marks page a))

-- a seal's cipher is its line's
pub AreLastCiphers-sealed : (marks : List Mark) (ciphers : List Line) (at : ℕ) (ctr : Ctr) (cipher : Line) (tag : List ℕ)
    → AreLastCiphers marks ciphers → AreLastCiphers (marks ++ Seal at ctr cipher tag ∷ []) (slice_set ciphers at cipher)
AreLastCiphers-sealed marks ciphers at ctr cipher tag h =
    λ a inside.
    let within : a < length ciphers = omega (arith, inside, length-set ciphers at cipher) in
    elim (cases_eq a at) [
      | inl same ↦
          let here : at < length ciphers = omega (arith, within, same) in
          ap (λ z. line_at (slice_set ciphers at cipher) z) same
          ∙ get_or-set_same ciphers at cipher zero_line here
          ∙ sym (ap (λ z. cipher_or_zero (last_seal (marks ++ Seal at ctr cipher tag ∷ []) z)) same ∙ ap cipher_or_zero (last_seal-sealed marks at ctr cipher tag))
      | inr apart ↦
          get_or-set_other ciphers at a cipher zero_line apart
          ∙ h a within
          ∙ sym (ap cipher_or_zero (last_seal-other marks at ctr cipher tag a apart))
    ]

-- with no marks each is the zero line
pub AreLastCiphers-none : (marks : List Mark) (ciphers : List Line) (n : ℕ) → marks ≡ [] → ciphers ≡ replicate n zero_line
    → AreLastCiphers marks ciphers
AreLastCiphers-none marks ciphers n none zeros =
    subst (λ m. AreLastCiphers m ciphers) (sym none) (subst (AreLastCiphers []) (sym zeros) at_none)
  where
    at_none : AreLastCiphers [] (replicate n zero_line)
    at_none = λ a inside. get_or-replicate n a zero_line zero_line (omega (arith, inside, length-replicate {A = Line} n zero_line))

-- the line that the table has at a is the cipher of the line's last seal
pub kept_cipher : (marks : List Mark) (ciphers : List Line) (a : ℕ) (line : Line)
    → AreLastCiphers marks ciphers → a < length ciphers → line ≡ get_or ciphers a line
    → IfSome (last_seal marks a) (λ seal. line ≡ seal.cipher)
kept_cipher marks ciphers a line h inside is = go (last_seal marks a) (is ∙ get_or_default ciphers a line zero_line inside ∙ h a inside)
  where
    go : (seal : Option SealOf) → line ≡ cipher_or_zero seal → IfSome seal (λ (s : SealOf). line ≡ s.cipher)
    go None same = tt
    go (Some seal) same = same

-- what a new ledger needs, and one after a begin or a seal
pub ruleset new_ledgers = (AreLastCiphers-none, All-zero_lines)

pub ruleset begun_marks = (AreLastCiphers-begun, last_seal-begun)

pub ruleset sealed_marks = (AreLastCiphers-sealed, last_seal-sealed, last_seal-other)
