-- Sealed lines and tag lines.
use Rattle.std.specs.Prelude.{ℕ, ◌*◌, ◌%◌, List, Option, Some, None, if◌then◌else◌}
use Rattle.pmem_base.specs.declared.lines.Line.{Line}
use Rattle.pmem_base.specs.declared.lines.Ctr.{Ctr}
use Rattle.pmem_base.specs.Lines.{put_bytes, same_bytes, xor_lines}
use Rattle.suite.specs.Formulas.{Formulas, cipher_of}

-- a plain line's cipher under a counter, and the tag of that cipher
abbrev pub sealed : Formulas → ℕ → Ctr → Line → Line × List ℕ
sealed f at ctr plain = (cipher_of f at ctr plain, f.tag_of at ctr (cipher_of f at ctr plain))

-- the plain line of a cipher with its right tag, and nothing under another tag
abbrev pub unsealed : Formulas → ℕ → Ctr → Line → List ℕ → Option Line
unsealed f at ctr cipher tag =
    if same_bytes (f.tag_of at ctr cipher) tag then Some (xor_lines cipher (f.pad_of at ctr)) else None

-- a tag line with another tag in slot a mod 4
abbrev pub with_tag : Line → ℕ → List ℕ → Line
with_tag line a tag = put_bytes line (16 * (a % 4)) tag
