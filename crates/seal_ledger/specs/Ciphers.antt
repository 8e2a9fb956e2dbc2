-- The cipher of each data line's last seal.
use Rattle.std.specs.Prelude.{◌≡◌, List, Option, Some, None, EachIndex}
use Rattle.pmem_base.specs.declared.lines.Line.{Line}
use Rattle.pmem_base.specs.declared.answers.Mark.{Mark}
use Rattle.pmem_base.specs.Lines.{line_at, zero_line}
use Rattle.pmem_base.specs.Marks.{SealOf, last_seal}

-- the cipher of a seal, or the zero line if there is none
abbrev pub cipher_or_zero : Option SealOf → Line
cipher_or_zero None = zero_line
cipher_or_zero (Some seal) = seal.cipher

-- for each line the cipher of its last seal, or the zero line if it has none
abbrev pub AreLastCiphers : List Mark → List Line → Type 0
AreLastCiphers marks ciphers = EachIndex ciphers (λ a. line_at ciphers a ≡ cipher_or_zero (last_seal marks a))
