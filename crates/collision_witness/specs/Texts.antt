-- The texts of numbers, bytes, counters and exhibits.
use Rattle.std.specs.Prelude.{ℕ, List, [], ◌∷◌, ◌++◌, codes, decimal}
use Rattle.std.specs.List.{join_with_byte}
use Rattle.hex.specs.Hex.{encode_lower}
use Rattle.pmem_base.specs.declared.lines.Line.{Line}
use Rattle.pmem_base.specs.declared.lines.Ctr.{Ctr}
use Rattle.pmem_base.specs.declared.answers.Exhibit.{Exhibit}
use Rattle.pmem_base.specs.declared.answers.Exhibit.TheVariants.{Clash, Forged, Twin}
use Rattle.collision_witness.specs.Words.{Word}

-- words with one space between each two
abbrev pub sentence : List Word → List ℕ
sentence words = join_with_byte 32 words

abbrev pub hex_text : List ℕ → Word
hex_text bytes = encode_lower bytes

abbrev pub line_text : Line → Word
line_text line = hex_text line.0

-- `<major>.<minor>`
abbrev pub counter_text : Ctr → Word
counter_text ctr = decimal ctr.major ++ 46 ∷ decimal ctr.minor

unfoldable pub exhibit_text : Exhibit → List ℕ
exhibit_text (Clash x first second) =
    sentence (codes "clash" ∷ decimal x ∷ line_text first ∷ line_text second ∷ [])
exhibit_text (Forged at ctr cipher tag) =
    sentence (codes "forged" ∷ decimal at ∷ counter_text ctr ∷ line_text cipher ∷ hex_text tag ∷ [])
exhibit_text (Twin at major low high cipher tag) =
    sentence
    (codes "twin" ∷ decimal at ∷ decimal major ∷ decimal low ∷ decimal high ∷ line_text cipher
    ∷ hex_text tag ∷ [])
