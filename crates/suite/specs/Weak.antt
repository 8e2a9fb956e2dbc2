-- The weak suite and its blur form, made so that each kind of exhibit can be reached.
-- The keys are the 16 bytes of the key, then those of the tag key, then 1 for blur, else 0.
use Rattle.std.specs.Prelude.{ℕ, ◌+◌, ◌-◌, ◌/◌, ◌%◌, ◌==◌, Bool, List, [], ◌∷◌, ◌++◌, map, fold, length, replicate, slice_index, bit_xor, if◌then◌else◌}
use Rattle.std.specs.List.{range_with_len}
use Rattle.pmem_base.specs.declared.lines.Line.{Line}
use Rattle.pmem_base.specs.declared.lines.Ctr.{Ctr}
use Rattle.pmem_base.specs.Lines.{line_of}
use Rattle.suite.specs.Formulas.{Formulas, tag_text, digest_text}

abbrev pub first_key_byte : List ℕ → ℕ
first_key_byte keys = slice_index keys 0

abbrev pub first_tag_key_byte : List ℕ → ℕ
first_tag_key_byte keys = slice_index keys 16

abbrev pub blur_byte : List ℕ → ℕ
blur_byte keys = slice_index keys (length keys - 1)

-- the last byte of the keys
abbrev pub blur_flag : Bool → ℕ
blur_flag blur = if blur then 1 else 0

-- the exclusive or of all bytes
abbrev pub folded : List ℕ → ℕ
folded bytes = fold bit_xor 0 bytes

-- one byte as 16, the others 0
abbrev pub last_byte_tag : ℕ → List ℕ
last_byte_tag b = replicate 15 0 ++ b ∷ []

-- byte j of a pad
abbrev pub weak_pad_byte : List ℕ → ℕ → Ctr → ℕ → ℕ
weak_pad_byte keys at ctr j =
    bit_xor (first_key_byte keys) ((at + ctr.major + ctr.minor + j) % 256)

abbrev pub weak_pad : List ℕ → ℕ → Ctr → Line
weak_pad keys at ctr = line_of (map (weak_pad_byte keys at ctr) (range_with_len 0 64))

-- under blur the tag takes half of the minor
abbrev pub tagged_ctr : List ℕ → Ctr → Ctr
tagged_ctr keys ctr = if blur_byte keys == 1 then record ctr { minor = ctr.minor / 2 } else ctr

abbrev pub weak_tag : List ℕ → ℕ → Ctr → Line → List ℕ
weak_tag keys at ctr cipher =
    last_byte_tag (bit_xor (first_tag_key_byte keys) (folded (tag_text at (tagged_ctr keys ctr) cipher)))

abbrev pub weak_digest : ℕ → Line → List ℕ
weak_digest x line = last_byte_tag (folded (digest_text x line))

abbrev pub weak_formulas : List ℕ → Formulas
weak_formulas keys =
    record { pad_of = weak_pad keys; tag_of = weak_tag keys; digest_of = weak_digest }
