-- What was written of a command is read back.
use Rattle.std.proofs.Common.{◌≡◌, ◌∙◌, ◌-◌, ◌*◌, ◌/◌, ◌^◌, ◌<◌, ◌≤◌, ℕ, List, [], ◌∷◌, ◌++◌, length, take, replicate, refl, ap, arith, le-leb, le-ltb, take-append-drop}
use Rattle.std.proofs.lemmas.List.{length-take-le}
use Rattle.std.proofs.lemmas.List.Elements.{All-take}
use Rattle.std.specs.Prelude.{Ok, Some, codes, decimal}
use Rattle.hex.specs.Hex.{lower_digits}
use Rattle.hex.proofs.HexLemmas.{length-encode_with}
use Rattle.pmem_base.specs.declared.lines.Line.{Line}
use Rattle.pmem_base.specs.declared.commands.Command.{Command}
use Rattle.pmem_base.specs.declared.commands.Command.TheVariants as Do
use Rattle.pmem_base.specs.Lines.{AreBytes, line_of}
use Rattle.pmem_base.specs.Ranges.{IsCommand, IsPort, IsU64, IsPartLine}
use Rattle.collision_witness.specs.Words.{Word, number_of, words_of, without_return, some_hex_bytes}
use Rattle.collision_witness.specs.Texts.{sentence, hex_text, line_text}
use Rattle.collision_witness.proofs.Sentences.{IsSolid, AreSolid, words_of-sentence, sentence-no_return, sentence-some, without_return-none, number_read, decimal-solid, hex-solid, hex_read, line-solid, line_hex, literal-solid}
use Rattle.plain_model.specs.Words.{port_of, last_port}
use Rattle.plain_model.specs.Grammar.{verbs, command_of, command_among, reading_of_words, reading_among, reading_of}
use Rattle.plain_model.specs.Texts.{command_text}

-- the words of a sentence are read
line_read : (word : Word) (words : List Word) → IsSolid word → AreSolid words → length (sentence (word ∷ words)) ≤ 1024
    → reading_of (sentence (word ∷ words)) ≡ reading_of_words last_port verbs (word ∷ words)
unfolding reading_among
line_read word words solid all short =
    let plain : without_return (sentence (word ∷ words)) ≡ sentence (word ∷ words) =
    without_return-none _ (sentence-some word words solid) (sentence-no_return word words solid all) in
    let own_words : words_of (sentence (word ∷ words)) ≡ word ∷ words = words_of-sentence word words solid all in
    rw (le-ltb 1024 (length (sentence (word ∷ words))) short, plain, own_words) refl

-- ---- values

pub word_read : (n : ℕ) → IsU64 n → number_of (decimal n) ≡ Ok n
word_read n small = number_read (2 ^ 64 - 1) n (omega (arith, small)) small

port_read : (port : ℕ) → IsPort port → port_of last_port (decimal port) ≡ Ok port
unfolding port_of
port_read port small = rw (word_read port (omega (arith, small)), le-leb port 7 (omega (arith, small))) refl

port-solid : (port : ℕ) → IsPort port → IsSolid (decimal port)
port-solid port small = decimal-solid port (omega (arith, small))

-- the bytes of a part
part_bytes : (count : ℕ) (line : Line) → IsPartLine count line → (length (take count line.0) ≡ count) × AreBytes (take count line.0)
part_bytes count line part = (
  length-take-le count line.0 (omega (arith, part.line_range.long, part.inside)),
  All-take (λ b. b < 256) count line.0 part.line_range.bytes,
)

part-solid : (count : ℕ) (line : Line) → IsPartLine count line → IsSolid (hex_text (take count line.0))
part-solid count line part =
    let bytes = part_bytes count line part in
    hex-solid (take count line.0) (omega (arith, bytes.0, part.some_bytes)) bytes.1

part_padded : (count : ℕ) (line : Line) → IsPartLine count line → line_of (take count line.0 ++ replicate (64 - count) 0) ≡ line
part_padded count line part = rw (← part.zero_after) (ap line_of (take-append-drop count line.0))

part_read : (count : ℕ) (line : Line) → IsPartLine count line → some_hex_bytes (hex_text (take count line.0)) ≡ Ok (take count line.0)
unfolding some_hex_bytes
part_read count line part =
    let bytes = part_bytes count line part in
    let twice = length-encode_with lower_digits (take count line.0) in
    let long : length (hex_text (take count line.0)) ≡ 2 * count = omega (arith, twice, bytes.0) in
    let half : 2 * count / 2 ≡ count = omega arith in
    rw (long, le-leb 2 (2 * count) (omega (arith, part.some_bytes)), le-leb (2 * count) 128 (omega (arith, part.inside)), half)
    (hex_read count (take count line.0) bytes.0 bytes.1)

-- ---- commands

-- a command of one word
plain_read : (word : Word) (command : Command) → IsSolid word → length word ≤ 1024 → reading_of_words last_port verbs (word ∷ []) ≡ Ok (Some command)
    → reading_of (sentence (word ∷ [])) ≡ Ok (Some command)
plain_read word command solid short read = line_read word [] solid tt short ∙ read

pub command-read_back : (command : Command) → IsCommand command → length (command_text command) ≤ 1024 → reading_of (command_text command) ≡ Ok (Some command)
unfolding command_text reading_of_words command_among command_of
command-read_back (Do.Post port at line) range short =
    line_read (codes "post") (decimal port ∷ decimal at ∷ line_text line ∷ []) (literal-solid (codes "post") refl refl)
    (port-solid port range.0, (decimal-solid at range.1, (line-solid line range.2, tt))) short
    ∙ rw (port_read port range.0, word_read at range.1, line_hex line range.2) refl
command-read_back (Do.Part port at from count line) range short =
    line_read (codes "part") (decimal port ∷ decimal at ∷ decimal from ∷ hex_text (take count line.0) ∷ []) (literal-solid (codes "part") refl refl)
    (port-solid port range.0, (decimal-solid at range.1, (decimal-solid from range.2, (part-solid count line range.3, tt)))) short
    ∙ rw (port_read port range.0, word_read at range.1, word_read from range.2, part_read count line range.3, (part_bytes count line range.3).0, part_padded count line range.3) refl
command-read_back (Do.Drain port) range short =
    line_read (codes "drain") (decimal port ∷ []) (literal-solid (codes "drain") refl refl) (port-solid port range, tt) short ∙ rw (port_read port range) refl
command-read_back (Do.Fence port) range short =
    line_read (codes "fence") (decimal port ∷ []) (literal-solid (codes "fence") refl refl) (port-solid port range, tt) short ∙ rw (port_read port range) refl
command-read_back (Do.Read port at) range short =
    line_read (codes "read") (decimal port ∷ decimal at ∷ []) (literal-solid (codes "read") refl refl) (port-solid port range.0, (decimal-solid at range.1, tt)) short
    ∙ rw (port_read port range.0, word_read at range.1) refl
command-read_back Do.Turn range short = plain_read (codes "turn") Do.Turn (literal-solid (codes "turn") refl refl) short refl
command-read_back Do.Flush range short = plain_read (codes "flush") Do.Flush (literal-solid (codes "flush") refl refl) short refl
command-read_back (Do.Cut n) range short =
    line_read (codes "cut") (decimal n ∷ []) (literal-solid (codes "cut") refl refl) (decimal-solid n range, tt) short ∙ rw (word_read n range) refl
command-read_back Do.Off range short = plain_read (codes "off") Do.Off (literal-solid (codes "off") refl refl) short refl
command-read_back Do.On range short = plain_read (codes "on") Do.On (literal-solid (codes "on") refl refl) short refl
command-read_back (Do.Poke at line) range short =
    line_read (codes "poke") (decimal at ∷ line_text line ∷ []) (literal-solid (codes "poke") refl refl) (decimal-solid at range.0, (line-solid line range.1, tt)) short
    ∙ rw (word_read at range.0, line_hex line range.1) refl
command-read_back (Do.Flip at bit) range short =
    line_read (codes "flip") (decimal at ∷ decimal bit ∷ []) (literal-solid (codes "flip") refl refl) (decimal-solid at range.0, (decimal-solid bit range.1, tt)) short
    ∙ rw (word_read at range.0, word_read bit range.1) refl
command-read_back (Do.Move from to) range short =
    line_read (codes "move") (decimal from ∷ decimal to ∷ []) (literal-solid (codes "move") refl refl) (decimal-solid from range.0, (decimal-solid to range.1, tt)) short
    ∙ rw (word_read from range.0, word_read to range.1) refl
command-read_back Do.Snap range short = plain_read (codes "snap") Do.Snap (literal-solid (codes "snap") refl refl) short refl
command-read_back (Do.Back at) range short =
    line_read (codes "back") (decimal at ∷ []) (literal-solid (codes "back") refl refl) (decimal-solid at range, tt) short ∙ rw (word_read at range) refl
command-read_back (Do.Peek at) range short =
    line_read (codes "peek") (decimal at ∷ []) (literal-solid (codes "peek") refl refl) (decimal-solid at range, tt) short ∙ rw (word_read at range) refl
command-read_back Do.Stat range short = plain_read (codes "stat") Do.Stat (literal-solid (codes "stat") refl refl) short refl
command-read_back (Do.Loss n) range short =
    line_read (codes "loss") (decimal n ∷ []) (literal-solid (codes "loss") refl refl) (decimal-solid n range, tt) short ∙ rw (word_read n range) refl
