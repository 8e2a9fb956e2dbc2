-- What was written of an answer is read back.
use Rattle.std.proofs.Common.{◌≡◌, ◌∙◌, ◌-◌, ◌^◌, ◌<◌, ◌≤◌, ℕ, true, false, List, [], ◌∷◌, ◌++◌, length, refl, sym, ap, arith, rules, length-append}
use Rattle.std.specs.Prelude.{Ok, Some, None, codes, decimal, IsTrue}
use Rattle.std.specs.Str.{bytes_eq}
use Rattle.std.proofs.lemmas.Slice.Eq.{bytes_eq-Decides}
use Rattle.hex.specs.Hex.{lower_digits}
use Rattle.hex.proofs.HexLemmas.{length-encode_with}
use Rattle.pmem_base.specs.declared.lines.Line.{Line}
use Rattle.pmem_base.specs.declared.commands.Command.{Command}
use Rattle.pmem_base.specs.declared.commands.Command.TheVariants as Do
use Rattle.pmem_base.specs.declared.answers.Answer.{Answer}
use Rattle.pmem_base.specs.declared.answers.Answer.TheVariants as Say
use Rattle.pmem_base.specs.declared.answers.Place.{Place}
use Rattle.pmem_base.specs.declared.answers.Exhibit.{Exhibit}
use Rattle.pmem_base.specs.declared.answers.Exhibit.TheVariants.{Clash, Forged, Twin}
use Rattle.pmem_base.specs.Ranges.{IsAnswer, IsU8, IsU32, IsU64, IsPlace, IsExhibitValue}
use Rattle.collision_witness.specs.Words.{Word, words_of, is_numeral, ◌>>=◌}
use Rattle.collision_witness.specs.Reading.{short_number_of}
use Rattle.collision_witness.specs.Texts.{sentence, hex_text, line_text, counter_text, exhibit_text}
use Rattle.collision_witness.proofs.NumberLemmas.{digits_of_word}
use Rattle.collision_witness.proofs.Sentences.{IsSolid, AreSolid, words_of-sentence, number_read, decimal-solid, decimal-numeral, hex_read, line-solid, tag-solid, line_hex, literal-solid}
use Rattle.collision_witness.proofs.ReadBack.{counter-solid, shown-read_back}
use Rattle.plain_model.specs.Answers.{is_answer_to}
use Rattle.plain_model.specs.Texts.{IsAnswerText, answer_text, place_words}
use Rattle.trace_text.specs.Loose.{ok_of, byte_of, answer_of_words, loose_answer_of, shown_of}
use Rattle.trace_text.proofs.CommandLemmas.{word_read}

-- ---- words

-- the words of a sentence are read
loose_read : (command : Command) (word : Word) (words : List Word) → IsSolid word → AreSolid words
    → loose_answer_of command (sentence (word ∷ words)) ≡ answer_of_words command (sentence (word ∷ words)) (word ∷ words)
loose_read command word words solid all = ap (answer_of_words command (sentence (word ∷ words))) (words_of-sentence word words solid all)

byte_read : (n : ℕ) → IsU8 n → byte_of (decimal n) ≡ Ok n
byte_read n small = number_read 255 n (omega (arith, small)) (omega (arith, small))

short_read : (n : ℕ) → IsU32 n → short_number_of (decimal n) ≡ Ok n
short_read n small = number_read (2 ^ 32 - 1) n (omega (arith, small)) (omega (arith, small))

byte-solid : (n : ℕ) → IsU8 n → IsSolid (decimal n)
byte-solid n small = decimal-solid n (omega (arith, small))

short-solid : (n : ℕ) → IsU32 n → IsSolid (decimal n)
short-solid n small = decimal-solid n (omega (arith, small))

-- a number is no word of other letters
not_word : (n : ℕ) (word : Word) → n < 2 ^ 64 → is_numeral word ≡ false → bytes_eq (decimal n) word ≡ false
not_word n word small other = elim (bytes_eq (decimal n) word) as (λ v. bytes_eq (decimal n) word ≡ v → v ≡ false) [
  | true ↦ λ yes.
      let same : decimal n ≡ word = (bytes_eq-Decides (decimal n) word).0 yes in
      sym (decimal-numeral n small) ∙ ap is_numeral same ∙ other
  | false ↦ λ no. refl
] refl

-- ---- `ok`, by its command

ok_read : (command : Command) → IsTrue (is_answer_to command Say.Ok) → ok_of command [] ≡ Ok Say.Ok
ok_read (Do.Drain port) listed = absurd (search rules)
ok_read (Do.Fence port) listed = absurd (search rules)
ok_read Do.Turn listed = absurd (search rules)
ok_read Do.Flush listed = absurd (search rules)
ok_read (Do.Loss n) listed = absurd (search rules)
ok_read command listed = refl

drained_read : (command : Command) (steps : ℕ) → IsTrue (is_answer_to command (Say.Drained steps)) → IsU64 steps → ok_of command (decimal steps ∷ []) ≡ Ok (Say.Drained steps)
drained_read (Do.Drain port) steps listed fits = rw (word_read steps fits) refl
drained_read command steps listed fits = absurd (search rules)

loss_read : (command : Command) (steps : ℕ) → IsTrue (is_answer_to command (Say.LossSet steps)) → IsU64 steps → ok_of command (decimal steps ∷ []) ≡ Ok (Say.LossSet steps)
loss_read (Do.Loss n) steps listed fits = rw (word_read steps fits) refl
loss_read command steps listed fits = absurd (search rules)

fenced_read : (command : Command) (drained steps : ℕ) → IsTrue (is_answer_to command (Say.Fenced drained steps)) → IsU8 drained → IsU64 steps → ok_of command (decimal drained ∷ decimal steps ∷ []) ≡ Ok (Say.Fenced drained steps)
fenced_read (Do.Fence port) drained steps listed small fits = rw (byte_read drained small, word_read steps fits) refl
fenced_read command drained steps listed small fits = absurd (search rules)

turned_read : (command : Command) (left steps : ℕ) → IsTrue (is_answer_to command (Say.Turned left steps)) → IsU8 left → IsU64 steps → ok_of command (decimal left ∷ decimal steps ∷ []) ≡ Ok (Say.Turned left steps)
turned_read Do.Turn left steps listed small fits = rw (byte_read left small, word_read steps fits) refl
turned_read command left steps listed small fits = absurd (search rules)

flushed_read : (command : Command) (x steps : ℕ) → IsTrue (is_answer_to command (Say.Flushed x steps)) → IsU32 x → IsU64 steps → ok_of command (decimal x ∷ decimal steps ∷ []) ≡ Ok (Say.Flushed x steps)
flushed_read Do.Flush x steps listed small fits = rw (short_read x small, word_read steps fits) refl
flushed_read command x steps listed small fits = absurd (search rules)

-- ---- exhibits

-- the first word of an exhibit's text
abbrev exhibit_name : Exhibit → Word
exhibit_name (Clash x first second) = codes "clash"
exhibit_name (Forged at ctr cipher tag) = codes "forged"
exhibit_name (Twin at major low high cipher tag) = codes "twin"

-- it is no other answer
named_shown : (command : Command) (line : List ℕ) (shown : Exhibit) (words : List Word) → answer_of_words command line (exhibit_name shown ∷ words) ≡ shown_of line
unfolding answer_of_words
named_shown command line (Clash x first second) words = refl
named_shown command line (Forged at ctr cipher tag) words = refl
named_shown command line (Twin at major low high cipher tag) words = refl

exhibit_words : (shown : Exhibit) → IsExhibitValue shown → (words : List Word) × (words_of (exhibit_text shown) ≡ exhibit_name shown ∷ words)
unfolding exhibit_text
exhibit_words (Clash x first second) range = (
  decimal x ∷ line_text first ∷ line_text second ∷ [],
  words_of-sentence (codes "clash") (decimal x ∷ line_text first ∷ line_text second ∷ []) (literal-solid (codes "clash") refl refl)
      (short-solid x range.0, (line-solid first range.1, (line-solid second range.2, tt))),
)
exhibit_words (Forged at ctr cipher tag) range = (
  decimal at ∷ counter_text ctr ∷ line_text cipher ∷ hex_text tag ∷ [],
  words_of-sentence (codes "forged") (decimal at ∷ counter_text ctr ∷ line_text cipher ∷ hex_text tag ∷ []) (literal-solid (codes "forged") refl refl)
      (short-solid at range.0, (counter-solid ctr range.1, (line-solid cipher range.2, (tag-solid tag range.3, tt)))),
)
exhibit_words (Twin at major low high cipher tag) range = (
  decimal at ∷ decimal major ∷ decimal low ∷ decimal high ∷ line_text cipher ∷ hex_text tag ∷ [],
  words_of-sentence (codes "twin") (decimal at ∷ decimal major ∷ decimal low ∷ decimal high ∷ line_text cipher ∷ hex_text tag ∷ []) (literal-solid (codes "twin") refl refl)
      (short-solid at range.0, (decimal-solid major range.1, (decimal-solid low (omega (arith, range.2)), (decimal-solid high (omega (arith, range.3)), (line-solid cipher range.4, (tag-solid tag range.5, tt)))))),
)

line-long : (line : Line) → length line.0 ≡ 64 → length (line_text line) ≡ 128
line-long line long = omega (arith, length-encode_with lower_digits line.0, long)

tag-long : (tag : List ℕ) → length tag ≡ 16 → length (hex_text tag) ≡ 32
tag-long tag long = omega (arith, length-encode_with lower_digits tag, long)

exhibit-short : (shown : Exhibit) → IsExhibitValue shown → length (exhibit_text shown) ≤ 1024
unfolding exhibit_text
exhibit-short (Clash x first second) range =
    simp length-append (omega (arith, digits_of_word x (omega (arith, range.0)), line-long first range.1.long, line-long second range.2.long))
exhibit-short (Forged at ctr cipher tag) range =
    simp length-append (omega (arith, digits_of_word at (omega (arith, range.0)), digits_of_word ctr.major range.1.major, digits_of_word ctr.minor (omega (arith, range.1.minor)), line-long cipher range.2.long, tag-long tag range.3.long))
exhibit-short (Twin at major low high cipher tag) range =
    simp length-append (omega (arith, digits_of_word at (omega (arith, range.0)), digits_of_word major range.1, digits_of_word low (omega (arith, range.2)), digits_of_word high (omega (arith, range.3)), line-long cipher range.4.long, tag-long tag range.5.long))

shown_read : (command : Command) (shown : Exhibit) → IsExhibitValue shown → loose_answer_of command (exhibit_text shown) ≡ Ok (Say.Shown shown)
shown_read command shown range =
    let (words, own) = exhibit_words shown range in
    ap (answer_of_words command (exhibit_text shown)) own ∙ named_shown command (exhibit_text shown) shown words
    ∙ ap (λ found. found >>= λ it. Ok (Say.Shown it)) (shown-read_back shown range (exhibit-short shown range))

-- ---- answers

place_read : (command : Command) (line : List ℕ) (place : Place) (steps : ℕ) → IsPlace place → IsU64 steps
    → answer_of_words command line (codes "refused" ∷ place_words place ++ decimal steps ∷ []) ≡ Ok (Say.Refused None place steps)
unfolding answer_of_words
place_read command line (Place.Line at) steps small fits = rw (short_read at small, word_read steps fits) refl
place_read command line (Place.Meta x) steps small fits = rw (short_read x small, word_read steps fits) refl

fence_place_read : (command : Command) (line : List ℕ) (drained : ℕ) (place : Place) (steps : ℕ) → IsU8 drained → IsPlace place → IsU64 steps
    → answer_of_words command line (codes "refused" ∷ decimal drained ∷ place_words place ++ decimal steps ∷ []) ≡ Ok (Say.Refused (Some drained) place steps)
unfolding answer_of_words
fence_place_read command line drained (Place.Line at) steps few small fits =
    rw (not_word drained (codes "root") (omega (arith, few)) refl, byte_read drained few, short_read at small, word_read steps fits) refl
fence_place_read command line drained (Place.Meta x) steps few small fits =
    rw (not_word drained (codes "root") (omega (arith, few)) refl, byte_read drained few, short_read x small, word_read steps fits) refl

place-solid : (place : Place) (steps : ℕ) → IsPlace place → IsU64 steps → AreSolid (place_words place ++ decimal steps ∷ [])
place-solid (Place.Line at) steps small fits = (literal-solid (codes "data") refl refl, (short-solid at small, (decimal-solid steps fits, tt)))
place-solid (Place.Meta x) steps small fits = (literal-solid (codes "meta") refl refl, (short-solid x small, (decimal-solid steps fits, tt)))

pub answer-read_back : (command : Command) (answer : Answer) → IsTrue (is_answer_to command answer) → IsAnswer answer → loose_answer_of command (answer_text answer) ≡ Ok answer
unfolding answer_text answer_of_words
answer-read_back command Say.Ok listed range = loose_read command (codes "ok") [] (literal-solid (codes "ok") refl refl) tt ∙ ok_read command listed
answer-read_back command (Say.Drained steps) listed range =
    loose_read command (codes "ok") (decimal steps ∷ []) (literal-solid (codes "ok") refl refl) (decimal-solid steps range, tt) ∙ drained_read command steps listed range
answer-read_back command (Say.Fenced drained steps) listed range =
    loose_read command (codes "ok") (decimal drained ∷ decimal steps ∷ []) (literal-solid (codes "ok") refl refl) (byte-solid drained range.0, (decimal-solid steps range.1, tt))
    ∙ fenced_read command drained steps listed range.0 range.1
answer-read_back command (Say.Turned left steps) listed range =
    loose_read command (codes "ok") (decimal left ∷ decimal steps ∷ []) (literal-solid (codes "ok") refl refl) (byte-solid left range.0, (decimal-solid steps range.1, tt))
    ∙ turned_read command left steps listed range.0 range.1
answer-read_back command (Say.Flushed x steps) listed range =
    loose_read command (codes "ok") (decimal x ∷ decimal steps ∷ []) (literal-solid (codes "ok") refl refl) (short-solid x range.0, (decimal-solid steps range.1, tt))
    ∙ flushed_read command x steps listed range.0 range.1
answer-read_back command (Say.Got line steps) listed range =
    loose_read command (codes "line") (line_text line ∷ decimal steps ∷ []) (literal-solid (codes "line") refl refl) (line-solid line range.0, (decimal-solid steps range.1, tt))
    ∙ rw (line_hex line range.0, word_read steps range.1) refl
answer-read_back command (Say.CutKept None steps) listed range =
    loose_read command (codes "cut") (codes "kept" ∷ decimal steps ∷ []) (literal-solid (codes "cut") refl refl) (literal-solid (codes "kept") refl refl, (decimal-solid steps range.1, tt))
    ∙ rw (word_read steps range.1) refl
answer-read_back command (Say.CutKept (Some drained) steps) listed range =
    loose_read command (codes "cut") (codes "kept" ∷ decimal drained ∷ decimal steps ∷ []) (literal-solid (codes "cut") refl refl) (literal-solid (codes "kept") refl refl, (byte-solid drained range.0, (decimal-solid steps range.1, tt)))
    ∙ rw (byte_read drained range.0, word_read steps range.1) refl
answer-read_back command (Say.CutLost None steps) listed range =
    loose_read command (codes "cut") (codes "lost" ∷ decimal steps ∷ []) (literal-solid (codes "cut") refl refl) (literal-solid (codes "lost") refl refl, (decimal-solid steps range.1, tt))
    ∙ rw (word_read steps range.1) refl
answer-read_back command (Say.CutLost (Some drained) steps) listed range =
    loose_read command (codes "cut") (codes "lost" ∷ decimal drained ∷ decimal steps ∷ []) (literal-solid (codes "cut") refl refl) (literal-solid (codes "lost") refl refl, (byte-solid drained range.0, (decimal-solid steps range.1, tt)))
    ∙ rw (byte_read drained range.0, word_read steps range.1) refl
answer-read_back command (Say.Cut steps) listed range =
    loose_read command (codes "cut") (decimal steps ∷ []) (literal-solid (codes "cut") refl refl) (decimal-solid steps range, tt)
    ∙ rw (not_word steps (codes "kept") range refl, not_word steps (codes "lost") range refl, word_read steps range) refl
answer-read_back command (Say.Refused None place steps) listed range =
    loose_read command (codes "refused") (place_words place ++ decimal steps ∷ []) (literal-solid (codes "refused") refl refl) (place-solid place steps range.1 range.2)
    ∙ place_read command (answer_text (Say.Refused None place steps)) place steps range.1 range.2
answer-read_back command (Say.Refused (Some drained) place steps) listed range =
    loose_read command (codes "refused") (decimal drained ∷ place_words place ++ decimal steps ∷ []) (literal-solid (codes "refused") refl refl) (byte-solid drained range.0, place-solid place steps range.1 range.2)
    ∙ fence_place_read command (answer_text (Say.Refused (Some drained) place steps)) drained place steps range.0 range.1 range.2
answer-read_back command (Say.Spent None page steps) listed range =
    loose_read command (codes "spent") (decimal page ∷ decimal steps ∷ []) (literal-solid (codes "spent") refl refl) (short-solid page range.1, (decimal-solid steps range.2, tt))
    ∙ rw (short_read page range.1, word_read steps range.2) refl
answer-read_back command (Say.Spent (Some drained) page steps) listed range =
    loose_read command (codes "spent") (decimal drained ∷ decimal page ∷ decimal steps ∷ []) (literal-solid (codes "spent") refl refl) (byte-solid drained range.0, (short-solid page range.1, (decimal-solid steps range.2, tt)))
    ∙ rw (byte_read drained range.0, short_read page range.1, word_read steps range.2) refl
answer-read_back command (Say.Recovered trials digests steps) listed range =
    loose_read command (codes "on") (decimal trials ∷ decimal digests ∷ decimal steps ∷ []) (literal-solid (codes "on") refl refl) (decimal-solid trials range.0, (decimal-solid digests range.1, (decimal-solid steps range.2, tt)))
    ∙ rw (word_read trials range.0, word_read digests range.1, word_read steps range.2) refl
answer-read_back command (Say.NoCounter at steps) listed range =
    loose_read command (codes "refused") (codes "counter" ∷ decimal at ∷ decimal steps ∷ []) (literal-solid (codes "refused") refl refl) (literal-solid (codes "counter") refl refl, (short-solid at range.0, (decimal-solid steps range.1, tt)))
    ∙ rw (short_read at range.0, word_read steps range.1) refl
answer-read_back command (Say.WrongRoot kept found steps) listed range =
    loose_read command (codes "refused") (codes "root" ∷ hex_text kept ∷ hex_text found ∷ decimal steps ∷ []) (literal-solid (codes "refused") refl refl)
    (literal-solid (codes "root") refl refl, (tag-solid kept range.0, (tag-solid found range.1, (decimal-solid steps range.2, tt))))
    ∙ rw (hex_read 16 kept range.0.long range.0.bytes, hex_read 16 found range.1.long range.1.bytes, word_read steps range.2) refl
answer-read_back command (Say.Raw line) listed range =
    loose_read command (codes "raw") (line_text line ∷ []) (literal-solid (codes "raw") refl refl) (line-solid line range, tt) ∙ rw (line_hex line range) refl
answer-read_back command (Say.Counts counts) listed range =
    loose_read command (codes "stat") (decimal counts.reads ∷ decimal counts.writes ∷ decimal counts.latches ∷ decimal counts.tags ∷ decimal counts.digests ∷ []) (literal-solid (codes "stat") refl refl)
    (decimal-solid counts.reads range.reads, (decimal-solid counts.writes range.writes, (decimal-solid counts.latches range.latches, (decimal-solid counts.tags range.tags, (decimal-solid counts.digests range.digests, tt)))))
    ∙ rw (word_read counts.reads range.reads, word_read counts.writes range.writes, word_read counts.latches range.latches, word_read counts.tags range.tags, word_read counts.digests range.digests) refl
answer-read_back command (Say.LossSet steps) listed range =
    loose_read command (codes "ok") (decimal steps ∷ []) (literal-solid (codes "ok") refl refl) (decimal-solid steps range, tt) ∙ loss_read command steps listed range
answer-read_back command Say.Full listed range = loose_read command (codes "full") [] (literal-solid (codes "full") refl refl) tt
answer-read_back command Say.Empty listed range = loose_read command (codes "empty") [] (literal-solid (codes "empty") refl refl) tt
answer-read_back command Say.Idle listed range = loose_read command (codes "idle") [] (literal-solid (codes "idle") refl refl) tt
answer-read_back command Say.Clean listed range = loose_read command (codes "clean") [] (literal-solid (codes "clean") refl refl) tt
answer-read_back command Say.Off listed range = loose_read command (codes "off") [] (literal-solid (codes "off") refl refl) tt
answer-read_back command Say.Already listed range = loose_read command (codes "already") [] (literal-solid (codes "already") refl refl) tt
answer-read_back command Say.Range listed range = loose_read command (codes "range") [] (literal-solid (codes "range") refl refl) tt
answer-read_back command Say.NoSnap listed range = loose_read command (codes "none") [] (literal-solid (codes "none") refl refl) tt
answer-read_back command (Say.Shown exhibit) listed range = shown_read command exhibit range

-- a text of an answer gives it
pub text_read : (command : Command) (line : List ℕ) (answer : Answer) → IsAnswerText command line answer → loose_answer_of command line ≡ Ok answer
text_read command line answer text = ap (loose_answer_of command) (sym text.its_text) ∙ answer-read_back command answer text.listed text.in_range
