-- What was written of an exhibit is read back.
use Rattle.std.proofs.Common.{◌≡◌, ◌∙◌, ◌-◌, ◌^◌, ◌<◌, ◌≤◌, ℕ, List, [], ◌∷◌, length, refl, ap, arith, length-append}
use Rattle.std.specs.Prelude.{Ok, codes, decimal}
use Rattle.std.specs.List.{slice_split}
use Rattle.std.proofs.lemmas.Bool.{le-ltb}
use Rattle.std.proofs.lemmas.List.Elements.{All-cons, All-append}
use Rattle.std.proofs.lemmas.List.Splits.{slice_split_at, slice_split_none}
use Rattle.pmem_base.specs.declared.lines.Line.{Line}
use Rattle.pmem_base.specs.declared.lines.Ctr.{Ctr}
use Rattle.pmem_base.specs.declared.answers.Exhibit.{Exhibit}
use Rattle.pmem_base.specs.declared.answers.Exhibit.TheVariants.{Clash, Forged, Twin}
use Rattle.pmem_base.specs.Lines.{IsLine, IsTag, IsCtr}
use Rattle.pmem_base.specs.Ranges.{IsExhibitValue}
use Rattle.collision_witness.specs.Words.{Word, words_of, without_return, number_up_to}
use Rattle.collision_witness.specs.Texts.{sentence, hex_text, line_text, counter_text, exhibit_text}
use Rattle.collision_witness.specs.Reading.{is_dot, counter_of_parts, counter_of_word, exhibit_of_words, exhibit_of_line}
use Rattle.collision_witness.proofs.Sentences.{IsAboveSpace, IsSolid, AreSolid, words_of-sentence, sentence-no_return, sentence-some, without_return-none, decimal-solid, number_read, hex_read, line-solid, tag-solid, line_hex, literal-solid, short-solid, decimal-no_dot}

-- ---- counters

pub counter-solid : (ctr : Ctr) → IsCtr ctr → IsSolid (counter_text ctr)
counter-solid ctr range =
    let major = decimal-solid ctr.major range.major in
    let minor = decimal-solid ctr.minor (omega (arith, range.minor)) in
    record {
      some = rw (length-append (decimal ctr.major) (46 ∷ decimal ctr.minor)) (omega (arith, major.some));
      above =
          All-append IsAboveSpace (decimal ctr.major) (46 ∷ decimal ctr.minor) major.above
          (All-cons IsAboveSpace 46 (decimal ctr.minor) (omega arith) minor.above);
    }

counter_read : (ctr : Ctr) → IsCtr ctr → counter_of_word (counter_text ctr) ≡ Ok ctr
unfolding counter_of_word
counter_read ctr range =
    let small : ctr.minor < 2 ^ 64 = omega (arith, range.minor) in
    let parts : slice_split is_dot (counter_text ctr) ≡ decimal ctr.major ∷ decimal ctr.minor ∷ [] =
    slice_split_at is_dot (decimal ctr.major) 46 (decimal ctr.minor) (decimal-no_dot ctr.major range.major) refl
    ∙ ap (λ others. decimal ctr.major ∷ others) (slice_split_none is_dot (decimal ctr.minor) (decimal-no_dot ctr.minor small)) in
    let first : number_up_to (2 ^ 64 - 1) (decimal ctr.major) ≡ Ok ctr.major = number_read (2 ^ 64 - 1) ctr.major (omega (arith, range.major)) range.major in
    let second : number_up_to 127 (decimal ctr.minor) ≡ Ok ctr.minor = number_read 127 ctr.minor range.minor small in
    ap counter_of_parts parts ∙ rw (first, second) refl

-- ---- exhibits

line_read : (word : Word) (words : List Word) → IsSolid word → AreSolid words → length (sentence (word ∷ words)) ≤ 1024 → exhibit_of_line (sentence (word ∷ words)) ≡ exhibit_of_words (word ∷ words)
unfolding exhibit_of_line
line_read word words solid all short =
    let text = sentence (word ∷ words) in
    let plain : without_return (sentence (word ∷ words)) ≡ sentence (word ∷ words) =
    without_return-none _ (sentence-some word words solid) (sentence-no_return word words solid all) in
    let own_words : words_of (sentence (word ∷ words)) ≡ word ∷ words = words_of-sentence word words solid all in
    rw (le-ltb 1024 (length (sentence (word ∷ words))) short, plain, own_words) refl

clash_read : (x : ℕ) (first second : Line) → x < 2 ^ 32 → IsLine first → IsLine second → exhibit_of_words (codes "clash" ∷ decimal x ∷ line_text first ∷ line_text second ∷ []) ≡ Ok (Clash x first second)
unfolding exhibit_of_words
clash_read x first second small one two =
    let at : number_up_to (2 ^ 32 - 1) (decimal x) ≡ Ok x = number_read (2 ^ 32 - 1) x (omega (arith, small)) (omega (arith, small)) in
    rw (at, line_hex first one, line_hex second two) refl

forged_read : (a : ℕ) (ctr : Ctr) (cipher : Line) (tag : List ℕ) → a < 2 ^ 32 → IsCtr ctr → IsLine cipher → IsTag tag → exhibit_of_words (codes "forged" ∷ decimal a ∷ counter_text ctr ∷ line_text cipher ∷ hex_text tag ∷ []) ≡ Ok (Forged a ctr cipher tag)
unfolding exhibit_of_words
forged_read a ctr cipher tag small range whole long =
    let at : number_up_to (2 ^ 32 - 1) (decimal a) ≡ Ok a = number_read (2 ^ 32 - 1) a (omega (arith, small)) (omega (arith, small)) in
    rw (at, counter_read ctr range, line_hex cipher whole, hex_read 16 tag long.long long.bytes) refl

twin_read : (a major low high : ℕ) (cipher : Line) (tag : List ℕ) → a < 2 ^ 32 → major < 2 ^ 64 → low ≤ 127 → high ≤ 127 → IsLine cipher → IsTag tag → exhibit_of_words (codes "twin" ∷ decimal a ∷ decimal major ∷ decimal low ∷ decimal high ∷ line_text cipher ∷ hex_text tag ∷ []) ≡ Ok (Twin a major low high cipher tag)
unfolding exhibit_of_words
twin_read a major low high cipher tag small fits one two whole long =
    let at : number_up_to (2 ^ 32 - 1) (decimal a) ≡ Ok a = number_read (2 ^ 32 - 1) a (omega (arith, small)) (omega (arith, small)) in
    let its_major : number_up_to (2 ^ 64 - 1) (decimal major) ≡ Ok major = number_read (2 ^ 64 - 1) major (omega (arith, fits)) fits in
    let first : number_up_to 127 (decimal low) ≡ Ok low = number_read 127 low one (omega (arith, one)) in
    let second : number_up_to 127 (decimal high) ≡ Ok high = number_read 127 high two (omega (arith, two)) in
    rw (at, its_major, first, second, line_hex cipher whole, hex_read 16 tag long.long long.bytes) refl

pub shown-read_back : (shown : Exhibit) → IsExhibitValue shown → length (exhibit_text shown) ≤ 1024 → exhibit_of_line (exhibit_text shown) ≡ Ok shown
unfolding exhibit_text
shown-read_back (Clash x first second) range short =
    line_read (codes "clash") (decimal x ∷ line_text first ∷ line_text second ∷ []) (literal-solid (codes "clash") refl refl)
    (short-solid x (2 ^ 32) range.0 (omega arith), (line-solid first range.1, (line-solid second range.2, tt))) short
    ∙ clash_read x first second range.0 range.1 range.2
shown-read_back (Forged at ctr cipher tag) range short =
    line_read (codes "forged") (decimal at ∷ counter_text ctr ∷ line_text cipher ∷ hex_text tag ∷ []) (literal-solid (codes "forged") refl refl)
    (short-solid at (2 ^ 32) range.0 (omega arith), (counter-solid ctr range.1, (line-solid cipher range.2, (tag-solid tag range.3, tt)))) short
    ∙ forged_read at ctr cipher tag range.0 range.1 range.2 range.3
shown-read_back (Twin at major low high cipher tag) range short =
    line_read (codes "twin") (decimal at ∷ decimal major ∷ decimal low ∷ decimal high ∷ line_text cipher ∷ hex_text tag ∷ []) (literal-solid (codes "twin") refl refl)
    (short-solid at (2 ^ 32) range.0 (omega arith), (decimal-solid major range.1, (short-solid low 128 (omega (arith, range.2)) (omega arith), (short-solid high 128 (omega (arith, range.3)) (omega arith), (line-solid cipher range.4, (tag-solid tag range.5, tt)))))) short
    ∙ twin_read at major low high cipher tag range.0 range.1 range.2 range.3 range.4 range.5
