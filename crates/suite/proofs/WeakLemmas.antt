-- The weak suite's formulas give whole lines and 16 bytes; the bytes of a weak pad.
use Rattle.std.proofs.Common.{ℕ, ◌≡◌, ◌<◌, ◌≤◌, ◌+◌, ◌/◌, ◌%◌, ◌==◌, Bool, true, false, List, [], ◌∷◌, ◌++◌, length, fold, replicate, get_or, refl, sym, ap, ◌∙◌, arith, length-append}
use Rattle.std.specs.Prelude.{bit_xor, slice_index, if◌then◌else◌}
use Rattle.std.specs.List.{range_with_len}
use Rattle.std.proofs.lemmas.Nat.{xor_of_8, mod_below}
use Rattle.std.proofs.lemmas.List.{get_or_append_left}
use Rattle.std.proofs.lemmas.List.FromFn.{length-map-range_with_len, fill_by_all}
use Rattle.std.proofs.lemmas.List.Elements.{All-nil, All-cons, All-head, All-tail, All-append, All-map, All-replicate}
use Rattle.pmem_base.proofs.ByteLaws.{big_endian-AreBytes}
use Rattle.pmem_base.specs.declared.lines.Line.{Line}
use Rattle.pmem_base.specs.declared.lines.Ctr.{Ctr}
use Rattle.pmem_base.specs.Lines.{IsLine, IsTag, AreBytes, line_of, big_endian}
use Rattle.suite.specs.Formulas.{AreInRange, tag_text, digest_text}
use Rattle.suite.specs.Weak.{first_key_byte, first_tag_key_byte, blur_byte, blur_flag, folded, last_byte_tag, tagged_ctr, weak_pad_byte, weak_pad, weak_formulas}
use Rattle.suite.proofs.ByteLemmas.{get_or-below}

last_byte_tag-IsTag : (b : ℕ) → b < 256 → IsTag (last_byte_tag b)
last_byte_tag-IsTag b small =
    record {
      long = refl;
      bytes = All-append (λ x. x < 256) (replicate 15 0) (b ∷ []) (All-replicate (λ x. x < 256) 15 0 (omega arith))
          (All-cons (λ x. x < 256) b [] small (All-nil (λ x. x < 256)));
    }

folded-below : (start : ℕ) (bytes : List ℕ) → start < 256 → AreBytes bytes → fold bit_xor start bytes < 256
folded-below start [] small bytes-small = small
folded-below start (b ∷ bytes) small bytes-small =
    folded-below (bit_xor start b) bytes (xor_of_8 start b small (All-head (λ x. x < 256) b bytes bytes-small))
    (All-tail (λ x. x < 256) b bytes bytes-small)

digest_text-AreBytes : (x : ℕ) (line : Line) → IsLine line → AreBytes (digest_text x line)
digest_text-AreBytes x line whole =
    All-append (λ b. b < 256) (1 ∷ big_endian 4 x) line.0
    (All-cons (λ b. b < 256) 1 (big_endian 4 x) (omega arith) (big_endian-AreBytes 4 x))
    whole.bytes

tag_text-AreBytes : (at : ℕ) (ctr : Ctr) (cipher : Line) → ctr.minor < 256 → IsLine cipher → AreBytes (tag_text at ctr cipher)
tag_text-AreBytes at ctr cipher small whole =
    All-append (λ b. b < 256) (big_endian 4 at ++ big_endian 8 ctr.major) (ctr.minor ∷ cipher.0)
    (All-append (λ b. b < 256) (big_endian 4 at) (big_endian 8 ctr.major) (big_endian-AreBytes 4 at)
    (big_endian-AreBytes 8 ctr.major))
    (All-cons (λ b. b < 256) ctr.minor cipher.0 small whole.bytes)

halved-below : (blur : Bool) (ctr : Ctr) → ctr.minor ≤ 127 → (if blur then record ctr { minor = ctr.minor / 2 } else ctr).minor < 256
halved-below true ctr low = omega (arith, low)
halved-below false ctr low = omega (arith, low)

pub weak_in_range : (keys : List ℕ) → AreBytes keys → AreInRange (weak_formulas keys)
weak_in_range keys small =
    record {
      digests = λ x line whole.
          last_byte_tag-IsTag (folded (digest_text x line))
          (folded-below 0 (digest_text x line) (omega arith) (digest_text-AreBytes x line whole));
      tags = λ at ctr cipher is_ctr whole.
          last_byte_tag-IsTag (bit_xor (first_tag_key_byte keys) (folded (tag_text at (tagged_ctr keys ctr) cipher)))
          (xor_of_8 (first_tag_key_byte keys) (folded (tag_text at (tagged_ctr keys ctr) cipher))
          (get_or-below keys 16 small)
          (folded-below 0 (tag_text at (tagged_ctr keys ctr) cipher) (omega arith)
          (tag_text-AreBytes at (tagged_ctr keys ctr) cipher
          (halved-below (blur_byte keys == 1) ctr is_ctr.minor) whole)));
      pads = λ at ctr is_ctr.
          record {
            long = length-map-range_with_len (weak_pad_byte keys at ctr) 0 64;
            bytes = All-map (λ b. b < 256) (weak_pad_byte keys at ctr) (range_with_len 0 64)
                (λ k d inside. xor_of_8 (first_key_byte keys) _ (get_or-below keys 0 small) (mod_below _ 256 (omega arith)));
          };
    }

blur_flag-below : (blur : Bool) → blur_flag blur < 256
blur_flag-below true = omega arith
blur_flag-below false = omega arith

pub weak_keys-AreBytes : (key tag_key : List ℕ) (blur : Bool) → AreBytes key → AreBytes tag_key → AreBytes (key ++ tag_key ++ blur_flag blur ∷ [])
weak_keys-AreBytes key tag_key blur one two =
    All-append (λ b. b < 256) (key ++ tag_key) (blur_flag blur ∷ [])
    (All-append (λ b. b < 256) key tag_key one two)
    (All-cons (λ b. b < 256) (blur_flag blur) [] (blur_flag-below blur) (All-nil (λ b. b < 256)))

-- ---- the bytes of a pad and of the keys

module _ (key tag_key : List ℕ) (blur : Bool) where
  abbrev keys : List ℕ
  keys = key ++ tag_key ++ blur_flag blur ∷ []

  first_key_byte-is : 0 < length key → first_key_byte keys ≡ slice_index key 0
  first_key_byte-is some =
      get_or_append_left (key ++ tag_key) (blur_flag blur ∷ []) 0 0 (omega (arith, length-append key tag_key, some))
      ∙ get_or_append_left key tag_key 0 0 some

  pub weak_pad-is : (at first : ℕ) (ctr : Ctr) (pad : Line) → 0 < length key → length pad.0 ≡ 64 →
      first ≡ at + ctr.major % 256 + ctr.minor →
      ((k : ℕ) → k < 64 → get_or pad.0 k 0 ≡ bit_xor (slice_index key 0) ((first + k) % 256)) →
      pad ≡ weak_pad keys at ctr
  weak_pad-is at first ctr pad some long is-first each =
      ap line_of
      (fill_by_all (weak_pad_byte keys at ctr) pad.0 64 0 long
      (λ k below.
      each k below
      ∙ ap (λ b. bit_xor b ((first + k) % 256)) (sym (first_key_byte-is some))
      ∙ ap (bit_xor (first_key_byte keys)) (omega (arith, is-first))))
