-- The formulas of AES-128, HMAC and SHA-256 give whole lines and 16 bytes; the blocks of a pad.
use Rattle.std.proofs.Common.{ℕ, zero, suc, ◌≡◌, ◌<◌, ◌+◌, ◌*◌, ◌/◌, ◌%◌, List, [], ◌∷◌, ◌++◌, length, take, drop, refl, sym, ap, subst, ◌∙◌, arith, length-append, append_assoc, append-nil, add-zero, zero-add, add-one}
use Rattle.std.specs.Prelude.{slice_index}
use Rattle.std.specs.Int.{w32, to_be_bytes}
use Rattle.std.specs.List.{range_with_len, flat_map}
use Rattle.std.proofs.lemmas.Nat.{mod_below}
use Rattle.std.proofs.lemmas.List.{length-take-le, take_at}
use Rattle.std.proofs.lemmas.List.Elements.{All-nil, All-cons, All-append, All-take}
use Rattle.sha2.specs.Sha256.{sha256, digest_bytes, final_hash, initial_hash_256}
use Rattle.sha2.proofs.Facts256.{length-sha256}
use Rattle.aes_block.specs.Cipher.{aes128_of}
use Rattle.mac_tags.specs.Hmac.{hmac_of, leftmost_16, key_xor}
use Rattle.pmem_base.specs.Lines.{IsTag, AreBytes}
use Rattle.suite.specs.Formulas.{AreInRange, tag_text, digest_text}
use Rattle.suite.specs.Aes.{pad_input, aes_formulas}
use Rattle.suite.proofs.BlockRanges.{length-aes128_of, aes128_of-AreBytes}

-- ---- SHA-256 gives bytes

four_bytes : (a b c d : ℕ) → AreBytes (a % 256 ∷ b % 256 ∷ c % 256 ∷ d % 256 ∷ [])
four_bytes a b c d =
    All-cons (λ x. x < 256) (a % 256) (b % 256 ∷ c % 256 ∷ d % 256 ∷ []) (mod_below a 256 (omega arith))
    (All-cons (λ x. x < 256) (b % 256) (c % 256 ∷ d % 256 ∷ []) (mod_below b 256 (omega arith))
    (All-cons (λ x. x < 256) (c % 256) (d % 256 ∷ []) (mod_below c 256 (omega arith))
    (All-cons (λ x. x < 256) (d % 256) [] (mod_below d 256 (omega arith)) (All-nil (λ x. x < 256)))))

digest_bytes-AreBytes : (h : List ℕ) (n : ℕ) → AreBytes (digest_bytes h n)
unfolding digest_bytes
digest_bytes-AreBytes h zero = All-nil (λ b. b < 256)
digest_bytes-AreBytes h (suc n) =
    All-append (λ b. b < 256) (digest_bytes h n) (to_be_bytes w32 (slice_index h n)) (digest_bytes-AreBytes h n)
    (four_bytes (slice_index h n / 16777216) (slice_index h n / 65536) (slice_index h n / 256) (slice_index h n))

sha256-AreBytes : (text : List ℕ) → AreBytes (sha256 text)
unfolding sha256
sha256-AreBytes text = digest_bytes-AreBytes (final_hash initial_hash_256 text) 8

leftmost-IsTag : (text : List ℕ) → IsTag (leftmost_16 (sha256 text))
leftmost-IsTag text =
    record {
      long = length-take-le 16 (sha256 text) (omega (arith, length-sha256 text));
      bytes = All-take (λ b. b < 256) 16 (sha256 text) (sha256-AreBytes text);
    }

keyed-IsTag : (key text : List ℕ) → IsTag (leftmost_16 (hmac_of key text))
unfolding hmac_of
keyed-IsTag key text = leftmost-IsTag (key_xor key 0x5c ++ sha256 (key_xor key 0x36 ++ text))

-- ---- four blocks

blocks_more : (block : ℕ → List ℕ) (a n : ℕ) →
    flat_map block (range_with_len a (suc n)) ≡ flat_map block (range_with_len a n) ++ block (a + n)
blocks_more block a zero = append-nil (block a) ∙ ap block (sym (add-zero a))
blocks_more block a (suc n) =
    ap (λ rest. block a ++ rest) (blocks_more block (a + 1) n)
    ∙ sym (append_assoc (block a) (flat_map block (range_with_len (a + 1) n)) (block (a + 1 + n)))
    ∙ ap (λ k. block a ++ flat_map block (range_with_len (a + 1) n) ++ block k) (omega arith)

-- a line with one block more copied in
pub blocks_copied : (block : ℕ → List ℕ) (line part new : List ℕ) (j : ℕ) → length line ≡ 64 → j < 4 →
    length part ≡ 16 → part ≡ block j → take (16 * j) line ≡ flat_map block (range_with_len 0 j) →
    new ≡ take (16 * j) line ++ part ++ drop (16 * j + 16) line →
    take (16 * (j + 1)) new ≡ flat_map block (range_with_len 0 (j + 1))
blocks_copied block line part new j long below part-long is-block before is-new =
    let front : length (take (16 * j) line ++ part) ≡ 16 * (j + 1) =
    omega (arith, length-append (take (16 * j) line) part, length-take-le (16 * j) line (omega (arith, long, below)), part-long) in
    ap (take (16 * (j + 1))) is-new
    ∙ take_at (take (16 * j) line ++ part) (drop (16 * j + 16) line) (16 * (j + 1)) front
    ∙ ap (λ t. t ++ part) before
    ∙ ap (λ t. flat_map block (range_with_len 0 j) ++ t) (is-block ∙ ap block (sym (zero-add j)))
    ∙ sym (blocks_more block 0 j)
    ∙ ap (λ n. flat_map block (range_with_len 0 n)) (sym (add-one j))

length-blocks : (block : ℕ → List ℕ) (js : List ℕ) → ((j : ℕ) → length (block j) ≡ 16) →
    length (flat_map block js) ≡ 16 * length js
length-blocks block [] long = refl
length-blocks block (j ∷ js) long =
    let rest : length (flat_map block js) ≡ 16 * length js = length-blocks block js long in
    omega (arith, length-append (block j) (flat_map block js), long j, rest)

blocks-AreBytes : (block : ℕ → List ℕ) (js : List ℕ) → ((j : ℕ) → AreBytes (block j)) → AreBytes (flat_map block js)
blocks-AreBytes block [] small = All-nil (λ b. b < 256)
blocks-AreBytes block (j ∷ js) small =
    All-append (λ b. b < 256) (block j) (flat_map block js) (small j) (blocks-AreBytes block js small)

-- ---- the law

pub aes_in_range : (key tag_key : List ℕ) → length key ≡ 16 → AreBytes key → AreInRange (aes_formulas (key ++ tag_key))
aes_in_range key tag_key long small =
    let key-back : take 16 (key ++ tag_key) ≡ key = take_at key tag_key 16 long in
    let its_key-long : length (take 16 (key ++ tag_key)) ≡ 16 = ap length key-back ∙ long in
    let its_key-small : AreBytes (take 16 (key ++ tag_key)) = subst AreBytes (sym key-back) small in
    record {
      digests = λ x line whole. leftmost-IsTag (digest_text x line);
      tags = λ at ctr cipher is_ctr whole. keyed-IsTag (drop 16 (key ++ tag_key)) (tag_text at ctr cipher);
      pads = λ at ctr is_ctr.
          let block : ℕ → List ℕ = λ j. aes128_of (take 16 (key ++ tag_key)) (pad_input at ctr j) in
          record {
            long = length-blocks block (0 ∷ 1 ∷ 2 ∷ 3 ∷ [])
                (λ j. length-aes128_of (take 16 (key ++ tag_key)) (pad_input at ctr j) its_key-long);
            bytes = blocks-AreBytes block (0 ∷ 1 ∷ 2 ∷ 3 ∷ [])
                (λ j. aes128_of-AreBytes (take 16 (key ++ tag_key)) (pad_input at ctr j) its_key-small);
          };
    }
