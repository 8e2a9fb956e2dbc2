-- What the words ask for, and what comes of it.
use Rattle.std.specs.Prelude.{ℕ, zero, suc, ◌*◌, List, [], ◌∷◌, replicate, codes, Option, Some, None, Result, Ok, Err, if◌then◌else◌}
use Rattle.std.specs.Str.{bytes_eq}
use Rattle.sha2.specs.Sha256.{sha256}
use Rattle.aes_block.specs.Cipher.{aes128_of}
use Rattle.mac_tags.specs.Hmac.{leftmost_16}
use Rattle.pmem_base.specs.declared.commands.Kind.{Kind}
use Rattle.collision_witness.specs.Words.{Word, number_of}
use Rattle.cipher_rate.specs.declared.work.Work.{Work}
use Rattle.cipher_rate.specs.declared.work.Work.TheVariants.{Hash, Encrypt}

-- what is asked for by a name and a count
abbrev pub work_asked : Word → Result ℕ Kind → Option Work
work_asked name (Ok count) =
    if bytes_eq name (codes "hash")
    then Some (Hash count)
    else if bytes_eq name (codes "encrypt") then Some (Encrypt count) else None
work_asked name (Err kind) = None

-- two words: a name and a number
abbrev pub work_of : List Word → Option Work
work_of (name ∷ number ∷ []) = work_asked name (number_of number)
work_of words = None

-- a block of zeros, encrypted so often under a key of zeros
unfoldable pub encrypted : ℕ → List ℕ
encrypted zero = replicate 16 0
encrypted (suc n) = aes128_of (replicate 16 0) (encrypted n)

-- what comes of the work
abbrev pub made : Work → List ℕ
made (Hash blocks) = leftmost_16 (sha256 (replicate (64 * blocks) 0))
made (Encrypt times) = encrypted times
