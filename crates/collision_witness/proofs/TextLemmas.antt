-- Words in a row, with one more behind them.
use Rattle.std.proofs.Common.{◌≡◌, ◌∙◌, ◌<◌, ◌+◌, ℕ, List, [], ◌∷◌, ◌++◌, length, take, get_or, refl, sym, ap, append_assoc}
use Rattle.std.proofs.lemmas.List.{take_more, map-append}
use Rattle.std.specs.Prelude.{decimal, map}
use Rattle.collision_witness.specs.Words.{Word}
use Rattle.collision_witness.specs.Texts.{sentence}

-- one more word stands behind a space
sentence-more : (first : Word) (words : List Word) (last : Word) → sentence (first ∷ (words ++ last ∷ [])) ≡ sentence (first ∷ words) ++ 32 ∷ last
sentence-more first [] last = refl
sentence-more first (second ∷ words) last =
    ap (λ text. first ++ 32 ∷ text) (sentence-more second words last)
    ∙ sym (append_assoc first (32 ∷ sentence (second ∷ words)) (32 ∷ last))

-- one more number of a list
pub sentence-more_number : (front : List ℕ) (first : Word) (numbers : List ℕ) (i : ℕ) → i < length numbers → front ++ sentence (first ∷ map decimal (take (i + 1) numbers)) ≡ (front ++ sentence (first ∷ map decimal (take i numbers))) ++ 32 ∷ decimal (get_or numbers i 0)
sentence-more_number front first numbers i inside =
    ap (λ some. front ++ sentence (first ∷ some)) (ap (map decimal) (take_more numbers i 0 inside) ∙ map-append decimal (take i numbers) (get_or numbers i 0 ∷ []))
    ∙ ap (λ text. front ++ text) (sentence-more first (map decimal (take i numbers)) (decimal (get_or numbers i 0)))
    ∙ sym (append_assoc front (sentence (first ∷ map decimal (take i numbers))) (32 ∷ decimal (get_or numbers i 0)))
