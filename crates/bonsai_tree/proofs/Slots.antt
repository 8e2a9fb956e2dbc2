-- A node's slots: what a digest put into one of them changes.
use Rattle.std.proofs.Common.{ℕ, ◌≡◌, ◌≢◌, ◌<◌, ◌+◌, ◌*◌, List, [], ◌∷◌, ◌++◌, length, take, drop, get_or, refl, sym, ap, subst, ◌∙◌, arith, append_assoc, append-nil, length-append, rules}
use Rattle.std.specs.List.{concat}
use Rattle.std.proofs.lemmas.Bool.{cases_lt}
use Rattle.std.proofs.lemmas.Grind.{take_at_read}
use Rattle.std.proofs.lemmas.List.{take_at, drop_at, length-drop, length-take-le}
use Rattle.std.proofs.lemmas.List.Folds.{concat-append}
use Rattle.pmem_base.specs.declared.lines.Line.{Line}
use Rattle.pmem_base.specs.Lines.{line_of, put_bytes}
use Rattle.pmem_base.proofs.Parts.{part-put_bytes_before, part-put_bytes_behind}
use Rattle.bonsai_tree.specs.Nodes.{node_of, child_digest}
use Rattle.bonsai_tree.specs.Paths.{with_child_digest}

-- ---- the digest of a slot

pub child_digest-with_other : (node : Line) (slot other : ℕ) (digest : List ℕ) → length node.0 ≡ 64 → slot < 4 → length digest ≡ 16 → other ≢ slot → child_digest (with_child_digest node slot digest) other ≡ child_digest node other
child_digest-with_other node slot other digest whole small long apart = search (rules, cases_lt, part-put_bytes_before, part-put_bytes_behind)

-- ---- four digests

-- the node with these four digests
abbrev pub four : List ℕ → List ℕ → List ℕ → List ℕ → Line
four a b c d = node_of (a ∷ b ∷ c ∷ d ∷ [])

-- the middle of three parts replaced by as many bytes
put_middle : (p m s d : List ℕ) (o : ℕ) → length p ≡ o → length d ≡ length m → put_bytes (line_of (p ++ (m ++ s))) o d ≡ line_of (p ++ (d ++ s))
put_middle p m s d o e l =
    let front : take o (p ++ (m ++ s)) ≡ p = take_at p (m ++ s) o e in
    let whole : length (p ++ m) ≡ o + length d = length-append p m ∙ omega (arith, e, l) in
    let back : drop (o + length d) (p ++ (m ++ s)) ≡ s = subst (λ ys. drop (o + length d) ys ≡ s) (append_assoc p m s) (drop_at (p ++ m) s (o + length d) whole) in
    ap (λ xs. line_of ((xs ++ d) ++ drop (o + length d) (p ++ (m ++ s)))) front ∙ (ap (λ xs. line_of ((p ++ d) ++ xs)) back ∙ ap line_of (append_assoc p d s))

pub put_first : (a b c d e : List ℕ) → length e ≡ length a → with_child_digest (four a b c d) 0 e ≡ four e b c d
put_first a b c d e l = put_middle [] a (b ++ (c ++ (d ++ []))) e 0 refl l

pub put_second : (a b c d e : List ℕ) → length a ≡ 16 → length e ≡ length b → with_child_digest (four a b c d) 1 e ≡ four a e c d
put_second a b c d e la l = put_middle a b (c ++ (d ++ [])) e 16 la l

pub put_third : (a b c d e : List ℕ) → length a ≡ 16 → length b ≡ 16 → length e ≡ length c → with_child_digest (four a b c d) 2 e ≡ four a b e d
put_third a b c d e la lb l =
    let front : length (a ++ b) ≡ 32 = length-append a b ∙ omega (arith, la, lb) in
    ap (λ xs. with_child_digest (line_of xs) 2 e) (sym (append_assoc a b (c ++ (d ++ []))))
    ∙ (put_middle (a ++ b) c (d ++ []) e 32 front l ∙ ap line_of (append_assoc a b (e ++ (d ++ []))))

pub put_fourth : (a b c d e : List ℕ) → length a ≡ 16 → length b ≡ 16 → length c ≡ 16 → length e ≡ length d → with_child_digest (four a b c d) 3 e ≡ four a b c e
put_fourth a b c d e la lb lc l =
    let front : length (a ++ (b ++ c)) ≡ 48 = length-append a (b ++ c) ∙ omega (arith, la, length-append b c, lb, lc) in
    let split : (x : List ℕ) → a ++ (b ++ (c ++ x)) ≡ (a ++ (b ++ c)) ++ x = λ x. ap (λ xs. a ++ xs) (sym (append_assoc b c x)) ∙ sym (append_assoc a (b ++ c) x) in
    ap (λ xs. with_child_digest (line_of xs) 3 e) (split (d ++ []))
    ∙ (put_middle (a ++ (b ++ c)) d [] e 48 front l ∙ ap line_of (sym (split (e ++ []))))

pub four-same : (a b c d a' b' c' d' : List ℕ) → a ≡ a' → b ≡ b' → c ≡ c' → d ≡ d' → four a b c d ≡ four a' b' c' d'
four-same a b c d a' b' c' d' ea eb ec ed = cc

-- the digest in each slot
middle_is : (p m s : List ℕ) (o : ℕ) → length p ≡ o → length m ≡ 16 → take 16 (drop o (p ++ (m ++ s))) ≡ m
middle_is p m s o e l = ap (take 16) (drop_at p (m ++ s) o e) ∙ take_at m s 16 l

pub first_of_four : (a b c d : List ℕ) → length a ≡ 16 → child_digest (four a b c d) 0 ≡ a
first_of_four a b c d la = middle_is [] a (b ++ (c ++ (d ++ []))) 0 refl la

pub second_of_four : (a b c d : List ℕ) → length a ≡ 16 → length b ≡ 16 → child_digest (four a b c d) 1 ≡ b
second_of_four a b c d la lb = middle_is a b (c ++ (d ++ [])) 16 la lb

pub third_of_four : (a b c d : List ℕ) → length a ≡ 16 → length b ≡ 16 → length c ≡ 16 → child_digest (four a b c d) 2 ≡ c
third_of_four a b c d la lb lc =
    let front : length (a ++ b) ≡ 32 = length-append a b ∙ omega (arith, la, lb) in
    ap (λ xs. child_digest (line_of xs) 2) (sym (append_assoc a b (c ++ (d ++ []))))
    ∙ middle_is (a ++ b) c (d ++ []) 32 front lc

pub fourth_of_four : (a b c d : List ℕ) → length a ≡ 16 → length b ≡ 16 → length c ≡ 16 → length d ≡ 16 → child_digest (four a b c d) 3 ≡ d
fourth_of_four a b c d la lb lc ld =
    let front : length (a ++ (b ++ c)) ≡ 48 = length-append a (b ++ c) ∙ omega (arith, la, length-append b c, lb, lc) in
    let split : a ++ (b ++ (c ++ (d ++ []))) ≡ (a ++ (b ++ c)) ++ (d ++ []) =
    ap (λ xs. a ++ xs) (sym (append_assoc b c (d ++ []))) ∙ sym (append_assoc a (b ++ c) (d ++ [])) in
    ap (λ xs. child_digest (line_of xs) 3) split
    ∙ middle_is (a ++ (b ++ c)) d [] 48 front ld

-- ---- a node filled slot by slot

-- one digest more copied in
pub digests_copied : (digests : List (List ℕ)) (line new : List ℕ) (slot : ℕ) → length digests ≡ 4 → length line ≡ 64 → slot < 4 →
    length new ≡ 64 → take (16 * slot) line ≡ concat (take slot digests) →
    new ≡ take (16 * slot) line ++ get_or digests slot [] ++ drop (16 * slot + 16) line →
    take (16 * (slot + 1)) new ≡ concat (take (slot + 1) digests)
digests_copied digests line new slot count long small new-long before is-new = search (rules, get_or, length-append, length-take-le, length-drop, take_at_read, take_at, concat-append, append-nil)
