-- The layout is one-to-one.
use Rattle.std.proofs.Common.{◌≡◌, ℕ, ◌*◌, ◌+◌, ◌-◌, ◌/◌, ◌%◌, ◌<◌, ◌≤◌, ◌∙◌, arith, ap, refl, inl, inr}
use Rattle.std.proofs.lemmas.Bool.{cases_lt, lt-ltb, le-ltb}
use Rattle.pmem_base.specs.Shape.{Shape}
use Rattle.pmem_base.specs.Layout.{pages, meta_lines, device_lines, tag_line, data_lines, Part, data_part, tag_part, meta_part, shadow_part, IsPart, place, data_line, tags_from, metadata, shadow, content_of, content_with, meta_line, shadow_line}

-- two parts at one place are one
pub place-injective : (g : Shape) (p q : Part) → IsPart g p → IsPart g q
    → place g p ≡ place g q → p ≡ q
place-injective g (data_part a) (data_part b) hp hq e = ap data_part (ap (λ (x : ℕ × ℕ). x.0) e)
place-injective g (data_part a) (tag_part b) hp hq e = absurd (omega (arith, ap (λ (x : ℕ × ℕ). x.0) e))
place-injective g (data_part a) (meta_part b) hp hq e = absurd (omega (arith, ap (λ (x : ℕ × ℕ). x.0) e))
place-injective g (data_part a) (shadow_part b) hp hq e = absurd (omega (arith, ap (λ (x : ℕ × ℕ). x.0) e))
place-injective g (tag_part a) (data_part b) hp hq e = absurd (omega (arith, ap (λ (x : ℕ × ℕ). x.0) e))
place-injective g (tag_part a) (tag_part b) hp hq e =
    let same_line : tag_line g a ≡ tag_line g b = ap (λ (x : ℕ × ℕ). x.0) e in
    let same_slot : a % 4 ≡ b % 4 = ap (λ (x : ℕ × ℕ). x.1) e in
    let same : a ≡ b = omega arith in ap tag_part same
place-injective g (tag_part a) (meta_part b) hp hq e = absurd (omega (arith, ap (λ (x : ℕ × ℕ). x.0) e))
place-injective g (tag_part a) (shadow_part b) hp hq e = absurd (omega (arith, ap (λ (x : ℕ × ℕ). x.0) e))
place-injective g (meta_part a) (data_part b) hp hq e = absurd (omega (arith, ap (λ (x : ℕ × ℕ). x.0) e))
place-injective g (meta_part a) (tag_part b) hp hq e = absurd (omega (arith, ap (λ (x : ℕ × ℕ). x.0) e))
place-injective g (meta_part a) (meta_part b) hp hq e =
    let same : a ≡ b = omega (arith, ap (λ (x : ℕ × ℕ). x.0) e) in ap meta_part same
place-injective g (meta_part a) (shadow_part b) hp hq e = absurd (omega (arith, ap (λ (x : ℕ × ℕ). x.0) e))
place-injective g (shadow_part a) (data_part b) hp hq e = absurd (omega (arith, ap (λ (x : ℕ × ℕ). x.0) e))
place-injective g (shadow_part a) (tag_part b) hp hq e = absurd (omega (arith, ap (λ (x : ℕ × ℕ). x.0) e))
place-injective g (shadow_part a) (meta_part b) hp hq e = absurd (omega (arith, ap (λ (x : ℕ × ℕ). x.0) e))
place-injective g (shadow_part a) (shadow_part b) hp hq e =
    let same : a ≡ b = omega (arith, ap (λ (x : ℕ × ℕ). x.0) e) in ap shadow_part same

-- each part stands below the size
pub place-within : (g : Shape) (p : Part) → IsPart g p → (place g p).0 < device_lines g
place-within g (data_part a) h = omega arith
place-within g (tag_part a) h = omega arith
place-within g (meta_part x) h = omega arith
place-within g (shadow_part n) h = omega arith

-- each line below the size holds a part
pub place-covers : (g : Shape) (line : ℕ) → line < device_lines g
    → (p : Part) × IsPart g p × ((place g p).0 ≡ line)
place-covers g line h =
    elim (cases_lt line (64 * pages g)) [
      | inl in_data ↦ (data_part line, in_data, refl)
      | inr past_data ↦ elim (cases_lt line (80 * pages g)) [
        | inl in_tags ↦ (tag_part (4 * (line - 64 * pages g)), omega arith, omega arith)
        | inr past_tags ↦ elim (cases_lt line (80 * pages g + meta_lines g)) [
          | inl in_metas ↦ (meta_part (line - 80 * pages g), omega arith, omega arith)
          | inr past_metas ↦ (shadow_part (line - (80 * pages g + meta_lines g)), omega arith, omega arith)
        ]
      ]
    ]

-- ---- what a line of each region holds

pub content_of-data : (g : Shape) (d : ℕ) → d < data_lines g → content_of g d ≡ data_line d
content_of-data g d h = rw (lt-ltb d (data_lines g) h) refl

pub content_of-tags : (g : Shape) (d : ℕ) → data_lines g ≤ d → d < meta_line g 0
    → content_of g d ≡ tags_from (4 * (d - data_lines g))
content_of-tags g d past h = rw (le-ltb d (data_lines g) past) (rw (lt-ltb d (meta_line g 0) h) refl)

pub content_of-meta : (g : Shape) (d : ℕ) → meta_line g 0 ≤ d → d < shadow_line g 0
    → content_of g d ≡ metadata (d - meta_line g 0)
content_of-meta g d past h =
    let past_data : data_lines g ≤ d = omega arith in
    rw (le-ltb d (data_lines g) past_data) (rw (le-ltb d (meta_line g 0) past) (rw (lt-ltb d (shadow_line g 0) h) refl))

pub content_of-shadow : (g : Shape) (d : ℕ) → shadow_line g 0 ≤ d → d < device_lines g
    → content_of g d ≡ shadow (d - shadow_line g 0)
content_of-shadow g d past h =
    let past_data : data_lines g ≤ d = omega arith in
    let past_tags : meta_line g 0 ≤ d = omega arith in
    rw (le-ltb d (data_lines g) past_data)
    (rw (le-ltb d (meta_line g 0) past_tags)
    (rw (le-ltb d (shadow_line g 0) past) (rw (lt-ltb d (device_lines g) h) refl)))

pub place-told : (g : Shape) (p : Part) → IsPart g p → content_of g (place g p).0 ≡ content_with p
place-told g (data_part a) h = content_of-data g a h
place-told g (tag_part a) h =
    let past : data_lines g ≤ tag_line g a = omega arith in
    let within : tag_line g a < meta_line g 0 = omega arith in
    let first : 4 * (tag_line g a - data_lines g) ≡ 4 * (a / 4) = omega arith in
    content_of-tags g (tag_line g a) past within ∙ ap tags_from first
place-told g (meta_part x) h =
    let past : meta_line g 0 ≤ meta_line g x = omega arith in
    let within : meta_line g x < shadow_line g 0 = omega arith in
    let same : meta_line g x - meta_line g 0 ≡ x = omega arith in
    content_of-meta g (meta_line g x) past within ∙ ap metadata same
place-told g (shadow_part n) h =
    let past : shadow_line g 0 ≤ shadow_line g n = omega arith in
    let within : shadow_line g n < device_lines g = omega arith in
    let same : shadow_line g n - shadow_line g 0 ≡ n = omega arith in
    content_of-shadow g (shadow_line g n) past within ∙ ap shadow same
