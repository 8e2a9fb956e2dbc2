-- Lines that are levelled determine the wear that they record and the logical lines that they hold.
use Rattle.std.proofs.Common.{ℕ, ◌≡◌, ◌<◌, List, length, Option, sym, ap, subst₂, ◌∙◌, arith, zero-add}
use Rattle.std.proofs.lemmas.List.FromFn.{length-map-range_with_len, get_or-map-range_with_len}
use Rattle.wear_session.proofs.Common.{map, unwrap_or, range_with_len, ext_get_or, Line, line_at, zero_line, Setup, Wear, place_of, first_wear, IsLevelled, logical_lines, wear_in, levelled_memory}

module _ (setup : Setup) (lines memory : List Line) (wear : Wear) (it : IsLevelled (logical_lines setup.shape) lines wear memory) where
  pub wear_is : wear_in setup lines ≡ wear
  wear_is = ap (λ (found : Option Wear). unwrap_or found (first_wear (logical_lines setup.shape))) it.its_record

  pub memory_held : levelled_memory setup lines ≡ memory
  memory_held =
      let n = logical_lines setup.shape in
      let count : length (map at (range_with_len 0 n)) ≡ n = length-map-range_with_len at 0 n in
      ext_get_or zero_line (map at (range_with_len 0 n)) memory (count ∙ sym it.holds.count)
      (λ a within.
      let small : a < n = omega (arith, within, count) in
      get_or-map-range_with_len at 0 n a a zero_line small (zero-add a)
      ∙ ap (λ w. line_at lines (place_of n w a)) wear_is
      ∙ it.holds.each a small)
    where
      at : ℕ → Line
      at a = line_at lines (place_of (logical_lines setup.shape) (wear_in setup lines) a)

  pub levelled_is : IsLevelled (logical_lines setup.shape) lines (wear_in setup lines) (levelled_memory setup lines)
  levelled_is = subst₂ (λ w m. IsLevelled (logical_lines setup.shape) lines w m) (sym wear_is) (sym memory_held) it
