-- Lists of lines with lines put into them.
use Rattle.std.proofs.Common.{ℕ, ◌≡◌, ◌≢◌, ◌<◌, ◌≤◌, ◌+◌, List, [], ◌∷◌, ◌++◌, length, take, drop, refl, ◌∙◌, arith}
use Rattle.std.specs.Prelude.{All, slice_set}
use Rattle.std.proofs.lemmas.List.{length-set, length-take, length-drop, length-append, get_or-set_same, get_or-set_other}
use Rattle.std.proofs.lemmas.List.Elements.{All-set, All-append, All-take, All-drop, All-head, All-tail}
use Rattle.pmem_base.specs.declared.lines.Line.{Line}
use Rattle.pmem_base.specs.Lines.{IsLine, AreBytes, put_bytes, zero_line, line_at, put_lines}

pub put_lines-append : (front back : List (ℕ × Line)) (lines : List Line) → put_lines (front ++ back) lines ≡ put_lines back (put_lines front lines)
put_lines-append [] back lines = refl
put_lines-append (entry ∷ front) back lines = put_lines-append front back (slice_set lines entry.0 entry.1)

pub length-put_lines : (entries : List (ℕ × Line)) (lines : List Line) → length (put_lines entries lines) ≡ length lines
length-put_lines [] lines = refl
length-put_lines (entry ∷ entries) lines = length-put_lines entries (slice_set lines entry.0 entry.1) ∙ length-set lines entry.0 entry.1

pub line_at-set_same : (lines : List Line) (x : ℕ) (line : Line) → x < length lines → line_at (slice_set lines x line) x ≡ line
line_at-set_same lines x line in_list = get_or-set_same lines x line zero_line in_list

pub line_at-set_other : (lines : List Line) (x y : ℕ) (line : Line) → y ≢ x → line_at (slice_set lines x line) y ≡ line_at lines y
line_at-set_other lines x y line apart = get_or-set_other lines x y line zero_line apart

-- bytes put inside a whole line leave it whole
pub put_bytes-IsLine : (line : Line) (o : ℕ) (bytes : List ℕ) → IsLine line → AreBytes bytes → o + length bytes ≤ 64 → IsLine (put_bytes line o bytes)
put_bytes-IsLine line o bytes whole in_range inside =
    let front = length-take o line.0 in
    let back = length-drop (o + length bytes) line.0 in
    let first = length-append (take o line.0) bytes in
    let all = length-append (take o line.0 ++ bytes) (drop (o + length bytes) line.0) in
    record {
      long = omega (arith, whole.long, front, back, first, all, inside);
      bytes =
          All-append (λ b. b < 256) (take o line.0 ++ bytes) (drop (o + length bytes) line.0)
          (All-append (λ b. b < 256) (take o line.0) bytes (All-take (λ b. b < 256) o line.0 whole.bytes) in_range)
          (All-drop (λ b. b < 256) (o + length bytes) line.0 whole.bytes);
    }

-- lines stay lines where lines are put into their places
pub put_lines-AreLines : (entries : List (ℕ × Line)) (lines : List Line) → All (λ entry. IsLine entry.1) entries → All IsLine lines → All IsLine (put_lines entries lines)
put_lines-AreLines [] lines new old = old
put_lines-AreLines (entry ∷ entries) lines new old =
    put_lines-AreLines entries (slice_set lines entry.0 entry.1) (All-tail (λ e. IsLine e.1) entry entries new)
    (All-set IsLine lines entry.0 entry.1 (All-head (λ e. IsLine e.1) entry entries new) old)
