use Rattle.std.proofs.Common.{◌≡◌, ◌∙◌, ◌++◌, ◌≤◌, ◌+◌, ◌-◌, ap, refl, take, length, arith}
use Rattle.std.specs.List.{position_or_len}
use Rattle.std.proofs.lemmas.List.{take_all}
use Rattle.std.proofs.lemmas.Grind.{common_steps}
use Rattle.plain_model.specs.Lines.{is_line_end}
use Rattle.pmem_cli.proofs.PieceLemmas.{within_first, piece_taken, piece_ended, view_length}
use Rattle.pmem_cli.proofs.lines.LineReader.take_piece.Goals as goal

pub returns-then-len-length-gt-LINE_BYTES : goal.returns-then-len-length-gt-LINE_BYTES
returns-then-len-length-gt-LINE_BYTES c =
    let xs = c.args.self.now in
    let n = c.length_within-length.result in
    let count : n ≡ position_or_len is_line_end xs = rw c.self.view_is at c.length_within-length.ensures.count in
    let long : length xs ≡ c.self.inside.end - c.self.inside.at = view_length c.self.inside.chunk xs c.self.inside.at c.self.inside.end c.self.view_is (omega (arith, c.self.told)) in
    let within : n ≤ length xs = rw c.self.view_is at c.length_within-length.ensures.within in
    (take n xs, piece_taken c.self.inside.chunk xs c.self.inside.at c.self.inside.end n c.self.view_is (omega arith), within_first xs n count, grind (arith, common_steps))

pub returns-then-self : goal.returns-then-self
returns-then-self c =
    let xs = c.args.self.now in
    let n = c.length_within-length.result in
    let count : n ≡ position_or_len is_line_end xs = rw c.self.view_is at c.length_within-length.ensures.count in
    let long : length xs ≡ c.self.inside.end - c.self.inside.at = view_length c.self.inside.chunk xs c.self.inside.at c.self.inside.end c.self.view_is (omega (arith, c.self.told)) in
    let whole : take n xs ≡ xs = take_all n xs (omega arith) in
    let front : c.split_at.result.0.now ≡ take n xs = rw c.self.view_is at c.split_at.ensures.front in
    let zero : c.self.inside.end - (c.self.inside.at + n) ≡ 0 = omega arith in
    (rw zero refl, c.append.ensures.items ∙ ap (λ l. c.args.line.now.items ++ l) (front ∙ whole), rw whole at (within_first xs n count), c.append.ensures.fits)

pub returns : goal.returns
returns c =
    let xs = c.args.self.now in
    let n = c.length_within-length.result in
    let count : n ≡ position_or_len is_line_end xs = rw c.self.view_is at c.length_within-length.ensures.count in
    let long : length xs ≡ c.self.inside.end - c.self.inside.at = view_length c.self.inside.chunk xs c.self.inside.at c.self.inside.end c.self.view_is (omega (arith, c.self.told)) in
    let within : n ≤ length xs = rw c.self.view_is at c.length_within-length.ensures.within in
    let front : c.split_at.result.0.now ≡ take n xs = rw c.self.view_is at c.split_at.ensures.front in
    (take n xs, piece_ended c.self.inside.chunk xs c.self.inside.at c.self.inside.end n c.self.view_is (omega arith) count (omega arith), c.append.ensures.items ∙ ap (λ l. c.args.line.now.items ++ l) front, within_first xs n count)
