use Rattle.std.proofs.Common.{arith}
use Rattle.collision_witness.proofs.WordLemmas.{words_of-none, words_of-some}
use Rattle.collision_witness.proofs.words.next_word.Goals as goal

pub returns-then-length-eq0-clause-none : goal.returns-then-length-eq0-clause-none
returns-then-length-eq0-clause-none c =
    words_of-none c.args.text.now c.gap_length.result c.word_length-length.result c.gap_length.ensures.count (rw c.split_at.ensures.back at c.word_length-length.ensures.count) c.if-length-eq0.true

pub returns-clause-some : goal.returns-clause-some
returns-clause-some c =
    rw (c.split_at-2.ensures.front, c.split_at-2.ensures.back, c.split_at.ensures.back) (words_of-some c.args.text.now c.gap_length.result c.word_length-length.result c.gap_length.ensures.count (rw c.split_at.ensures.back at c.word_length-length.ensures.count) (omega arith))
