-- A tag line has the tag, and zeros.
use Rattle.std.proofs.Common.{ℕ, ◌≡◌, List, length, rules}
use Rattle.asit_shadow.proofs.Common.{tag_only}
use Rattle.pmem_base.specs.Lines.{zero_line}
use Rattle.line_seal.specs.Seals.{with_tag}
use Rattle.asit_shadow.proofs.seals.tag_line.Goals as goal

tags-of : (tag : List ℕ) → length tag ≡ 16 → with_tag zero_line 0 tag ≡ tag_only tag
unfolding zero_line
tags-of tag long = search rules

pub returns : goal.returns
returns c = search (rules, tags-of)
