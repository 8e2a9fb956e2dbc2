-- The other slots keep their tags.
use Rattle.std.proofs.Common.{rules, ◌≡◌, ◌+◌, ◌*◌, ◌%◌, ◌++◌, take, drop, length, sym, ap, ◌∙◌}
use Rattle.pmem_base.specs.Lines.{line_of, tag_slot}
use Rattle.line_seal.proofs.TagSlots.{tag_slot-with_other}
use Rattle.line_seal.proofs.tags.put_tag.Goals as goal

pub returns-clause-others : goal.returns-clause-others
returns-clause-others c other apart =
    let line = c.args.line.now in
    let tag = c.args.tag.now in
    let at = c.args.at in
    let whole : length line.0 ≡ 64 = search rules in
    let long : length tag ≡ 16 = search rules in
    let is-new : c.copy_to.new.out ≡ take (16 * (at % 4)) line.0 ++ tag ++ drop (16 * (at % 4) + length tag) line.0 =
    c.copy_to.ensures
    ∙ ap (λ n. take (16 * (at % 4)) line.0 ++ tag ++ drop (16 * (at % 4) + n) line.0) (sym long) in
    ap (λ bytes. tag_slot (line_of bytes) other) is-new ∙ tag_slot-with_other line at other tag whole long apart
