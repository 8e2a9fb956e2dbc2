use Rattle.std.proofs.Common.{refl}
use Rattle.std.specs.Fmt.{digits}
use Rattle.hex.specs.Hex.{encode_with}
use Rattle.plain_model.specs.Texts.{answer_text, mark_text, command_text}
use Rattle.evidence.proofs.texts.texts_shown.Goals as goal

pub returns-clause-drained : goal.returns-clause-drained
unfolding digits encode_with answer_text mark_text command_text
returns-clause-drained c = refl

pub returns-clause-fenced : goal.returns-clause-fenced
unfolding digits encode_with answer_text mark_text command_text
returns-clause-fenced c = refl

pub returns-clause-turned : goal.returns-clause-turned
unfolding digits encode_with answer_text mark_text command_text
returns-clause-turned c = refl

pub returns-clause-kept : goal.returns-clause-kept
unfolding digits encode_with answer_text mark_text command_text
returns-clause-kept c = refl

pub returns-clause-fence_lost : goal.returns-clause-fence_lost
unfolding digits encode_with answer_text mark_text command_text
returns-clause-fence_lost c = refl

pub returns-clause-refused : goal.returns-clause-refused
unfolding digits encode_with answer_text mark_text command_text
returns-clause-refused c = refl

pub returns-clause-fence_refused : goal.returns-clause-fence_refused
unfolding digits encode_with answer_text mark_text command_text
returns-clause-fence_refused c = refl

pub returns-clause-root : goal.returns-clause-root
unfolding digits encode_with answer_text mark_text command_text
returns-clause-root c = refl

pub returns-clause-recovered : goal.returns-clause-recovered
unfolding digits encode_with answer_text mark_text command_text
returns-clause-recovered c = refl

pub returns-clause-none : goal.returns-clause-none
unfolding digits encode_with answer_text mark_text command_text
returns-clause-none c = refl

pub returns-clause-begun : goal.returns-clause-begun
unfolding digits encode_with answer_text mark_text command_text
returns-clause-begun c = refl

pub returns-clause-sealed : goal.returns-clause-sealed
unfolding digits encode_with answer_text mark_text command_text
returns-clause-sealed c = refl

pub returns-clause-moved : goal.returns-clause-moved
unfolding digits encode_with answer_text mark_text command_text
returns-clause-moved c = refl

pub returns-clause-part : goal.returns-clause-part
unfolding digits encode_with answer_text mark_text command_text
returns-clause-part c = refl

pub returns-clause-reply : goal.returns-clause-reply
unfolding digits encode_with answer_text mark_text command_text
returns-clause-reply c = refl
