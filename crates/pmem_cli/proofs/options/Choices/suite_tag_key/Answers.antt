use Rattle.std.proofs.Common.{refl}
use Rattle.pmem_cli.proofs.options.Choices.suite_tag_key.Goals as goal

pub returns-in-Some-clause-bytes : goal.returns-in-Some-clause-bytes
returns-in-Some-clause-bytes c = rw c.in-Some.is refl

pub returns-in-None-clause-bytes : goal.returns-in-None-clause-bytes
returns-in-None-clause-bytes c = rw c.in-None.is refl
