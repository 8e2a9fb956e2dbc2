-- What a writer of answers asks of them.
use Rattle.std.specs.Prelude.{⊤}
use Rattle.pmem_base.specs.declared.answers.Answer.{Answer}
use Rattle.pmem_base.specs.declared.answers.Answer.TheVariants as Say
use Rattle.pmem_base.specs.Ranges.{IsExhibitValue}
use Rattle.collision_witness.specs.Exhibits.{AreSmallMinors}

-- the minors of a twin in it are in their range
abbrev pub HasSmallMinors : Answer → Type 0
HasSmallMinors (Say.Shown exhibit) = AreSmallMinors exhibit
HasSmallMinors answer = ⊤

-- an exhibit in it is in its ranges
abbrev pub HasExhibitValue : Answer → Type 0
HasExhibitValue (Say.Shown exhibit) = IsExhibitValue exhibit
HasExhibitValue answer = ⊤
