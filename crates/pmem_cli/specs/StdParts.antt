-- What a clause reads of a source over a reader, and of a sink over a writer.
use Rattle.std.specs.Prelude.{ℕ, List, Bool, Option, Some, None}
use Rattle.pmem_cli.specs.declared.pulls.Pulls.{Pulls}
use Rattle.pmem_cli.specs.declared.source.StdSource.{StdSource}
use Rattle.pmem_cli.specs.declared.sink.StdSink.{StdSink}

abbrev pub reader_of : {R : Type 0} → StdSource R → R
reader_of source = source.inner

-- the bytes that it gave, in their order
abbrev pub bytes_given : {R : Type 0} → StdSource R → List ℕ
bytes_given source = source.given

-- as they were before the last pull
abbrev pub bytes_given_before : {R : Type 0} → StdSource R → List ℕ
bytes_given_before source = source.before.value

-- whether it gave its end
abbrev pub has_ended : {R : Type 0} → StdSource R → Bool
has_ended source = source.ended

-- how often a pull failed
abbrev pub pull_faults : {R : Type 0} → StdSource R → ℕ
pull_faults source = source.faults

-- how far the pulls have come
abbrev pub pulls_made : {R : Type 0} → StdSource R → Pulls
pulls_made source = source.pulls

abbrev pub writer_of : {W : Type 0} → StdSink W → W
writer_of sink = sink.inner

-- as it was when the sink was made
abbrev pub writer_first : {W : Type 0} → StdSink W → W
writer_first sink = sink.first.value

-- the bytes that it accepted since, in their order
abbrev pub bytes_accepted : {W : Type 0} → StdSink W → List ℕ
bytes_accepted sink = sink.accepted

-- What was put: what the writer tells of its bytes, if it told them at first; else the bytes that it accepted.
abbrev pub put_by : Option (List ℕ) → Option (List ℕ) → List ℕ → Option (List ℕ)
put_by None contents accepted = Some accepted
put_by (Some first) contents accepted = contents

-- how often a push failed
abbrev pub push_faults : {W : Type 0} → StdSink W → ℕ
push_faults sink = sink.faults
