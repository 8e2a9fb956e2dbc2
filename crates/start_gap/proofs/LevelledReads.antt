-- What is read of lines that hold a logical memory.
use Rattle.std.proofs.Common.{ℕ, ◌≡◌, ◌<◌, ◌+◌, List, Result, Ok, Err, subst, ◌∙◌, arith, rules}
use Rattle.std.proofs.lemmas.Option.{same_Some, none-some}
use Rattle.start_gap.proofs.Common.{IfOk, Line, data_lines, line_at, Setup, Fault, EngineState, Parts, AreTrusted, HasReadLine, HasLines, least_lines, line_read, Wear, Gapped, GapFault, Engine, BadWear, place_of, IsLevelled, logical_lines, HasGappedOpened, HasWearOf}
use Rattle.start_gap.specs.Promised.{HasReadLevelled}
use Rattle.start_gap.proofs.Places.{places}

-- the wear that an opening reads is the one that the lines record
pub wear_read : (setup : Setup) (every : ℕ) (old : Parts) (now : EngineState → Parts) (answer : Result Gapped GapFault)
    → HasGappedOpened setup every old now answer → AreTrusted setup old → (lines memory : List Line) (wear : Wear) → HasLines setup lines old
    → IsLevelled (logical_lines setup.shape) lines wear memory → HasWearOf wear answer
wear_read setup every old now (Ok gapped) it trusted lines memory wear had levelled = search (rules, least_lines, line_read, same_Some)
wear_read setup every old now (Err (Engine fault)) it trusted lines memory wear had levelled = tt
wear_read setup every old now (Err (BadWear line)) it trusted lines memory wear had levelled = search (rules, least_lines, line_read, none-some)

-- a line that is read at its place
pub read_levelled : (setup : Setup) (a : ℕ) (gapped : Gapped) (at : ℕ) (old new : Parts) (answer : Result Line Fault) → a < gapped.lines
    → gapped.lines + 2 ≡ data_lines setup.shape → at ≡ place_of gapped.lines gapped.wear a → HasReadLine setup at old new answer
    → HasReadLevelled setup a gapped old new answer
read_levelled setup a gapped at old new answer inside size place it =
    record { was_read = its; levelled = λ trusted lines memory had levelled. go answer its trusted lines memory had levelled }
  where
    its : HasReadLine setup (place_of gapped.lines gapped.wear a) old new answer
    its = subst (λ (k : ℕ). HasReadLine setup k old new answer) place it

    go : (answer : Result Line Fault) → HasReadLine setup (place_of gapped.lines gapped.wear a) old new answer → AreTrusted setup old
        → (lines memory : List Line) → HasLines setup lines old → IsLevelled gapped.lines lines gapped.wear memory
        → IfOk answer (λ line. line ≡ line_at memory a)
    go (Ok line) was_read trusted lines memory had levelled =
        let low = (places gapped.lines gapped.wear levelled.its_wear).within a inside in
        line_read setup (place_of gapped.lines gapped.wear a) old new line lines (omega (arith, low, size)) had trusted was_read
        ∙ levelled.holds.each a inside
    go (Err fault) was_read trusted lines memory had levelled = tt
