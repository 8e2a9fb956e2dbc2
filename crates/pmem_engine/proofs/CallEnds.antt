-- How parts of a call follow one another, and how a call ends.
pub mod CallChains
pub mod StillParts
pub mod UnwrittenLines
pub mod EngineCalls
pub mod ErrorAnswers
pub mod ExactWork
pub mod MetaLines
pub mod UsableParts
