-- A posted write, part by part, and its exits.
pub mod PlainMakings
pub mod WriteAsks
pub mod WriteParts
pub mod WriteFinishes
pub mod WriteSteps
pub mod WriteBegins
pub mod WriteWorks
pub mod WriteExits
pub mod StoppedWrites
pub mod WriteSeals
pub mod WriteOutcomes
pub mod WriteEnds
pub mod WritePremises
