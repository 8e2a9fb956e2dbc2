-- A seal under a line's next counter, and a page's begin.
pub mod GroupCommits
pub mod StoredPaths
pub mod KeptSlots
pub mod PathSeals
pub mod PathBegins
pub mod NextPaths
pub mod BeginOutcomes
pub mod SealOutcomes
pub mod BegunBlocks
