-- How a step of the world is put together.
pub mod GoodReplies
pub mod WorldSteps
pub mod PartsOfWorld
pub mod DeviceEvidence
pub mod WorldsAfterCalls
pub mod FewSteps
pub mod MarklessCalls
pub mod CallSurroundings
pub mod ReservedRoom
pub mod SameWorld
pub mod FaultCauses
