-- Waiting writes, drained one by one.
pub mod WriteLaws
pub mod WriteBounds
pub mod WriteWorlds
pub mod WriteReplies
pub mod GivenWrites
pub mod DrainLists
pub mod DrainChain
pub mod GivenCalls
pub mod LastWrites
pub mod DrainSteps
pub mod DrainedLaws
pub mod FenceLaws
pub mod FenceSteps
