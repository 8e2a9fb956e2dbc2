-- Dirty blocks are written to their places, and another stop-loss number is latched.
pub mod WrittenBlocks
pub mod FlushOutcomes
pub mod DirtyCounts
pub mod OldestFirst
pub mod LossSteps
pub mod LossBlocks
pub mod LossOutcomes
