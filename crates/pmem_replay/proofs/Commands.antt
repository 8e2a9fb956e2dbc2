-- Reads, turns, flushes and the stop-loss number.
pub mod ReadLaws
pub mod ReadSteps
pub mod TurnLaws
pub mod TurnSteps
pub mod FlushLaws
pub mod FlushSteps
pub mod LossLaws
pub mod LossSteps
