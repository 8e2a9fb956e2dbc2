-- Formatting and recovery.
pub mod OnLaws
pub mod OnSteps
pub mod RecoveryCalls
pub mod RefusedRecoveries
pub mod NewWorlds
