pub mod Windows
pub mod Trials
