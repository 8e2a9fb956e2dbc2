pub mod Outcomes
pub mod Steady
pub mod SuiteStates
