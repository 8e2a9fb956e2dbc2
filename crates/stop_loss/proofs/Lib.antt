pub mod Windows
pub mod Trying
