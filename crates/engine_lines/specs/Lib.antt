pub mod Lines
pub mod Edits
pub mod Writes
pub mod Plans
pub mod Promised
