pub mod Registers
pub mod Marked
