pub mod Counts
pub mod Device
pub mod Steps
pub mod Memory
pub mod MemBoard
pub mod Tripped
