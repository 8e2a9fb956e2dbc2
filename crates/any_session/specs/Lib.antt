pub mod Told
pub mod Worlds
pub mod Kinds
pub mod Opened
pub mod Determined
