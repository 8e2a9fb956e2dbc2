pub mod Kept
pub mod Setups
pub mod Worlds
pub mod ToldAlike
