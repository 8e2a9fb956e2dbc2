pub mod Plans
pub mod Following
pub mod Bounds
pub mod Runs
pub mod Laws
