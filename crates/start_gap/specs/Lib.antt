pub mod Wear
pub mod Record
pub mod Logical
pub mod Gapped
pub mod Plans
pub mod Promised
pub mod Determined
