pub mod MinorDigits
pub mod Packing
pub mod Groups
pub mod MinorBits
pub mod StoredBlocks
pub mod StoredLaws
pub mod Raising
