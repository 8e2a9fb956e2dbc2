pub mod DoneBits
pub mod LinesLeft
pub mod Places
pub mod Holding
pub mod AtPlace
