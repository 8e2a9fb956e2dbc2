pub mod Levels
pub mod PathPositions
pub mod Slots
pub mod NodeLaws
pub mod Trees
