-- Held lines are sealed anew, one by one or a page's at once.
pub mod LineReseals
pub mod ResealOutcomes
pub mod TurnOutcomes
pub mod LeftPlaces
pub mod PageFinishes
pub mod PageStops
pub mod FinishedFirst
