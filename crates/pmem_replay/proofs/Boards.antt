-- Flags.
pub mod StampLemmas
pub mod FlagLemmas
