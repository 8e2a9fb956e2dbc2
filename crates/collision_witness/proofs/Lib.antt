pub mod NumberLemmas
pub mod TextLemmas
pub mod WordLemmas
pub mod CounterLemmas
pub mod Sentences
pub mod ReadBack
