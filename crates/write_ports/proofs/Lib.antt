pub mod BitLemmas
pub mod WriteLemmas
pub mod PostLemmas
