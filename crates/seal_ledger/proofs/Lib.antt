pub mod MarkLemmas
pub mod CipherLemmas
pub mod NoteLemmas
