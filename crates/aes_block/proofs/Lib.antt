pub mod CipherLemmas
pub mod Entries
pub mod FastLemmas
pub mod FieldLemmas
pub mod KeyLemmas
pub mod ListLemmas
pub mod WordLemmas
