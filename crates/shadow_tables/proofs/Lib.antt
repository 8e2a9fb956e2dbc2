pub mod EntryLemmas
pub mod NameLemmas
pub mod ShadowLines
pub mod EntryLaws
