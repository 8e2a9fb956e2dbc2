pub mod ListLemmas
pub mod SetLemmas
pub mod WayLemmas
pub mod FormLemmas
pub mod CacheLemmas
pub mod StepLemmas
pub mod DirtyLemmas
pub mod SlotLemmas
