pub mod ByteLemmas
pub mod BlockRanges
pub mod AesLemmas
pub mod WeakLemmas
pub mod CipherLemmas
pub mod FoldLemmas
