pub mod PartLemmas
pub mod CommandLemmas
pub mod AnswerLemmas
pub mod LineLemmas
pub mod LogLemmas
