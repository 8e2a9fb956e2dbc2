-- Commands that the table answers.
pub mod TableLaws
pub mod UnchangedSteps
pub mod TableChanges
pub mod TamperLaws
pub mod PeekLaws
pub mod ForwardedReads
