pub mod PowerLaws
pub mod ToldLines
pub mod ResultLaws
pub mod SteadyLaws
pub mod SuiteLaws
