-- A page's path is named in the shadow tables.
pub mod PathNames
pub mod NamingOutcomes
