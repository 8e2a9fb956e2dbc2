pub mod Formulas
pub mod Setup
pub mod Weak
pub mod Aes
pub mod Suites
