pub mod Header
pub mod Logged
pub mod Edits
pub mod Serving
pub mod Store
pub mod Plans
pub mod Promised
pub mod Determined
