pub mod Alone
pub mod Banks
pub mod Sets
pub mod State
pub mod KeptSlots
