pub mod TagSlots
