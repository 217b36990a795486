pub mod Pairs
pub mod Rows
pub mod Slots
pub mod Chains
pub mod Remembered
pub mod Keeping
pub mod Recalling
pub mod Slotting
