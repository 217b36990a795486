pub mod Bits
pub mod Signs
pub mod Sets
pub mod Counts
pub mod Members
