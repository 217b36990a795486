pub mod Sweeps
pub mod Ranges
pub mod Filters
pub mod Computing
pub mod Running
pub mod Calling
