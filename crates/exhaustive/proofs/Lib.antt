pub mod Applicable
pub mod Adding
pub mod Passing
pub mod Lengths
