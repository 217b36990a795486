pub mod Sequences
pub mod Tried
pub mod Answered
