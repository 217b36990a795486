pub mod Jobs
pub mod Ends
