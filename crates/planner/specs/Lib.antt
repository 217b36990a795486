pub mod Jobs
pub mod Planned
