pub mod Spreading
pub mod Tasking
pub mod Planning
pub mod Judging
