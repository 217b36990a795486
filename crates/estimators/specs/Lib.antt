pub mod Sound
pub mod Ranges
pub mod GoalCounts
pub mod Layers
pub mod GoalCounting
pub mod Tallies
pub mod Layering
