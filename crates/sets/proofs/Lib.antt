pub mod BitLaws
pub mod Counting
pub mod Words
pub mod Membership
pub mod Listing
