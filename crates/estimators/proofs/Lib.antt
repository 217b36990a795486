pub mod Listed
pub mod Gaining
pub mod Growing
