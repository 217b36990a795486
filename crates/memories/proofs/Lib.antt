pub mod Chaining
pub mod Finding
pub mod Holding
pub mod Recalling
