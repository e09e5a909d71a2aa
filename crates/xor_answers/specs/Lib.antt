pub mod Asked
pub mod Masked
pub mod Patterns
pub mod Waiting
