pub mod Spelled
pub mod Standing
pub mod Answers
