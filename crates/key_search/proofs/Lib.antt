pub mod Turns
pub mod ByAnswers
pub mod LookUp
