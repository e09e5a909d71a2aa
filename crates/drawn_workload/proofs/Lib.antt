pub mod StreamBytes
pub mod Workloads
pub mod AnswerColumns
