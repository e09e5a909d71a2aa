pub mod AnswerSums
pub mod MaskSums
pub mod PatternSums
pub mod WaitingSums
