pub mod HonestAnswers
mod BlockSums
pub mod HeldRows
pub mod HonestColumns
pub mod HonestBlock
pub mod HonestFrames
pub mod HonestXor
pub mod HonestVerdicts
pub mod HonestReport
mod Judged
mod Counts
