pub mod RowSums
pub mod Parts
pub mod Pieces
pub mod Blocks
pub mod Group
