pub mod RunSums
pub mod Workers
pub mod PieceSums
pub mod BlockSums
