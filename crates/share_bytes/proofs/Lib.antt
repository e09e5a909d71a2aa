pub mod ProductSums
pub mod Shares
