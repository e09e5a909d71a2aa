pub mod SixRows
pub mod Runs
pub mod Queries
pub mod Blocks
pub mod Trios
pub mod Gathered
