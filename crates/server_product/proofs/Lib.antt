pub mod SixSums
pub mod RunSums
pub mod QuerySums
pub mod BlockSums
pub mod TrioSums
pub mod Gathering
