pub mod Bits
pub mod Places
pub mod Shares
pub mod ChosenSums
pub mod FourSums
pub mod RunSums
pub mod NextBits
