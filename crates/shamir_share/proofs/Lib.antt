mod Horner
mod LaneParts
mod LanePlaces
mod Swizzled
pub mod Rows
pub mod Queries
