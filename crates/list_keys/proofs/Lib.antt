pub mod Splits
pub mod Faults
pub mod Parts
pub mod Places
mod Given
mod Readers
mod KeyLists
mod Wholes
