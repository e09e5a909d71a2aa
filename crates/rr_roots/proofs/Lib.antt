mod Levels
mod Multiplicities
mod Children
mod Nodes
mod ByteValues
pub mod Places
