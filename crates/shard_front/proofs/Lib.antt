mod Spreads
mod Usable
mod Rooms
mod Parting
mod Linking
mod Sharding
mod Summing
mod Fronting
mod Telling
pub mod Counting
mod ShardProducts
mod HonestParts
mod HonestShards
