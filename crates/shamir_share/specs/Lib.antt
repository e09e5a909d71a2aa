pub mod Query
pub mod Lanes
