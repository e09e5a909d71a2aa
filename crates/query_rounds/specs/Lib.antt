pub mod Plan
pub mod Request
pub mod Queries
pub mod Sent
pub mod Link
pub mod Rounds
pub mod Tossed
pub mod Gathered
