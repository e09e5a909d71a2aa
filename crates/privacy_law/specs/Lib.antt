pub mod Hiding
pub mod Pieces
pub mod Partner
pub mod Bijection
pub mod Alike
