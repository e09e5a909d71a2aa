pub mod HeldLengths
pub mod Guests
pub mod Replying
