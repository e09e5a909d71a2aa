pub mod Verdicts
pub mod Asking
pub mod Coins
pub mod Frames
pub mod Progress
pub mod Ends
pub mod Within
