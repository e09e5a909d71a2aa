pub mod Ranges
pub mod Frames
pub mod Records
pub mod Joined
mod FirstAnswers
pub mod Adding
pub mod Replays
