pub mod Held
pub mod Judging
pub mod Reply
