pub mod Numbers
pub mod Asking
pub mod Query
pub mod Answers
pub mod Judging
pub mod Listing
pub mod Liars
pub mod Replaying
