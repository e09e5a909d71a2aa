pub mod Claims
pub mod Rows
pub mod Judging
pub mod Checks
pub mod Steps
