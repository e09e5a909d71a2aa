pub mod Ending
pub mod Reading
pub mod Text
pub mod Words
