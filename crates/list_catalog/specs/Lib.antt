pub mod Member
pub mod Steps
pub mod Serving
pub mod Facts
pub mod Documents
pub mod Reading
pub mod Writing
pub mod Said
