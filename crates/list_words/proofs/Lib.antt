pub mod Parsing
mod Entered
