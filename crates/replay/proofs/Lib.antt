pub mod Readings
mod Judged
