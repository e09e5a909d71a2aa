mod Rows
mod Reading
mod Steps
