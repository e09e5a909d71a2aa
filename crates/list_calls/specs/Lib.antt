pub mod Numbers
pub mod Find
