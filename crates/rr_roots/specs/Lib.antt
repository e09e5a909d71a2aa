pub mod Roots
pub mod Values
pub mod Descent
