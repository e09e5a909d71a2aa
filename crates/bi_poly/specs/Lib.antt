pub mod Rows
pub mod Hasse
pub mod Degree
pub mod Substitution
pub mod Expansion
pub mod Combination
