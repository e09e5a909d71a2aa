pub mod Field
pub mod Sums
pub mod Polynomial
pub mod Product
pub mod Products
pub mod Rows
pub mod Tables
