pub mod Coefficients
pub mod Product
pub mod Division
pub mod Interpolation
pub mod Taylor
pub mod Binomial
