pub mod Monomials
pub mod Interpolant
