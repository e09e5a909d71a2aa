pub mod Conditions
pub mod Layout
pub mod Family
pub mod Steps
pub mod Expansion
pub mod Window
pub mod Basis
pub mod BasisInside
