pub mod Decidable
pub mod Listable
