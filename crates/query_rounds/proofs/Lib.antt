pub mod Asking
pub mod Schemes
pub mod Ranges
