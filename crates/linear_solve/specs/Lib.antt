pub mod Matrix
pub mod Kernel
pub mod Echelon
