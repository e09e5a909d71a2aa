pub mod InnerProducts
mod Pivots
mod FirstNonzero
mod Elimination
mod Solution
mod Places
