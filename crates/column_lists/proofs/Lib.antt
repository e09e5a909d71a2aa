pub mod Counting
pub mod ComposedDegree
pub mod Agreeing
pub mod Kept
pub mod Listed
pub mod OnOne
pub mod Near
