pub mod Chains
pub mod Digits
pub mod Entered
pub mod InRanges
pub mod Keys
pub mod Parsing
pub mod ValuesInRange
pub mod NamedRows
