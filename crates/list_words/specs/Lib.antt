pub mod Command
pub mod Table
pub mod Amounts
pub mod Values
pub mod Answer
