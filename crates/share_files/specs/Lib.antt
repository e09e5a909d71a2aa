pub mod SplitPlan
pub mod Limit
pub mod Sharing
pub mod Splits
