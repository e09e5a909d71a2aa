pub mod Puts
pub mod Lookups
pub mod Servings
pub mod Saying
pub mod Faithful
pub mod Lines
pub mod Sizes
pub mod ReadBack
