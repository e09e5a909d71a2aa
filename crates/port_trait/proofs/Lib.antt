pub mod Cells
pub mod Pieces
pub mod Served
pub mod Ranges
pub mod Carried
pub mod Links
pub mod Rises
