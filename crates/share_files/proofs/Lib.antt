pub mod Carried
pub mod Limits
pub mod NamesInTurn
pub mod Pieces
pub mod Shares
