pub mod Agreed
pub mod Columns
pub mod Counting
pub mod Ascending
pub mod HexText
pub mod Members
pub mod OneVerdict
pub mod Places
pub mod TextLines
mod Collected
mod Combined
pub mod Numbered
pub mod Weight
pub mod OneBlock
pub mod UsableAnswers
pub mod Continues
pub mod Pairs
pub mod Squares
pub mod Johnson
pub mod HeavyVectors
pub mod Vectors
mod Holding
pub mod Continued
mod Kept
mod Runs
mod Visits
mod Costs
pub mod FewBlocks
pub mod HeavyByLength
mod Products
mod Lists
pub mod FewLists
mod Candidates
mod Turns
pub mod Reported
pub mod OneReport
mod Beside
mod Judged
mod FirstAnswers
pub mod Others
