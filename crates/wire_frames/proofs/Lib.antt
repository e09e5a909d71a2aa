pub mod Answering
pub mod Beginnings
mod Causes
mod Chains
pub mod Counts
mod Digits
mod NumberPrefixes
mod Filing
pub mod Prefixes
mod PartialHeaders
mod HeaderPieces
mod SessionLayout
pub mod Parsing
mod QueryLayout
mod RecordLayout
mod RecordSteps
pub mod Schemes
pub mod Servers
mod ShapeFields
mod Spellings
pub mod Turns
mod SessionStates
pub mod Spans
pub mod UnderWay
pub mod OneSession
pub mod StopPlaces
