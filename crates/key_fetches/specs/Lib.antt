pub mod KeyRequest
pub mod Listed
pub mod Text
pub mod Rounds
pub mod Sent
pub mod LookedUp
