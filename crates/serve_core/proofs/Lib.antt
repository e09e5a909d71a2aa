mod Frame
mod Written
pub mod RoomFor
pub mod OneReply
mod Taking
mod Replying
pub mod ServingOne
pub mod ServingNext
