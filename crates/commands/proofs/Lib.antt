mod Saying
mod Replaying
pub mod Headline
mod Children
mod Demonstrating
mod Loading
mod Serving
mod ServeHeadline
mod UnusedBits
pub mod HonestReplies
mod HeldRow
mod Formless
mod Ordered
mod InTurn
pub mod Fetching
mod AskedRow
mod LookingUp
mod SelfrunHeadline
mod Splitting
mod FrontAnswers
mod Fronting
mod SplitHeadline
