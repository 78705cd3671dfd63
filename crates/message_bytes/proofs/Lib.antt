-- What is proved of messages for callers that are not written in Rattle.
pub mod Sizes
pub mod Claims
