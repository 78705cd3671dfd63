-- What is proved of captures for callers that are not written in Rattle.

pub mod Sizes
pub mod Claims
