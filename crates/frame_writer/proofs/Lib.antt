-- What is proved of writing a frame.
pub mod Writing
pub mod Verdicts
pub mod Places
pub mod Answers
pub mod Routes
