-- What is proved of the frames that the demonstration finds and keeps.
pub mod Finding
pub mod Keeping
pub mod Going
