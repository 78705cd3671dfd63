-- What is proved of frames.

pub mod KindLaws
pub mod OneLayout
pub mod Frames
pub mod Ten
pub mod Numbers
