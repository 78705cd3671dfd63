-- What is proved of forms, segments and frames.
pub mod Segments
pub mod Forms
pub mod Frames
pub mod Claims
