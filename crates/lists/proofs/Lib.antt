-- What is proved of lists.
pub mod Lists
pub mod Frames
pub mod Copying
