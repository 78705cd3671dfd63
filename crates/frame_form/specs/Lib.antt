-- The definitions that the contracts of `frame_form` cite, and the bytes of a frame.
pub mod Forms
pub mod Segments
pub mod Frames
