-- The claims about the position of a fault.
pub mod Wrong
pub mod FirstFault
