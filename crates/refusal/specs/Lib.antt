-- The definitions that the contracts of `refusal` use, and checks with a position.
pub mod Numbers
pub mod Positions
