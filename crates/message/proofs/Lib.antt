-- The laws of cutting.
pub mod Sizes
pub mod Written
pub mod Steps
pub mod Passed
-- The laws of joining.
pub mod Places
pub mod Positions
pub mod Judging
pub mod Users
pub mod Copying
pub mod Answers
-- The number and the values of each answer.
pub mod Numbers
