-- What is proved of numbers in bytes.
pub mod Little
pub mod Words
pub mod Places
