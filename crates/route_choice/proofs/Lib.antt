-- What is proved of choices.
pub mod Meaning
pub mod Cases
pub mod Numbers
