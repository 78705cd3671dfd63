-- What is proved of route lists and tables.
mod Reading
mod Joining
mod Reporting
mod Cases
pub mod Meaning
