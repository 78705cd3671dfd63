-- What is proved of tables in bytes.

mod Bytes
pub mod Claims
