-- Numbers in bytes, lowest byte first, and the law of writing and reading them.
pub mod Little
pub mod Law
