-- The definitions that the contracts of `capture_bytes` cite, and the claim about the parts of an
-- answer.
pub mod Answers
pub mod Claims
