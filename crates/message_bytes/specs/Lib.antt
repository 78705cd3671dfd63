-- The definitions that the contracts of `message_bytes` cite, and the claim about the parts of an
-- answer.
pub mod Answers
pub mod Claims
