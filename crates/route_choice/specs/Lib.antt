-- The definitions that the contracts of `route_choice` cite, and the claim about what a choice
-- means.
pub mod Choosing
pub mod Meaning
