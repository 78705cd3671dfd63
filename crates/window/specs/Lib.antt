-- The two ends: the definitions that the contracts of `window` use.
pub mod Sending
pub mod Receiving
-- The claims: over any history of calls at one end, over both ends together, and of refusals.
pub mod History
pub mod BothEnds
pub mod Refusing
