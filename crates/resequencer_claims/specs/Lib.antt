-- The claims about whole histories of the resequencer: `Demand3`, also of the calls on lent bytes
-- (`Demand3OfBytes`), `RisingClaim` and `Wanted`.
pub mod Calls
pub mod Events
pub mod Demand3
pub mod Rising
pub mod Wanted
pub mod Bytes
