-- The definitions that the contracts of `message` cite: cutting and joining, document 01, "Cutting
-- and joining".
pub mod Cutting
pub mod Joining
-- those that only its private functions cite
pub mod CuttingParts
pub mod JoiningParts
