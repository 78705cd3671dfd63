-- The kinds of packets and their layouts.
pub mod Kinds
