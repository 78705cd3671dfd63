-- What is proved of messages that cross the link.
pub mod Sending
pub mod Arriving
pub mod InOrder
pub mod Claims
pub mod Within
pub mod Witness
