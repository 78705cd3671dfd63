-- The claims about messages that cross the link, from cutting to joining.
pub mod Circuit
pub mod Claims
pub mod Rule
pub mod Within
pub mod Witness
