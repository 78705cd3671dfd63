-- Rows of fields, headers made of them, fixed fields as masks, and the law of rows.
pub mod Rows
pub mod Layouts
pub mod Masks
pub mod Law
