pub mod Chain
pub mod Numbers
pub mod Fields
pub mod Lines
pub mod Cursor
