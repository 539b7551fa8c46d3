pub mod Kinds
pub mod Table
pub mod Rules
pub mod Rows
pub mod Lines
pub mod Seen
pub mod Hours
pub mod Views
