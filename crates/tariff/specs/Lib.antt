pub mod Settlements
pub mod Said
pub mod Rows
pub mod Ranges
pub mod Rules
pub mod Views
