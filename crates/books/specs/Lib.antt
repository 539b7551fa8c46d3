pub mod Cells
pub mod Journal
pub mod State
pub mod Limits
pub mod Answers
pub mod Shifts
