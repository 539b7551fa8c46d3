pub mod First
pub mod Walking
pub mod OfOpening
pub mod OfDraft
pub mod Rows
pub mod Wholes
pub mod Law
mod Steps
