pub mod Numbers
pub mod Cuts
pub mod Spaces
pub mod Firsts
pub mod Spellings
