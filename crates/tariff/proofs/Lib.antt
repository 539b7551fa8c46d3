pub mod Walks
pub mod Naming
pub mod Keeping
pub mod Drafts
pub mod Chains
pub mod Names
mod Same
