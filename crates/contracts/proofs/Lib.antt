pub mod Walks
pub mod Keeping
pub mod Searches
pub mod Orders
pub mod Spans
