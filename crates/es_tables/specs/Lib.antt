pub mod Nodes
pub mod Rows
pub mod Searches
pub mod Words
