pub mod Graphs
pub mod Walks
pub mod Changes
pub mod Forks
pub mod Edges
