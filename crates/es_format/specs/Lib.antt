pub mod Json
pub mod MessageData
pub mod Stylish
pub mod Tallies
