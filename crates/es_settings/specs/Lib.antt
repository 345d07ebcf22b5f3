pub mod Globals
pub mod Rules
pub mod Settings
pub mod Sorting
