pub mod Classes
pub mod Cursors
pub mod Forms
pub mod Integers
pub mod Items
pub mod Longest
pub mod Pieces
