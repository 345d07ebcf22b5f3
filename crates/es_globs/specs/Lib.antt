pub mod Fitting
pub mod Globs
pub mod Lists
pub mod Parts
pub mod Patterns
pub mod Reading
pub mod Segments
pub mod Spelling
