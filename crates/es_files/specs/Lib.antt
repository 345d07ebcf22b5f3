pub mod Fakes
pub mod Outside
pub mod Real
pub mod Seen
pub mod Streams
