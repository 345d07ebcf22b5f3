pub mod KitsLemmas
pub mod SendLemmas
