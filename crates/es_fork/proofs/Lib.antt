pub mod GraphsLemmas
pub mod ChangesLemmas
pub mod MakingLemmas
pub mod ListsLemmas
pub mod ChangeFacts
pub mod WalksLemmas
pub mod NewLemmas
