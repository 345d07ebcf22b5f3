pub mod FittingLemmas
pub mod PartsLemmas
pub mod ReadingLemmas
pub mod SpellingLemmas
