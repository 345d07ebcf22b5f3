mod ClausesLemmas
mod FloatsLemmas
pub mod RangesLemmas
mod RestrictionsLemmas
mod SeenLemmas
mod ShorterLemmas
mod SpelledLemmas
mod TrailingLemmas
