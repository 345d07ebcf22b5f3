pub mod JsonLemmas
pub mod NumbersLemmas
pub mod StylishLemmas
pub mod TalliesLemmas
