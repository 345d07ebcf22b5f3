pub mod NamesLemmas
pub mod NumbersLemmas
pub mod OnceLemmas
pub mod PlansLemmas
pub mod Ranges
pub mod StepsLemmas
