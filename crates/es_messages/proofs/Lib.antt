pub mod FixesLemmas
pub mod ListsLemmas
pub mod TextsLemmas
pub mod UnusedLemmas
pub mod PartsLemmas
pub mod PlacesLemmas
pub mod JoinedLemmas
pub mod WidthLemmas
