pub mod ConfigurationsLemmas
pub mod EachPlaceLemmas
mod FineLemmas
pub mod LayingLemmas
mod PlacesLemmas
mod PointersLemmas
pub mod StandingLemmas
pub mod TakenLemmas
mod WalksLemmas
