pub mod ChainLemmas
pub mod GatheringLemmas
pub mod InsideLemmas
pub mod ListLemmas
pub mod NestLemmas
pub mod PlaceLemmas
pub mod TableLemmas
pub mod VariablesLemmas
