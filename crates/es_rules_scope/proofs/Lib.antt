mod NamesLemmas
pub mod VariablesLemmas
mod WordsLemmas
pub mod GlobalsLemmas
pub mod MarksLemmas
pub mod RangesLemmas
