pub mod AroundLemmas
mod AttributesLemmas
mod EntriesLemmas
mod NumberingLemmas
mod PartsLemmas
mod RowsLemmas
mod ShapesLemmas
mod SpansLemmas
