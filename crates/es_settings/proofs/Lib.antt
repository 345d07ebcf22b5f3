pub mod SortingLemmas
