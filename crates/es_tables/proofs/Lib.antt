mod NodesLemmas
mod PrefixLemmas
mod RowsLemmas
mod SearchesLemmas
