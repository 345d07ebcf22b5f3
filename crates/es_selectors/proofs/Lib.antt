mod AboveLemmas
mod AlikeLemmas
mod AtomLemmas
mod BelowLemmas
mod DecimalLemmas
mod GroupLemmas
mod KindLemmas
mod LexicalLemmas
mod OtherKindLemmas
mod RangeLemmas
mod SameLemmas
pub mod SendLemmas
mod SpellingLemmas
mod StandsLemmas
mod ToldLemmas
mod Weights
