pub mod DeclarationsLemmas
pub mod DefaultsLemmas
pub mod ErrorsLemmas
pub mod KindsLemmas
pub mod NotesLemmas
pub mod PrivateNamesLemmas
