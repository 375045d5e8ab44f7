mod ListLemmas
pub mod TableLemmas
mod FieldLemmas
pub mod NamedLemmas
