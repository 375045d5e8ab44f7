pub mod FieldLemmas
pub mod PlaceLemmas
pub mod FitLemmas
pub mod LinkLemmas
pub mod LookLemmas
pub mod FirstLemmas
pub mod NameLemmas
pub mod FirstClassLemmas
pub mod SearchLemmas
pub mod ChainLemmas
pub mod ResolvedLemmas
pub mod KeptLemmas
pub mod PathLemmas
pub mod KnownLemmas
pub mod ClassNameLemmas
pub mod RepeatLemmas
pub mod SideLemmas
mod NamingLemmas
mod NamedTableLemmas
