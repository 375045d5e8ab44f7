pub mod PlaceLemmas
pub mod ResultLemmas
