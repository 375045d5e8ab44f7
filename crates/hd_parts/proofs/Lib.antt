pub mod FirstLemmas
pub mod WholeLemmas
