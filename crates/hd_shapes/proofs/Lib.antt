pub mod CodeLemmas
pub mod JoinLemmas
pub mod PackedLemmas
