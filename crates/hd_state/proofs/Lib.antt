pub mod MovedLemmas
pub mod RepairLemmas
pub mod NextLemmas
pub mod UndoneLemmas
