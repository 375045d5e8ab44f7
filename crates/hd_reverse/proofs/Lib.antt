pub mod SlotLemmas
pub mod SumLemmas
pub mod FillLemmas
pub mod NumberLemmas
