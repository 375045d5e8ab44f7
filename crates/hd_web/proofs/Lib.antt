pub mod TableLemmas
pub mod SessionLemmas
pub mod TalkLemmas
