pub mod AnswerLemmas
pub mod EditLemmas
pub mod FoundLemmas
pub mod QueryLemmas
pub mod EventRows
pub mod ChainReplies
