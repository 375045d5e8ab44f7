pub mod BodyLemmas
pub mod SpanLemmas
pub mod Spans
pub mod FewLemmas
pub mod JoinLemmas
pub mod PartLemmas
pub mod ShareLemmas
