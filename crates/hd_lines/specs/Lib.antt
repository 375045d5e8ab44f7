pub mod Lines
pub mod Asking
pub mod Memory
pub mod Names
pub mod Replies
pub mod Sessions
pub mod Stat
pub mod SessionExamples
