pub mod Writing
pub mod Lines
pub mod Turns
pub mod LineLemmas
pub mod ServedLines
pub mod Stating
pub mod Alone
pub mod ServedDesks
