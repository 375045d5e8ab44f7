pub mod Padding
pub mod ParsedRecords
pub mod Steps
