pub mod Reading
pub mod ParsedRecords
