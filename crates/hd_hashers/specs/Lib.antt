pub mod IdHash
pub mod PageHash
pub mod Scatter
