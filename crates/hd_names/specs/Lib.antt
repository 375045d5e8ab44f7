pub mod ListsInside
pub mod Fields
pub mod Named
pub mod Tables
pub mod FieldsInside
pub mod NamedInside
