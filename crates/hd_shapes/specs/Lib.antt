pub mod Codes
pub mod Shapes
pub mod PackedShapes
pub mod JoinedShapes
