pub mod Added
pub mod Lawful
pub mod Viewed
pub mod Finding
pub mod RootMarks
pub mod ViewInside
pub mod Losing
pub mod OneEdit
