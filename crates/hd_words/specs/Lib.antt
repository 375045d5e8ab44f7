pub mod Words
pub mod SlotWords
pub mod EventLines
pub mod FirstLines
pub mod Hints
