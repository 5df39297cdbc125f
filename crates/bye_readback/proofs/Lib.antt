pub mod Writes
pub mod Slots
pub mod Blocks
pub mod Depths
pub mod Filters
pub mod Groups
pub mod WrittenDocuments
pub mod WrittenTexts
