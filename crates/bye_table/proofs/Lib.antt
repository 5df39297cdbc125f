pub mod Merging
pub mod RowNames
pub mod RowNumbers
pub mod OneSpelling
pub mod SortedSets
