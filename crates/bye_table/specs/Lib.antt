pub mod Mappings
pub mod Tables
pub mod Cells
pub mod Sorted
pub mod Domains
pub mod DomainTrees
