pub mod Bytes
pub mod Counts
pub mod Files
pub mod InMemory
pub mod MemFolder
pub mod Plan
pub mod Real
