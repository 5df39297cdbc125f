pub mod Sets
pub mod Parts
pub mod Readers
pub mod Brackets
pub mod Answers
pub mod Nests
pub mod ReadNests
pub mod Laws
