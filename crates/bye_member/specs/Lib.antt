pub mod Lines
pub mod Listing
pub mod Downs
pub mod Plans
pub mod Searches
pub mod Answers
