pub mod Conds
pub mod Numbers
pub mod Candidates
pub mod Restrictions
pub mod Patterns
pub mod Ranking
pub mod Strongest
