pub mod Pairs
pub mod Loops
pub mod Numbers
pub mod Runs
pub mod Sent
