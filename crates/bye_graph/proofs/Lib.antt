pub mod Halving
pub mod Sorted
pub mod Numbers
pub mod Growing
pub mod Ordering
pub mod Asking
