pub mod Cells
pub mod Decoding
pub mod Compiling
pub mod Solving
pub mod Stepping
pub mod Shaping
pub mod Holding
pub mod Values
