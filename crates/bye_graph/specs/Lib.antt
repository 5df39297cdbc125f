pub mod Keys
pub mod Graphs
pub mod Orders
