pub mod Pairs
pub mod Kinds
pub mod Forms
pub mod Tables
pub mod Statuses
pub mod Lines
pub mod Told
