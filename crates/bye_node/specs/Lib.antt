pub mod Envs
pub mod Pins
pub mod Steps
pub mod Conds
