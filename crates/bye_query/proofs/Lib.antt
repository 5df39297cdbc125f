pub mod Tokens
pub mod Texts
pub mod Selects
pub mod Coming
pub mod OneAnswer
