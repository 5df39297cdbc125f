pub mod Members
pub mod Lists
pub mod Tests
pub mod Texts
pub mod Orders
pub mod Escapes
pub mod Readings
pub mod RdfTerms
