pub mod Singles
pub mod TripleRules
pub mod GroupRules
pub mod DocumentRules
pub mod DocumentLaws
pub mod ValidSingles
pub mod ValidRules
pub mod WorkedDocuments
