pub mod Lengths
pub mod NameFields
pub mod NameUnits
pub mod Ranges
pub mod ReadLemmas
pub mod Spelled
