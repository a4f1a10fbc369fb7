pub mod Bytes
pub mod Filling
pub mod ReadLemmas
pub mod Spelled
