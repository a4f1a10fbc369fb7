pub mod Cores
pub mod Defects
pub mod Early
pub mod Hands
pub mod Lines
pub mod Ran
pub mod Reopening
pub mod WordLemmas
