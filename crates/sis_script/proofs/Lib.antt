pub mod LineLemmas
pub mod PrintLemmas
pub mod ReadLemmas
pub mod TakenLemmas
pub mod TurnLemmas
