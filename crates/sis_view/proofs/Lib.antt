pub mod CallerLemmas
pub mod ReadLemmas
