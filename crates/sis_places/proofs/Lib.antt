pub mod WordLemmas
pub mod Tally
pub mod BitLemmas
pub mod PlacesLemmas
pub mod Searches
pub mod CallerLemmas
