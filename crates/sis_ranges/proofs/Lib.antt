pub mod CallerLemmas
pub mod CutLemmas
pub mod JoinLemmas
pub mod MapLemmas
pub mod PartLemmas
pub mod PlaceLemmas
