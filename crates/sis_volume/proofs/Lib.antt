mod Applied
mod Blockwise
pub mod CallerLemmas
mod Committed
mod Counts
mod Freshness
pub mod Fronts
pub mod ImageLaws
pub mod NewImages
mod Lent
mod Pieces
mod Slices
mod Staged
pub mod Stopping
mod TableBits
pub mod Taken
pub mod Volumes
mod Writes
mod Written
