mod Bytes
pub mod CallerLemmas
pub mod Edits
pub mod Readings
pub mod Rising
