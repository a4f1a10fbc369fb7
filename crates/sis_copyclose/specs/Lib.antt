pub mod Calls
pub mod Changed
pub mod Hindering
pub mod Inside
pub mod Operating
pub mod Reading
