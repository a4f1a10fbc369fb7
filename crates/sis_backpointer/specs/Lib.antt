pub mod Backs
pub mod Inside
