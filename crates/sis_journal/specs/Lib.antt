pub mod Committing
pub mod Formatting
pub mod Inside
pub mod Opening
pub mod Texts
pub mod View
