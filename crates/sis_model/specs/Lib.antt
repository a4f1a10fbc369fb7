pub mod Answer
pub mod Copy
pub mod History
pub mod Opens
pub mod Order
pub mod Recorded
pub mod World
