pub mod Files
pub mod Name
pub mod Status
pub mod StoreNames
pub mod Units
