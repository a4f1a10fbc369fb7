pub mod Details
pub mod Fields
pub mod Printed
pub mod Script
pub mod Steps
pub mod Taken
pub mod Verbs
pub mod Views
