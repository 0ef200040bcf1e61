pub mod Starred
pub mod Bounds
