pub mod Told
pub mod Explained
pub mod Inner
