pub mod Merging
pub mod Inner
