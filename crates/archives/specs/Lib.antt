pub mod Entries
pub mod Files
pub mod Inner
