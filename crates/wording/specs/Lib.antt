pub mod Wording
pub mod Inner
