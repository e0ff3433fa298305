pub mod Most
pub mod Facts
pub mod Inner
