pub mod Words
pub mod Facts
pub mod Inner
