pub mod Versions
pub mod Written
pub mod Reading
pub mod Facts
pub mod Inner
