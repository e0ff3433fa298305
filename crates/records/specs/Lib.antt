pub mod Runs
pub mod LineNumbers
pub mod Inner
