pub mod Round
pub mod Columns
pub mod Closing
pub mod Bound
pub mod Inner
