pub mod Archiving
pub mod Inner
