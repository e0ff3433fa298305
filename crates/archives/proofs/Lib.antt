pub mod Looked
pub mod Lines
pub mod Held
pub mod Filing
pub mod Example
