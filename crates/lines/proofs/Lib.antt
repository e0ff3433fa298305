pub mod Widths
pub mod Records
pub mod Agreement
pub mod Example
