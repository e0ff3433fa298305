pub mod Answers
pub mod Steps
pub mod Over
pub mod Inner
