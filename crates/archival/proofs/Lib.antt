pub mod Closing
pub mod Answers
pub mod InOrder
