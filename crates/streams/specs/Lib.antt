pub mod Calls
pub mod Names
pub mod Words
