pub mod Sums
pub mod Least
pub mod Choices
pub mod Tables
pub mod Lists
