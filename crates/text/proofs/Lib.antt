pub mod Digits
pub mod Values
pub mod Widths
pub mod Puts
pub mod Pairs
pub mod Spilling
mod TextWords
mod Turns
pub mod Lists
mod Saying
