pub mod Numbers
pub mod Words
pub mod Inner
pub mod Decimals
