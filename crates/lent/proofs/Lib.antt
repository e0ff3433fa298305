pub mod Lent
pub mod Refused
pub mod Filled
