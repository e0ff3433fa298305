pub mod Exposures
pub mod Joined
pub mod Lists
pub mod Inner
