pub mod Alike
pub mod Parting
pub mod Naming
pub mod Wording
pub mod Holding
pub mod Showing
pub mod Example
