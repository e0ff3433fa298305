pub mod Places
pub mod Closing
pub mod Sliding
pub mod Passing
pub mod ClosedUp
