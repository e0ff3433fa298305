pub mod Steps
pub mod Looks
pub mod Dues
pub mod Beside
