pub mod Records
pub mod Written
pub mod Reading
pub mod Reader
pub mod Files
pub mod Putting
pub mod Taking
