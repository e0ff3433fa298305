pub mod Parts
pub mod Joining
pub mod Listing
pub mod Rising
pub mod JoinGiven
