pub mod Listing
pub mod Joined
pub mod Renumbering
pub mod Answers
