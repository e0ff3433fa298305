pub mod Sound
pub mod Placed
pub mod Asked
pub mod NeedsListed
pub mod Evening
pub mod TakeOver
pub mod Facts
pub mod Inner
