pub mod View
pub mod Rows
pub mod Ranges
pub mod Facts
pub mod DeemedUnder
pub mod Modes
pub mod KeptNeeds
pub mod Inner
