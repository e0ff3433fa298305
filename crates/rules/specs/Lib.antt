pub mod Refusals
pub mod Effects
pub mod Numbered
pub mod Inner
