pub mod Texts
pub mod Losses
pub mod LossLines
pub mod Inner
