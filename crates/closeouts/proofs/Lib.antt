pub mod Texts
pub mod LossFile
pub mod Named
pub mod LinesText
