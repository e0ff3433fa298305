mod Lines
pub mod Pieces
mod Telling
