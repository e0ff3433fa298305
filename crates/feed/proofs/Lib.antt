pub mod Pieces
pub mod PieceLines
mod TurnText
pub mod Feeding
