pub mod Fed
pub mod Pieces
pub mod Books
pub mod Inner
