pub mod Pieces
pub mod Building
pub mod Labels
