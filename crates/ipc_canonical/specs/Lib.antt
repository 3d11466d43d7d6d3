pub mod WrittenBatch
pub mod Numbered
pub mod Canonical
pub mod Pieces
pub mod PieceStreams
pub mod laws
