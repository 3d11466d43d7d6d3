pub mod Pieces
pub mod View
pub mod inner
