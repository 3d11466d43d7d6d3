pub mod Cut
pub mod CutRows
pub mod Piece
pub mod SeenRows
pub mod inner
pub mod laws
pub mod Rows
pub mod Left
