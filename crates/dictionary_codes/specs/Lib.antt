pub mod CodedCells
pub mod Masks
pub mod Named
pub mod Room
pub mod laws
pub mod inner
