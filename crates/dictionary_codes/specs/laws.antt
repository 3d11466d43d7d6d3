pub mod AllCells
pub mod Bitmaps
pub mod MaskedItems
pub mod MaskedRuns
pub mod Repeated
pub mod SlotCounts
