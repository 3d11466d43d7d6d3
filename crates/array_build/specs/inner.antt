pub mod Masked
pub mod MaskedContents
pub mod MaskedLists
pub mod RunItems
pub mod RunOffsets
pub mod RunParts
pub mod Runs
