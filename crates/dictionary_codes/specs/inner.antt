pub mod Codes
pub mod Known
pub mod MaskParts
pub mod PlaceFrom
pub mod Places
pub mod Same
pub mod Seen
pub mod Stamped
